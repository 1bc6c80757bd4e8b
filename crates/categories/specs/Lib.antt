-- What the code of categories says.
pub mod AnyDepth
pub mod Places
pub mod Posts
