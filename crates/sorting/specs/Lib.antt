-- What sorting leaves.
pub mod Posts
