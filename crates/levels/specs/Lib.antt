-- What the code says of a level: where things lie, and what each function leaves.
pub mod Places
pub mod Finds
pub mod FoundPosts
pub mod LeafPosts
pub mod ContextPosts
pub mod ArgumentPosts
pub mod BinderPosts
-- Laws for this crate and those above it.
pub mod Parts
pub mod Spots
