-- What each function leaves.
pub mod ComparisonPosts
pub mod FittingPosts
pub mod ApplicationPosts
-- Laws for this crate and those above it.
pub mod Answers
