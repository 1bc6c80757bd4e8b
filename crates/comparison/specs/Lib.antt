-- What the comparison leaves.
pub mod Posts
