-- Following names: what is marked, the marked `PN` lines, what the functions leave.
pub mod Adding
pub mod Cellwise
pub mod RowNames
pub mod Primitives
pub mod Writing
pub mod Following
pub mod Posts
