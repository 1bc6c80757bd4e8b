-- What is said of a pair of sides.
pub mod Posts
pub mod Sides
