-- Strings of cells: the bindings around each expression that is still to come, and what the functions say.
pub mod Levels
pub mod Notes
pub mod Posts
