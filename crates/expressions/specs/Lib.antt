-- Reading a line: its form, its names, its cells.
pub mod Walk
pub mod Posts
