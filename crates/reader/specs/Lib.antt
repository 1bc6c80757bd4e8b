-- Reading a line: its form, its names, its cells.
pub mod Posts
