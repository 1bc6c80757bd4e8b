-- What is recorded of a book: the rows and cells of its lines, and how a line read becomes the next of them.
pub mod Tables
pub mod ReadLines
pub mod Reached
pub mod Indexed
pub mod Runs
pub mod Bounds
pub mod OnRecord
pub mod Widths
