-- Where a line ends, its heading, and paragraph lines.
pub mod Signs
pub mod ReadLine
pub mod Posts
