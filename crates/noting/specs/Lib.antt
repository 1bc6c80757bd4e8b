-- The note of paragraphs, written.
pub mod Posts
