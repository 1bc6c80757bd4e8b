-- Paragraph lines.
pub mod Posts
