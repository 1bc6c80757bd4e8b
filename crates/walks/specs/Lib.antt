-- Paragraphs found by a walk over the pieces of a book.
pub mod Walk
pub mod WalkLaws
pub mod Posts
