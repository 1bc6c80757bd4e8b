-- What the working store notes of paragraphs.
pub mod Note
pub mod NoteLaws
pub mod Posts
