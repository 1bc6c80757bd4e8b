-- Lines by their identifiers and paragraphs, by rows and by hints.
pub mod Search
pub mod Known
pub mod Chains
pub mod Hints
pub mod HintLaws
pub mod Posts
