-- Lines and paragraphs by their names, from the innermost open paragraph outward.
pub mod Posts
