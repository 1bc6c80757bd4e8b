-- What the check relies on of the lines before the one at hand, and how large the cells of expressions over them are; where a head step
-- lies, and what its search leaves.
pub mod Book
pub mod Depths
pub mod Heads
pub mod Posts
