-- Laws of the two comparisons.
pub mod Depths
pub mod Parts
pub mod Pairs
pub mod Attempts
