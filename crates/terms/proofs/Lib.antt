pub mod Writes
pub mod WalkLaws
pub mod Turns
pub mod LeafLaws
pub mod VariableLaws
pub mod Whole
pub mod ChangeLaws
