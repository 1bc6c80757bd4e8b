-- Laws that the proofs of this crate cite.
pub mod ReadLaws
pub mod WalkLaws
pub mod CellLaws
pub mod NoteLaws
pub mod WholeLaws
