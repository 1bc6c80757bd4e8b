-- Laws that the proofs of this crate share.
pub mod PutLaws
pub mod EntryLaws
pub mod LevelLaws
pub mod OpeningLaws
pub mod ClosingLaws
