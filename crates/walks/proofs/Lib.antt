-- Laws that the proofs of this crate share.
pub mod LineLaws
pub mod LoopLaws
