-- Laws that the proofs of several functions cite.
pub mod LoopLaws
pub mod PieceLaws
pub mod AdmissionLaws
