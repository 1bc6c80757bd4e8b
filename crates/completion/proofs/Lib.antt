-- Laws that the proofs of this crate share.
pub mod ShiftLaws
pub mod UpLaws
pub mod VariableLaws
pub mod PutInLaws
pub mod LeftOutLaws
