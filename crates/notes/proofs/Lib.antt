-- Laws that the proofs of this crate share.
pub mod EntryLaws
pub mod OpenLaws
