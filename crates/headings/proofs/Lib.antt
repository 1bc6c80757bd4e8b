-- Laws that the proofs of this crate share.
pub mod LineEndLaws
pub mod HeadLaws
pub mod SignLaws
