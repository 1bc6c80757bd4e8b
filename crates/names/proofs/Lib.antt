-- Laws that the proofs of this crate share.
pub mod PartLaws
pub mod HashLaws
pub mod LinkLaws
pub mod FindLaws
