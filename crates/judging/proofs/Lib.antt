-- Laws that the proofs of this crate cite.
pub mod Placing
pub mod Judging
