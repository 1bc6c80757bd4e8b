-- Laws that the proofs of this crate share.
pub mod NumberLaws
pub mod InLaws
pub mod SeekLaws
pub mod UseLaws
