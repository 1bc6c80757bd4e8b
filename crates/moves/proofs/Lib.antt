-- Laws that the proofs of this crate share.
pub mod TitleLaws
pub mod CheckLaws
pub mod LineLaws
pub mod ReadLaws
