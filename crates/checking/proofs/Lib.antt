-- Laws that the proofs of several functions cite.
pub mod StoreLaws
pub mod ReadLaws
pub mod EntryLaws
pub mod HintLaws
pub mod LineLaws
