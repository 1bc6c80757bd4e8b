-- Laws that the proofs of this crate share.
pub mod BindingLaws
pub mod ContextLaws
pub mod NotedLaws
pub mod MeaningLaws
