-- Laws that the proofs of this crate share.
pub mod StoreLaws
pub mod LaidLaws
pub mod ReadLaws
pub mod WrittenLaws
pub mod ExpressionLaws
pub mod PairLaws
pub mod CompletedLaws
pub mod NamedLaws
pub mod ArgumentLaws
pub mod NumberedLaws
