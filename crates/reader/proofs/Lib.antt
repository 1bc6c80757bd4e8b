-- Laws that the proofs of this crate share.
pub mod IndicatorLaws
pub mod EndingLaws
pub mod MiddleLaws
pub mod BodyLaws
pub mod StepLaws
pub mod LimitLaws
pub mod LineLaws
