-- Laws that the proofs of this crate share.
pub mod SymbolLaws
pub mod WordLaws
pub mod SameLaws
pub mod NextLaws
pub mod UsedLaws
