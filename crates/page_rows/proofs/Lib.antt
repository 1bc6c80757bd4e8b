-- Laws that the proofs of this crate share.
pub mod PutLaws
pub mod TextLaws
pub mod RowLaws
pub mod CountLaws
pub mod PageLaws
