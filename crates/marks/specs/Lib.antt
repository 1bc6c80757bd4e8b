-- Marks on numbers.
pub mod Marks
pub mod BitLaws
pub mod MarkLaws
