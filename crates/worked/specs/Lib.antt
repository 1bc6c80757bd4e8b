-- Worked cases of papers 1, 7 and 13.
pub mod Omitted
pub mod ParagraphCases
pub mod ExamplesQE
pub mod Worked
