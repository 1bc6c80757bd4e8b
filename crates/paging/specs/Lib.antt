-- Printed pages, in both languages.
-- A line with other spaces is read as the same line, and spaces dropped join no symbols.
pub mod Without
pub mod SameReading
pub mod NeverJoined
-- The lines read back from pages, and what they mean.
pub mod Rows
pub mod PagesReadBack
pub mod PaddedLines
-- Without spaces they are checked alike.
pub mod SameChecks
pub mod Places
pub mod ReadsBack
