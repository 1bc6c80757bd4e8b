-- The kind of a byte, the numbers of the kinds, and tables filled by ranges of bytes.
pub mod Kinds
pub mod Numbers
pub mod Ranges
