pub mod StaysInside
pub mod QuotedLines
pub mod Derivations
