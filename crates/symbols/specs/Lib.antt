-- What reading at a place of a line gives.
pub mod Symbols
