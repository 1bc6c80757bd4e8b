-- Pairs of strings: what a sheet of outcomes holds, what the functions say, and slices lent for a call.
pub mod Lending
pub mod Posts
pub mod Sheet
