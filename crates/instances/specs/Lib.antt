-- What callers use of instantiation: where there is nothing to put in.
pub mod Unchanged
