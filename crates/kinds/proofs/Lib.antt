-- What the proofs of this crate share, and how the tests of kinds read.
mod Every
pub mod Tests
