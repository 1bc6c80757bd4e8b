-- What the check of a line leaves.
pub mod Progress
