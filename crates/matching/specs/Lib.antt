-- What stands for a cell of an expression with arguments put in.
pub mod Runs
