-- Laws that the proofs of the code cite: what each function leaves.
pub mod Comparing
pub mod Fitting
pub mod Applications
