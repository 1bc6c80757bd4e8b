-- Laws that the proofs of the code cite: what each function leaves.
pub mod Making
pub mod Types
pub mod LeafLaws
pub mod ContextWalk
pub mod Instances
pub mod Functions
pub mod Bindings
