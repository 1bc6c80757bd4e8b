-- What the contracts of lifting, substitution and instantiation say.
pub mod Made
pub mod MadeLaws
pub mod Starts
pub mod Grafts
pub mod Numbered
pub mod Kinds
