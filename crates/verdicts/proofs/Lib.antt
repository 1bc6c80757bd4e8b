pub mod LineVerdicts
pub mod PieceVerdicts
pub mod Fronts
pub mod BookVerdicts
pub mod Soundness
pub mod Inclusion
