-- Laws of the sides.
pub mod Places
pub mod Choosing
pub mod Heads
pub mod Same
pub mod ShapesLaws
pub mod Steps
pub mod OpeningLaws
pub mod ProgressLaws
pub mod Settling
