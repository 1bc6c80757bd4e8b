pub mod RunLaws
pub mod Matches
