pub mod InstantiationLaws
pub mod ArgumentLaws
