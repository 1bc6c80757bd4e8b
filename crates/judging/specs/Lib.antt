-- What is said of two strings that are compared.
pub mod Posts
