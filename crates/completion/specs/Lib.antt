-- Arguments left out, put in: the contracts.
pub mod Posts
