-- What names mean, by the rows of the earlier lines and the bindings around an expression.
pub mod Bindings
pub mod NotedContext
pub mod Posts
pub mod Meanings
