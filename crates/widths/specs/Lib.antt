-- What the calls that convert shelves promise, put together.
pub mod Fitting
pub mod Conversions
