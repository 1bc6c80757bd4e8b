-- The two comparisons: they find equality, so they agree where both end; larger limits; the loop of the second.
pub mod Which
pub mod Sides
pub mod First
pub mod GrowingFirst
pub mod Attempts
pub mod Passes
pub mod Second
pub mod GrowingSecond
pub mod Claims
pub mod Turns
