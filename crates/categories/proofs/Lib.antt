-- Laws that the proofs of the code cite.
-- The procedure's answers, clause by clause.
pub mod Clauses
-- Expressions inside an expression; the functions that call each other.
pub mod Within
pub mod Strings
pub mod Turns
pub mod KindLaws
pub mod ArgumentLaws
pub mod BinderLaws
-- The line at hand.
pub mod LineChecks
