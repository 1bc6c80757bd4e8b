-- Larger limits, new orders, arrangements and deletions: what document 01's demand 3 and papers 2 and 7 claim, proved in both languages.
pub mod Growing
-- The line limit as a parameter.
-- The renumbering lemma: steps, categories, names and derivations over lines with new numbers.
pub mod Renumbering
pub mod RenumberedSteps
pub mod RenumberedCategories
pub mod RenumberedNames
pub mod RenumberedFollowing
pub mod Appending
-- Arrangements, and lines deleted.
pub mod DerivedMentions
pub mod Titles
pub mod Moving
-- Books without paragraph lines; two of them joined.
pub mod FlatBooks
pub mod FlatRuns
pub mod Joining
-- New orders.
pub mod Deciding

-- The same on completed lines.
