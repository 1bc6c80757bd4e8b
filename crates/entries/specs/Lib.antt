-- What the functions on entries of the index leave.
pub mod Collected
pub mod Posts
-- Laws: lines collected behind others; the lines that a line names; an entry put into the index.
pub mod CollectedLaws
pub mod NamesLaws
pub mod EntryLaws
