-- The numbers of an outcome and of an answer.
pub mod Outcomes
pub mod Answers
pub mod AnswerLaws
