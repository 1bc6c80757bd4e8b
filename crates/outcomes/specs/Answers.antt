-- Code, line, steps and length for each case of an answer.
use Rattle.std.specs.Prelude.{◌≡◌, ℕ, Result, Ok, Err}
use Rattle.aut68.specs.Procedure.Answer.{code_of}
use Rattle.aut68.specs.Procedure.Calls.{decline_code}
use Rattle.constants.specs.Reasons.{refusal_of, decline_of}
use Rattle.outcomes.specs.declared.Refused as Book
use Rattle.outcomes.specs.declared.answers.Given.{Given}
use Rattle.outcomes.specs.declared.answers.Unanswered.{Unanswered}
use Rattle.outcomes.specs.declared.answers.Unanswered.TheVariants.{Refused, Declined}

abbrev pub code_of_answer : Result Given Unanswered → ℕ
code_of_answer (Ok given) = 0
code_of_answer (Err (Refused refused)) = code_of (refusal_of refused.reason)
code_of_answer (Err (Declined cause steps)) = decline_code (decline_of cause)

-- the refused line; 0 of a book that is admitted
abbrev pub line_of_answer : Result Given Unanswered → ℕ
line_of_answer (Ok given) = 0
line_of_answer (Err (Refused refused)) = refused.line
line_of_answer (Err (Declined cause steps)) = 0

abbrev pub steps_of_answer : Result Given Unanswered → ℕ
steps_of_answer (Ok given) = given.steps
steps_of_answer (Err (Refused refused)) = refused.steps
steps_of_answer (Err (Declined cause steps)) = steps

abbrev pub length_of_answer : Result Given Unanswered → ℕ
length_of_answer (Ok given) = given.length
length_of_answer (Err (Refused refused)) = 0
length_of_answer (Err (Declined cause steps)) = 0

-- a refusal of the book is passed on as it is
abbrev pub IsRefusal : Book.Refused → Unanswered → Type 0
IsRefusal refused u = u ≡ Refused refused
