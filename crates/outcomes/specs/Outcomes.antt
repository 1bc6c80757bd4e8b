-- The published code, line and steps for each case of an outcome.
use Rattle.std.specs.Prelude.{ℕ, Result, Ok, Err}
use Rattle.aut68.specs.Procedure.Answer.{code_of}
use Rattle.constants.specs.Reasons.{refusal_of}
use Rattle.outcomes.specs.declared.Accepted.{Accepted}
use Rattle.outcomes.specs.declared.Refused.{Refused}

abbrev pub code_of_outcome : Result Accepted Refused → ℕ
code_of_outcome (Ok accepted) = 0
code_of_outcome (Err refused) = code_of (refusal_of refused.reason)

-- the refused line; the number of lines of a book that is accepted
abbrev pub line_of_outcome : Result Accepted Refused → ℕ
line_of_outcome (Ok accepted) = accepted.lines
line_of_outcome (Err refused) = refused.line

abbrev pub steps_of_outcome : Result Accepted Refused → ℕ
steps_of_outcome (Ok accepted) = accepted.steps
steps_of_outcome (Err refused) = refused.steps
