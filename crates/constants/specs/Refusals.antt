-- What an answer of the code says in numbers: its code, 0 for Ok.
use Rattle.std.specs.Prelude.{ℕ, Result, Ok, Err}
use Rattle.aut68.specs.Procedure.Answer.{code_of}
use Rattle.constants.specs.declared.codes.Reason.{Reason}
use Rattle.constants.specs.Reasons.{refusal_of}

-- the code of an answer that may be a refusal
abbrev pub code_in : {A : Type 0} → Result A Reason → ℕ
code_in (Ok a) = 0
code_in (Err r) = code_of (refusal_of r)

-- the number of an answer that is one, 0 of a refusal
abbrev pub number_in : Result ℕ Reason → ℕ
number_in (Ok n) = n
number_in (Err r) = 0
