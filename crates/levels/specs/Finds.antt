-- What an answer that may be a find says in numbers: 0 of a refusal, whose code is not 0.
use Rattle.std.specs.Prelude.{◌≢◌, ℕ, Result, Ok, Err}
use Rattle.aut68.specs.Procedure.Answer.{code_of}
use Rattle.lookup.specs.Answers.{code_nonzero}
use Rattle.constants.specs.declared.codes.Reason.{Reason}
use Rattle.constants.specs.Reasons.{refusal_of}
use Rattle.levels.specs.declared.found.Found.{Found}

-- the cells of the category
abbrev pub found_size : Result Found Reason → ℕ
found_size (Ok f) = f.size
found_size (Err r) = 0

-- the cells of the expression
abbrev pub found_extent : Result Found Reason → ℕ
found_extent (Ok f) = f.extent
found_extent (Err r) = 0

pub refusal_nonzero : (r : Reason) → code_of (refusal_of r) ≢ 0
refusal_nonzero r = code_nonzero (refusal_of r)
