-- Calls on an accepted book: it is admitted first, and a refusal is passed on. What follows has line 0, the call's own steps, and the
-- length of the answer that was written, else 0.
use Rattle.std.specs.Prelude.{ℕ}
use Rattle.aut68.specs.Procedure.Answer.{code_of, mismatch, too_large, out_of_budget, out_of_space}

-- Why a call on a book that was admitted writes no answer: the line is 0 or above the last; the list of lines does not fit the answer's
-- store; "page store too small", "a target shorter than its source"; "narrowing met a cell above 65,535"; "left or right string not whole".
-- And what a comparison says of two strings other than that they are equal, with document 01's numbers: they differ; a string or a side
-- is too large, or the comparison went too deep; its budget is spent.
pub data Decline : Type 0 where
  no_such_line answer_too_long store_too_small cell_too_large not_whole : Decline
  strings_differ string_too_large steps_spent : Decline

unfoldable pub decline_code : Decline → ℕ
decline_code no_such_line = 13
decline_code answer_too_long = code_of out_of_space
decline_code store_too_small = 15
decline_code cell_too_large = 16
decline_code not_whole = 18
decline_code strings_differ = code_of mismatch
decline_code string_too_large = code_of too_large
decline_code steps_spent = code_of out_of_budget
