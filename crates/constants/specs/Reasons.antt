-- The refusal that each reason of the code stands for, and what each cause does.
use Rattle.std.specs.Prelude.{◌≡◌, ℕ, Result, Ok, Err}
use Rattle.aut68.specs.Procedure.Answer.{Refusal, code_of, work_too_small, limit_out_of_range, malformed, duplicate, unknown_name, wrong_arity, not_function, not_type, mismatch, too_large, out_of_budget, out_of_space, not_in_context, unbalanced}
use Rattle.aut68.specs.Procedure.Calls.{Decline, no_such_line, answer_too_long, store_too_small, cell_too_large, not_whole, strings_differ, string_too_large, steps_spent}
use Rattle.constants.specs.declared.codes.Cause.{Cause}
use Rattle.constants.specs.declared.codes.Cause.TheVariants.{NoSuchLine, AnswerTooLong, StoreTooSmall, CellTooLarge, NotWhole}
use Rattle.constants.specs.declared.codes.Cause.TheVariants as Causes
use Rattle.constants.specs.declared.codes.Reason.{Reason}
use Rattle.constants.specs.declared.codes.UnknownCode.{UnknownCode}
use Rattle.constants.specs.declared.codes.Reason.TheVariants.{WorkTooSmall, LimitOutOfRange, Malformed, Duplicate, UnknownName, WrongArity}
use Rattle.constants.specs.declared.codes.Reason.TheVariants.{NotFunction, NotType, Mismatch, TooLarge, OutOfBudget, OutOfSpace, NotInContext, Unbalanced}

abbrev pub refusal_of : Reason → Refusal
refusal_of WorkTooSmall = work_too_small
refusal_of LimitOutOfRange = limit_out_of_range
refusal_of Malformed = malformed
refusal_of Duplicate = duplicate
refusal_of UnknownName = unknown_name
refusal_of WrongArity = wrong_arity
refusal_of NotFunction = not_function
refusal_of NotType = not_type
refusal_of Mismatch = mismatch
refusal_of TooLarge = too_large
refusal_of OutOfBudget = out_of_budget
refusal_of OutOfSpace = out_of_space
refusal_of NotInContext = not_in_context
refusal_of Unbalanced = unbalanced

abbrev pub decline_of : Cause → Decline
decline_of NoSuchLine = no_such_line
decline_of AnswerTooLong = answer_too_long
decline_of StoreTooSmall = store_too_small
decline_of CellTooLarge = cell_too_large
decline_of NotWhole = not_whole
decline_of Causes.Different = strings_differ
decline_of Causes.TooLarge = string_too_large
decline_of Causes.OutOfBudget = steps_spent

-- a code is that of one reason, or of none: it is then given back
abbrev pub Decodes : ℕ → Result Reason UnknownCode → Type 0
Decodes code (Ok reason) = code ≡ code_of (refusal_of reason)
Decodes code (Err e) = (e.0 ≡ code) × ((x : Refusal) → code ≡ code_of x → ⊥)
