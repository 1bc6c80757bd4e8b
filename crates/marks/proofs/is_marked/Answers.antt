-- `is_marked`: the cell's digit.
use mathlib.Core.Path.{sym, ap, ◌∙◌}
use Prim.Native.Nat.{ℕ, ◌%◌}
use Rattle.marks.specs.Marks.{cell_marks, marked, bit_of}
use Rattle.marks.specs.BitLaws.{digit_is_bit}
use Rattle.marks.specs.MarkLaws.{past_marked}
use Rattle.marks.proofs.is_marked.Goals as goal

pub returns-in-Some : goal.returns-in-Some
unfolding marked
returns-in-Some c = digit_is_bit _ _ ∙ ap (λ (x : ℕ). bit_of x (c.args.v % cell_marks)) (c.in-Some.ensures.lookup.3.1 0)

pub returns-in-None : goal.returns-in-None
returns-in-None c = sym (past_marked _ _ c.in-None.ensures.lookup.3)
