-- `head_form`: head steps while there is one and the budget lasts.
use Prim.Native.Nat.{◌+◌}
use Rattle.cells.specs.Layout.{unit_at, scratch_unit}
use Rattle.reduction.specs.Frames.{Framed}
use Rattle.reduction.proofs.FormLaws.{Reducing}
use Rattle.reduction.proofs.functions.head_form.Given as goal

abbrev pub invariant-loop-h : goal.invariant-loop-h
invariant-loop-h l = Framed (unit_at l.limit scratch_unit) l.at (l.at + l.limit) l.initial.w l.w
    × Reducing l.table l.terms l.initial.w l.w l.limit l.initial.budget l.at l.size l.n l.budget

abbrev pub decreases-loop-h : goal.decreases-loop-h
decreases-loop-h l = l.budget
