-- The levels fall: compare_parts_first 2n, attempt 2n + 1 of one level less; in the loop the budget falls.
use Prim.Native.Nat.{◌+◌, ◌*◌, ◌-◌, ◌≤◌}
use Rattle.aut68.specs.Procedure.PartsFirst.{parts_first_at}
use Rattle.comparison.proofs.Parts.{PartsInvariant}
use Rattle.comparison.proofs.Attempts.{Passed}
use Rattle.comparison.proofs.parts_first.+attempt_compare_parts_first.Given as goal

abbrev pub decreases-attempt : goal.decreases-attempt
decreases-attempt l = 2 * l.deeper + 1

abbrev pub decreases-compare_parts_first : goal.decreases-compare_parts_first
decreases-compare_parts_first l = 2 * l.deeper

abbrev pub invariant-attempt-loop-part : goal.invariant-attempt-loop-part
invariant-attempt-loop-part l = (l.budget ≤ l.initial.budget)
    × PartsInvariant parts_first_at l.table l.terms l.initial.w l.limit l.initial.budget l.l l.r l.deeper l.w (l.parts - l._part) l.i l.j l.budget

abbrev pub invariant-compare_parts_first-loop-sizes : goal.invariant-compare_parts_first-loop-sizes
invariant-compare_parts_first-loop-sizes l = Passed l.deeper l.table l.terms l.initial.w l.limit l.initial.budget l.l l.initial.sizes.left l.r l.initial.sizes.right l.w l.sizes.left l.sizes.right l.budget

abbrev pub decreases-compare_parts_first-loop-sizes : goal.decreases-compare_parts_first-loop-sizes
decreases-compare_parts_first-loop-sizes l = l.budget
