-- The remaining cells fall: category 4n + 1, application and abstraction 4n of the same cells, arguments 4n + 2 of fewer.
use mathlib.Core.Path.{◌≡◌}
use lib.ListN.{length}
use Rattle.categories.proofs.Turns.{Turns}
use Prim.Native.Nat.{◌+◌, ◌*◌, ◌≤◌}
use Rattle.categories.proofs.+abstraction_application_arguments_category.Given as goal

abbrev pub decreases-abstraction : goal.decreases-abstraction
decreases-abstraction l = 4 * length l.e.now

abbrev pub decreases-application : goal.decreases-application
decreases-application l = 4 * length l.e.now

abbrev pub decreases-arguments : goal.decreases-arguments
decreases-arguments l = 4 * length l.s.now + 2

abbrev pub decreases-category : goal.decreases-category
decreases-category l = 4 * length l.e.now + 1

abbrev pub invariant-arguments-loop-i : goal.invariant-arguments-loop-i
invariant-arguments-loop-i l = (l.at ≤ length l.s) × Turns l.table l.terms l.s l.scope l.initial.w l.limit l.initial.budget l.level l.v l.i l.at l.budget l.starts l.w
    × (length l.w ≡ length l.initial.w)
