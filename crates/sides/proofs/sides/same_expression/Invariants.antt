-- `same_expression`: cell by cell, as many parts pending on either side.
use mathlib.Core.Path.{◌≡◌}
use Prim.Native.Nat.{◌+◌, ◌-◌, ◌≤◌}
use lib.ListN.{length}
use Rattle.sides.proofs.Same.{Agree}
use Rattle.sides.proofs.sides.same_expression.Given as goal

abbrev pub invariant-loop-pending : goal.invariant-loop-pending
invariant-loop-pending l = (l.a ≤ l.i) × (l.j + l.a ≡ l.i + l.b) × (l.pending ≡ 0 → (l.i ≤ length l.w) × (l.j ≤ length l.w)) × Agree l.table l.w l.a l.b l.i l.j l.pending

abbrev pub decreases-loop-pending : goal.decreases-loop-pending
decreases-loop-pending l = length l.w - l.i
