use Prim.Native.Nat.{ℕ, ◌-◌, ◌≤◌, ◌<◌}
use mathlib.Core.Path.{◌≡◌}
use mathlib.Core.Logic.{◌⊎◌}
use mathlib.Core.List.{List}
use lib.ListN.{length}
use Rattle.aut68.specs.Expr.{Exprs, cellss, count_exprs}
use Rattle.cells.specs.Cells.{At, Wfs, AnyVariable}
use Rattle.cells.specs.Forests.{Pending}
use Rattle.cells.proofs.rows.skip.Given as goal

abbrev pub invariant-loop-pending : goal.invariant-loop-pending
invariant-loop-pending l = (((l.i ≡ l.from) × (l.pending ≡ l.n)) ⊎ ((l.from < l.i) × (l.i ≤ length l.s) × (1 ≤ l.n)))
    × ((es : Exprs) (rest : List ℕ) → count_exprs es ≡ l.n → Wfs l.table es → At l.s l.from (cellss es) rest → Pending AnyVariable l.table l.s l.i l.pending rest)

abbrev pub decreases-loop-pending : goal.decreases-loop-pending
decreases-loop-pending l = length l.s - l.i
