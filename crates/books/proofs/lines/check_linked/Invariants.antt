-- `check_linked`: while it goes on, what is recorded decides how the book ends (`Going`). The bytes that are left fall.
use mathlib.Core.Path.{◌≡◌}
use mathlib.Core.List.{List}
use Prim.Native.Nat.{ℕ, ◌-◌}
use lib.ListN.{length}
use Rattle.aut68.specs.Stores.{stores}
use Rattle.books.specs.Loop.{Going}
use Rattle.books.proofs.lines.check_linked.Given as goal

abbrev pub invariant-loop-p : goal.invariant-loop-p
invariant-loop-p l = (length l.table ≡ length l.initial.table)
    × (length l.terms ≡ length l.initial.terms)
    × (length l.index ≡ length l.initial.index)
    × (length l.w ≡ length l.initial.w)
    × ((work : List ℕ) → Going l.book l.budget l.limit (stores l.initial.table l.initial.terms work l.initial.index) l.p.at l.p.lines l.p.used l.p.entries l.p.budget l.table l.terms l.index l.w l.o)

abbrev pub decreases-loop-p : goal.decreases-loop-p
decreases-loop-p l = length l.book - l.p.at
