-- `mark_cells`. The invariant: with the marks for the cells from i on, there are those for all of them.
use mathlib.Core.Path.{◌≡◌}
use mathlib.Core.List.{List}
use Prim.Native.Nat.{ℕ}
use lib.ListN.{length}
use lib.Seq.{slice}
use Rattle.cells.specs.Numbers.{numbers_in}
use Rattle.reaching.specs.Adding.{AddsMarks}
use Rattle.reaching.proofs.reaching.mark_cells.Given as goal

abbrev pub invariant-loop-i : goal.invariant-loop-i
invariant-loop-i l = (length l.w ≡ length l.initial.w)
    × ((w' : List ℕ) → AddsMarks (numbers_in (slice l.i l.to l.terms)) l.w w' → AddsMarks (numbers_in (slice l.from l.to l.terms)) l.initial.w w')
