-- `is_whole`: so many expressions are to come, and what is asked of the whole string is asked of what is left of it (CellLaws).
use mathlib.Core.Path.{◌≡◌}
use mathlib.Core.List.{[], ◌∷◌}
use Prim.Native.Nat.{◌-◌, ◌≤◌}
use lib.ListN.{length}
use Rattle.aut68.specs.Lines.{Lines}
use Rattle.cells.specs.Rows.{Rows}
use Rattle.strings.specs.Levels.{levels_at}
use Rattle.strings.specs.Notes.{Notes}
use Rattle.strings.proofs.CellLaws.{Reached}
use Rattle.strings.proofs.is_whole.Given as goal

abbrev pub invariant-loop-pending : goal.invariant-loop-pending
invariant-loop-pending l = ((l.s ≡ 0 ∷ [] → ⊥) × (l.i ≤ length l.s) × (l.pending ≡ length (levels_at l.table l.s l.i)))
    × (length l.w ≡ length l.initial.w)
    × Notes l.table l.s l.i l.w
    × ((ls : Lines) → Rows ls l.table → length ls ≡ l.lines → Reached ls l.table l.s l.i)

abbrev pub decreases-loop-pending : goal.decreases-loop-pending
decreases-loop-pending l = length l.s - l.i
