use Prim.Native.Nat.{ℕ, suc, ◌+◌, ◌-◌}
use mathlib.Core.Path.{◌≡◌}
use lib.ListN.{length, take}
use Rattle.aut68.specs.Sizes.{cell_values}
use Rattle.terms.specs.declared.leaves.Change.{Change}
use Rattle.terms.specs.declared.leaves.Change.TheVariants.{Lift, Substitute}
use Rattle.terms.specs.Grafts.{Stands}
use Rattle.terms.proofs.WalkLaws.{Inv}
use Rattle.terms.proofs.walk.+graft.Given as goal

-- how much a walk from `from` on may still read; a walk that puts in an expression has every lifting below it
abbrev pub effort : Change → (end from : ℕ) → ℕ
effort (Lift d) end from = end - from
effort (Substitute number) end from = suc end + (end - from)

abbrev pub decreases-graft : goal.decreases-graft
decreases-graft l = effort l.change l.end l.from

abbrev pub invariant-loop-pending : goal.invariant-loop-pending
invariant-loop-pending l =
    Inv cell_values (Stands l.table l.change) l.table (take l.end l.initial.w) (take l.end l.initial.w) l.from l.initial.w l.to l.cut l.w l.i l.at l.pending
    × (length (take l.end l.initial.w) ≡ l.end)

abbrev pub decreases-loop-pending : goal.decreases-loop-pending
decreases-loop-pending l = l.end - l.i
