use mathlib.Core.Path.{◌≡◌}
use mathlib.Core.List.{List}
use Prim.Native.Nat.{ℕ, ◌+◌, ◌≤◌}
use lib.ListN.{length}
use lib.Seq.{slice}
use Rattle.cells.specs.Numbers.{numbers_in}
use Rattle.entries.specs.Collected.{slot_count, Adds}
use Rattle.entries.proofs.collecting.collect.Given as goal

-- i cells are passed
abbrev pub Passed : List ℕ → ℕ → ℕ → ℕ → ℕ → List ℕ → ℕ → ℕ → Type 0
Passed w₀ from at n slots w count i =
    (length w ≡ length w₀) × (count ≤ n + i) × Adds w₀ w at n slots (numbers_in (slice from (from + i) w₀)) count

abbrev pub invariant-loop-i : goal.invariant-loop-i
invariant-loop-i l = (l.i ≤ l.size)
    × (l.at + l.n + l.size ≤ l.from)
    × (l.from + l.size ≤ l.slots)
    × (l.slots + slot_count ≤ length l.initial.w)
    × Passed l.initial.w l.from l.at l.n l.slots l.w l.count l.i
