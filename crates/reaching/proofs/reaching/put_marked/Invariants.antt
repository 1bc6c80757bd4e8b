-- `put_marked`. The invariant: if all of them fit, those before line v are written.
use mathlib.Core.Path.{◌≡◌}
use Prim.Native.Nat.{◌+◌, ◌-◌, ◌≤◌}
use lib.ListN.{length}
use Rattle.reaching.specs.Primitives.{marked_primitives}
use Rattle.reaching.specs.Writing.{Writes}
use Rattle.reaching.proofs.reaching.put_marked.Given as goal

abbrev pub invariant-loop-v : goal.invariant-loop-v
invariant-loop-v l = (l.v ≤ l.line + 1) × (length l.answer ≡ length l.initial.answer)
    × (length (marked_primitives l.table l.w 0 l.line) ≤ length l.initial.answer → Writes l.table l.w l.initial.answer l.line (l.v - 1) l.n l.answer)
