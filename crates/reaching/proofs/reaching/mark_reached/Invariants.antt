-- `mark_reached`, a line a turn, downwards. The invariant: names are followed to the lines behind line v.
use mathlib.Core.Path.{◌≡◌}
use Prim.Native.Nat.{◌+◌, ◌≤◌}
use lib.ListN.{length}
use Rattle.aut68.specs.Lines.{Lines}
use Rattle.reaching.specs.Posts.{Followable, Followed}
use Rattle.reaching.proofs.reaching.mark_reached.Given as goal

abbrev pub invariant-loop-v : goal.invariant-loop-v
invariant-loop-v l = (l.v ≤ l.line) × (l.count + l.v ≤ l.line) × (length l.w ≡ length l.initial.w)
    × ((ls : Lines) → Followable ls l.table l.terms l.line (length l.initial.w) → Followed ls l.table l.line l.line l.initial.w 0 → Followed ls l.table l.line l.v l.w l.count)
