-- `head_of`: past each `<A>`, until a contraction or the head.
use mathlib.Core.Path.{◌≡◌}
use Prim.Native.Nat.{◌+◌, ◌-◌, ◌≤◌}
use lib.ListN.{length}
use Rattle.heads.proofs.HeadLaws.{Search}
use Rattle.heads.proofs.heads.head_of.Given as goal

abbrev pub invariant-loop-i : goal.invariant-loop-i
invariant-loop-i l = (l.at ≤ l.i) × (l.i ≤ l.end) × (l.end ≡ l.at + l.n) × (l.end ≤ length l.w) × Search l.table l.w l.at l.n l.i

abbrev pub decreases-loop-i : goal.decreases-loop-i
decreases-loop-i l = l.end - l.i
