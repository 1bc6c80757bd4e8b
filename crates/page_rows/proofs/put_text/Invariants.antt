use Prim.Native.Nat.{◌-◌}
use lib.ListN.{length}
use Rattle.page_rows.proofs.TextLaws.{TextSoFar}
use Rattle.page_rows.proofs.put_text.Given as goal

abbrev pub invariant-loop-i : goal.invariant-loop-i
invariant-loop-i l = TextSoFar l.line l.at l.initial.part l.n l.i l.part

abbrev pub decreases-loop-i : goal.decreases-loop-i
decreases-loop-i l = length l.line - l.i
