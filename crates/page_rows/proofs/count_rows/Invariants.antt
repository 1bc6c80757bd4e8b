use Prim.Native.Nat.{◌-◌}
use lib.ListN.{length}
use Rattle.page_rows.proofs.CountLaws.{RowsSoFar}
use Rattle.page_rows.proofs.count_rows.Given as goal

abbrev pub invariant-loop-at : goal.invariant-loop-at
invariant-loop-at l = RowsSoFar l.book l.rows l.at

abbrev pub decreases-loop-at : goal.decreases-loop-at
decreases-loop-at l = length l.book - l.at
