use Prim.Native.Nat.{◌-◌}
use lib.ListN.{length}
use Rattle.page_rows.proofs.PageLaws.{PagesSoFar}
use Rattle.page_rows.proofs.put_pages.Given as goal

abbrev pub invariant-loop-at : goal.invariant-loop-at
invariant-loop-at l = PagesSoFar l.book l.initial.page l.at l.n l.to l.page

abbrev pub decreases-loop-at : goal.decreases-loop-at
decreases-loop-at l = length l.book - l.at
