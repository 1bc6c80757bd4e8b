use lib.ListN.{length, drop}
use Rattle.aut68.specs.Pages.{text_of}
use Rattle.page_rows.proofs.PageLaws.{LineSoFar}
use Rattle.page_rows.proofs.put_line.Given as goal

abbrev pub invariant-loop-at : goal.invariant-loop-at
invariant-loop-at l = LineSoFar l.line l.number l.initial.page l.at l.n l.to l.page

abbrev pub decreases-loop-at : goal.decreases-loop-at
decreases-loop-at l = length (text_of (drop l.at l.line))
