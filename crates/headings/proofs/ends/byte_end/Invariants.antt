use Rattle.headings.proofs.LineEndLaws.{NoEndSoFar}
use Rattle.headings.proofs.ends.byte_end.Given as goal

abbrev pub invariant-loop-i : goal.invariant-loop-i
invariant-loop-i l = NoEndSoFar l.book l.at l.i
