use Rattle.symbols.proofs.WordLaws.{WordSoFar}
use Rattle.symbols.proofs.word_end.Given as goal

abbrev pub invariant-loop-i : goal.invariant-loop-i
invariant-loop-i l = WordSoFar l.kinds l.line l.at l.i
