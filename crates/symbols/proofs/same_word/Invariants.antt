use Rattle.symbols.proofs.SameLaws.{SameSoFar}
use Rattle.symbols.proofs.same_word.Given as goal

abbrev pub invariant-loop-i : goal.invariant-loop-i
invariant-loop-i l = SameSoFar l.word l.fixed l.i
