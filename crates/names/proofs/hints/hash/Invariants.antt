use Rattle.names.proofs.HashLaws.{HashSoFar}
use Rattle.names.proofs.hints.hash.Given as goal

abbrev pub invariant-loop-i : goal.invariant-loop-i
invariant-loop-i l = HashSoFar l.word l.h l.i
