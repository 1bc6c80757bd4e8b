use Rattle.meanings.proofs.BindingLaws.{BoundSoFar}
use Rattle.meanings.proofs.meanings.binding.Given as goal

abbrev pub invariant-loop-i : goal.invariant-loop-i
invariant-loop-i l = BoundSoFar l.line l.scope l.word l.i
