use Rattle.meanings.proofs.ContextLaws.{ChainSoFar}
use Rattle.meanings.proofs.contexts.on_chain.Given as goal

abbrev pub invariant-loop-c : goal.invariant-loop-c
invariant-loop-c l = ChainSoFar l.table l.last l.v l.c

abbrev pub decreases-loop-c : goal.decreases-loop-c
decreases-loop-c l = l.c
