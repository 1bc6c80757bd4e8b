use Rattle.meanings.proofs.NotedLaws.{NotedSoFar}
use Rattle.meanings.proofs.contexts.note_context.Given as goal

abbrev pub invariant-loop-c : goal.invariant-loop-c
invariant-loop-c l = NotedSoFar l.table l.initial.w l.w l.last l.c

abbrev pub decreases-loop-c : goal.decreases-loop-c
decreases-loop-c l = l.c
