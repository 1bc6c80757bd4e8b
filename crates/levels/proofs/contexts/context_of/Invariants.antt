-- `context_of`: the loop follows the indicators and notes each of the first 64 variables; `i` of them are still to be met.
use Rattle.levels.proofs.ContextWalk.{Noting}
use Rattle.levels.proofs.contexts.context_of.Given as goal

abbrev pub invariant-loop-i : goal.invariant-loop-i
invariant-loop-i l = Noting l.table l.v l.count l.c l.i l.lines
