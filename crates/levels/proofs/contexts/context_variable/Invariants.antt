-- `context_variable`: noted, or met by following the indicators; `count + (i + 1) - counter` variables of the context are still to be met.
use Prim.Native.Nat.{◌+◌, ◌-◌}
use Rattle.levels.proofs.ContextWalk.{Following}
use Rattle.levels.proofs.contexts.context_variable.Given as goal

abbrev pub invariant-loop : goal.invariant-loop
invariant-loop l = Following l.table l.v l.c (l.count + (l.i + 1) - l.counter)
