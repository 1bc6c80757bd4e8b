use Prim.Native.Nat.{◌+◌, ◌-◌}
use Rattle.completion.specs.Posts.{LineUp, VariablesPut}
use Rattle.completion.proofs.completion.put_variables.Given as goal

abbrev pub invariant-loop-i : goal.invariant-loop-i
invariant-loop-i l = LineUp l.table l.last (l.n - l.i) l.c × VariablesPut l.table l.initial.w l.w (l.from + l.i) (l.n - l.i) l.last
