-- `arguments_at`: each argument starts where the one before it ends.
use Prim.Native.Nat.{◌-◌}
use Rattle.reduction.proofs.ArgumentLaws.{Listed}
use Rattle.reduction.proofs.steps.arguments_at.Given as goal

abbrev pub invariant-loop-i : goal.invariant-loop-i
invariant-loop-i l = Listed l.table l.w l.at l.count l.initial.starts l.starts (l.i - 1) l.next
