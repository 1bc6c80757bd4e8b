use mathlib.Core.Path.{◌≡◌}
use Prim.Native.Nat.{◌+◌, ◌-◌}
use native.Mathlib.Omega.{arith}
use Rattle.reduction.proofs.ArgumentLaws.{listed_none, listed_more, listed_wrong}
use Rattle.reduction.proofs.steps.arguments_at.Goals as goal

pub loop-i-init : goal.loop-i-init
loop-i-init c = listed_none

pub returns-then-next-at : goal.returns-then-next-at
returns-then-next-at c = listed_wrong c.loop-i.invariant c.skip-next.ensures (omega arith) (λ l. omega arith)

pub loop-i-preserved : goal.loop-i-preserved
loop-i-preserved c =
    let next : c.loop-i.i - 1 + 1 ≡ c.loop-i.i = omega arith in
    let behind : c.loop-i.i + 1 - 1 ≡ c.loop-i.i = omega arith in
    rw behind (rw next at (listed_more c.loop-i.invariant c.skip-next.ensures (omega arith) (omega arith)))
