use native.Mathlib.Omega.{arith}
use Rattle.sides.proofs.Same.{agree_none, agree_more, past_end, cells_differ, cells_agree}
use Rattle.sides.proofs.sides.same_expression.Goals.{then-i-w-via-then-i-w, then-i-w-via-else-i-w+then-j-w, then-i-w-via-else-i-w+else-j-w+then-pending-w}
use Rattle.sides.proofs.sides.same_expression.Goals as goal

pub loop-pending-init : goal.loop-pending-init
loop-pending-init c = (omega arith, omega arith, λ z. absurd (omega arith), agree_none)

pub returns-then-i-w : goal.returns-then-i-w
returns-then-i-w c = let I = c.loop-pending.invariant in past_end I.0 I.1 I.3 (omega arith) λ x y.
    elim c.then-i-w.branch [
      | then-i-w-via-then-i-w b ↦ omega (arith, b.if-i-w.true)
      | then-i-w-via-else-i-w+then-j-w b ↦ omega (arith, b.if-j-w.true)
      | then-i-w-via-else-i-w+else-j-w+then-pending-w b ↦ b.if-pending-w.true
    ]

pub returns-then-x-w : goal.returns-then-x-w
returns-then-x-w c = let I = c.loop-pending.invariant in cells_differ I.0 I.1 I.3 (omega arith) c.if-x-w.true

pub loop-pending-preserved : goal.loop-pending-preserved
loop-pending-preserved c =
    let I = c.loop-pending.invariant in (
      omega arith,
      omega arith,
      λ z. (omega arith, omega arith),
      agree_more I.0 I.1 I.3 (omega arith) c.if-x-w.false c.kids.ensures.0,
    )

pub returns : goal.returns
returns c = let I = c.loop-pending.invariant in let e = I.2 (omega arith) in cells_agree I.0 I.1 I.3 (omega arith) e.0 e.1
