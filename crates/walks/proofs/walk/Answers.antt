use native.Mathlib.Omega.{arith}
use mathlib.Core.Path.{refl}
use Rattle.walks.proofs.LoopLaws.{so_far_end, so_far_line, so_far_found}
use Rattle.walks.proofs.walk.Goals as goal

pub returns-then-at-book : goal.returns-then-at-book
returns-then-at-book c = so_far_end c.loop-at.invariant (omega arith)

pub returns-in-Found : goal.returns-in-Found
returns-in-Found c =
    let (l, p) = c.in-Found.ensures in
    (l, so_far_found c.loop-at.invariant (omega arith) (omega arith) c.line_end-end.ensures p refl)

pub loop-at-preserved : goal.loop-at-preserved
loop-at-preserved c =
    so_far_line c.loop-at.invariant (omega arith) (omega arith) c.line_end-end.ensures c.in-Further.ensures refl

pub returns : goal.returns
returns c = so_far_end c.loop-at.invariant (omega arith)
