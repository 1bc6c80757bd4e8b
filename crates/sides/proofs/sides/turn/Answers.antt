-- `turn`: identical sides, no step, no budget, or a step in the next side.
use native.Mathlib.Omega.{arith}
use Rattle.std.proofs.lemmas.Result.{err_from_is_err_and}
use Rattle.reduction.proofs.Exits.{missing}
use Rattle.sides.proofs.Steps.{Decided, turn_same, turn_parts, turn_spent, turn_step, turn_large}
use Rattle.agreement.specs.Which.{the_left, the_right}
use Rattle.sides.proofs.sides.turn.Goals.{After-choose}
use Rattle.sides.proofs.sides.turn.Goals as goal

-- what is known where the next step is chosen
decided : (c : After-choose)
    → (let a = c.args in
    Decided a.table.now a.w.now a.l a.sizes.left a.r a.sizes.right c.head_of-first.result c.head_of-second.result c.choose.result)
decided c =
    record {
      answer = c.identical.result;
      same = c.identical.ensures;
      differ = c.if-identical.false;
      first = c.head_of-first.ensures;
      second = c.head_of-second.ensures;
      chosen = c.choose.ensures;
    }

pub returns-then-identical : goal.returns-then-identical
returns-then-identical c = turn_same c.identical.ensures c.if-identical.true

pub returns-in_default : goal.returns-in_default
returns-in_default c = turn_parts _ _ _ (rw c.in_default.is at (decided (goal.at.returns-in_default c).After-choose))

pub returns-then-budget-eq0 : goal.returns-then-budget-eq0
returns-then-budget-eq0 c = turn_spent _ _ _ (rw c.in-Some.is at (decided (goal.at.returns-then-budget-eq0 c).After-choose)) c.if-budget-eq0.true

pub returns-in_err-left-in-Left : goal.returns-in_err-left-in-Left
returns-in_err-left-in-Left c =
    let D = rw (c.in-Some.is, c.in-Left.is) at (decided (goal.at.returns-in_err-left-in-Left c).After-choose) in
    let m = missing c.step.result c.in_err-left-in-Left.ensures.value in
    let S = rw m.0 at c.step.ensures in
    let p = err_from_is_err_and c.from_residual.result c.from_residual.ensures.1 in
    rw (p.1, p.2, m.1) (turn_large _ _ _ the_left _ D S (omega (arith, c.if-budget-eq0.false)))

pub returns-in_ok-left-in-Left : goal.returns-in_ok-left-in-Left
returns-in_ok-left-in-Left c =
    let D = rw (c.in-Some.is, c.in-Left.is) at (decided (goal.at.returns-in_ok-left-in-Left c).After-choose) in
    let S = rw c.in_ok-left-in-Left.ensures.ok_part at c.step.ensures in
    turn_step _ _ _ the_left _ D S (omega (arith, c.if-budget-eq0.false))

pub returns-in_err-right-in-Right : goal.returns-in_err-right-in-Right
returns-in_err-right-in-Right c =
    let D = rw (c.in-Some.is, c.in-Right.is) at (decided (goal.at.returns-in_err-right-in-Right c).After-choose) in
    let m = missing c.step-in-Right.result c.in_err-right-in-Right.ensures.value in
    let S = rw m.0 at c.step-in-Right.ensures in
    let p = err_from_is_err_and c.from_residual-in_err-right-in-Right.result c.from_residual-in_err-right-in-Right.ensures.1 in
    rw (p.1, p.2, m.1) (turn_large _ _ _ the_right _ D S (omega (arith, c.if-budget-eq0.false)))

pub returns-in_ok-right-in-Right : goal.returns-in_ok-right-in-Right
returns-in_ok-right-in-Right c =
    let D = rw (c.in-Some.is, c.in-Right.is) at (decided (goal.at.returns-in_ok-right-in-Right c).After-choose) in
    let S = rw c.in_ok-right-in-Right.ensures.ok_part at c.step-in-Right.ensures in
    turn_step _ _ _ the_right _ D S (omega (arith, c.if-budget-eq0.false))
