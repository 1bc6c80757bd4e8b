use Rattle.reduction.proofs.Exits.{passed_on, missing}
use Rattle.reduction.proofs.FormLaws.{form_normal, form_spent, form_framed, form_large, form_steps}
use Rattle.reduction.proofs.functions.head_form.Goals as goal

pub returns-then-budget-eq0 : goal.returns-then-budget-eq0
returns-then-budget-eq0 c = form_spent c.loop-h.invariant.0 c.loop-h.invariant.1 _ c.in-Some.ensures c.if-budget-eq0.true

pub returns-in_err-n : goal.returns-in_err-n
returns-in_err-n c =
    let m = missing c.step.result c.in_err-n.ensures.value in
    let S = rw m.0 at c.step.ensures in
    let e = passed_on c.from_residual.result c.in_err-n.field-0.0 c.from_residual.ensures.1 in
    rw (e, m.1) (form_large c.loop-h.invariant.0 c.loop-h.invariant.1 _ c.in-Some.ensures c.if-budget-eq0.false S)

pub loop-h-preserved : goal.loop-h-preserved
loop-h-preserved c =
    let S = rw c.in_ok-n.ensures.ok_part at c.step.ensures in (
      form_framed c.loop-h.invariant.0 c.loop-h.invariant.1 _ c.in-Some.ensures c.if-budget-eq0.false S,
      form_steps c.loop-h.invariant.0 c.loop-h.invariant.1 _ c.in-Some.ensures c.if-budget-eq0.false S,
    )

pub returns : goal.returns
returns c = form_normal c.loop-h.invariant.0 c.loop-h.invariant.1 c.in_default.ensures
