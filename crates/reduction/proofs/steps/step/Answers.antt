-- `step`: what is made replaces the redex, if it fits.
use mathlib.Core.Path.{refl, sym, ◌∙◌}
use native.Mathlib.Omega.{arith}
use Rattle.reduction.proofs.StepLaws.{step_none, step_refused, step_made, in_place_refused, in_place_made}
use Rattle.reduction.proofs.steps.step.Goals as goal

pub returns-then-limit-gt-LARGEST_LIMIT : goal.returns-then-limit-gt-LARGEST_LIMIT
returns-then-limit-gt-LARGEST_LIMIT c = step_none (λ l. omega arith)

pub returns-in_err-n : goal.returns-in_err-n
returns-in_err-n c =
    rw c.from_residual.ensures
    (in_place_refused (omega arith) (omega arith) refl c.in-Unfolding.is (sym c.field.ensures.0 ∙ c.if-field-eq0.true)
    c.in_err-n.ensures)

pub returns-then-field-eq0 : goal.returns-then-field-eq0
returns-then-field-eq0 c =
    in_place_made (omega arith) (omega arith) refl c.in-Unfolding.is (sym c.field.ensures.0 ∙ c.if-field-eq0.true)
    c.in_ok-n.ensures

pub returns-in_err-n-2 : goal.returns-in_err-n-2
returns-in_err-n-2 c = rw c.from_residual-in_err-n-2.ensures (step_refused (omega arith) (omega arith) refl c.in_err-n-2.ensures)

pub returns : goal.returns
returns c = step_made (omega arith) (omega arith) refl c.in_ok-n-2.ensures (c.result_at.ensures (omega arith)) c.move_cells.ensures
