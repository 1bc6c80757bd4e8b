-- `check_middle`: the middle's category, compared with the written one.
use mathlib.Core.Path.{refl}
use native.Mathlib.Omega.{arith}
use Rattle.reduction.proofs.Exits.{passed_on}
use Rattle.levels.specs.Finds.{refusal_nonzero}
use Rattle.categories.proofs.LineChecks.{middle_none, middle_past, middle_refused, middle_compared}
use Rattle.categories.proofs.checks.check_middle.Goals as goal

pub returns-then-start-at : goal.returns-then-start-at
returns-then-start-at c = middle_none c.if-start-at.true

pub returns-then-at-terms : goal.returns-then-at-terms
returns-then-at-terms c = middle_past c.if-at-terms.true

pub returns-in_err-category : goal.returns-in_err-category
returns-in_err-category c =
    rw (passed_on _ _ c.from_residual.ensures.1) (middle_refused c.if-start-at.false c.no_bindings-scope.ensures c.in_err-category.ensures (refusal_nonzero _))

pub returns : goal.returns
returns c =
    middle_compared c.if-start-at.false c.no_bindings-scope.ensures c.in_ok-category.ensures refl refl (λ h. c.level_at-to.ensures h (omega arith)) c.load.ensures
    c.compare_units.ensures
