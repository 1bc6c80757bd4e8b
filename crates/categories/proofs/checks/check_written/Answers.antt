-- `check_written`: `type`, or an expression whose category is `type`.
use mathlib.Core.Path.{sym, ◌∙◌}
use Rattle.reduction.proofs.Exits.{passed_on}
use Rattle.levels.specs.Finds.{refusal_nonzero}
use Rattle.levels.proofs.Types.{type_refused}
use Rattle.categories.proofs.LineChecks.{written_past, written_is_type, written_found}
use Rattle.categories.proofs.checks.check_written.Goals as goal

pub returns-in_default : goal.returns-in_default
returns-in_default c = written_past c.in_default.ensures.lookup.3

pub returns-then-x-eq0 : goal.returns-then-x-eq0
returns-then-x-eq0 c = written_is_type (sym (c.in-Some.ensures.lookup.3.1 0) ∙ c.if-x-eq0.true)

pub returns-in_err-category : goal.returns-in_err-category
returns-in_err-category c =
    rw (passed_on _ _ c.from_residual.ensures.1) (written_found (λ z. c.if-x-eq0.false (c.in-Some.ensures.lookup.3.1 0 ∙ z))
    c.no_bindings-scope.ensures c.in_err-category.ensures (type_refused (refusal_nonzero _)))

pub returns : goal.returns
returns c =
    written_found (λ z. c.if-x-eq0.false (c.in-Some.ensures.lookup.3.1 0 ∙ z)) c.no_bindings-scope.ensures c.in_ok-category.ensures (c.found_type.ensures _ _)
