-- `visit`: by whether the line is marked, and by its kind.
use mathlib.Core.Path.{refl, sym, ◌∙◌}
use Rattle.reaching.specs.Following.{visit_marked, visit_unmarked}
use Rattle.reaching.specs.Primitives.{one_if}
use Rattle.reaching.proofs.reaching.visit.Goals as goal

pub returns-then-not-is_marked : goal.returns-then-not-is_marked
unfolding one_if
returns-then-not-is_marked c = visit_unmarked _ _ _ _ (sym c.is_marked.ensures ∙ c.if-not-is_marked.true)

pub returns : goal.returns
returns c = visit_marked _ _ _ _ (sym c.is_marked.ensures ∙ c.if-not-is_marked.false) c.mark_names.ensures c.field.ensures.0 refl
