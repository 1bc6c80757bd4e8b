-- `is_marked_primitive`: the mark, and the kind on the row.
use mathlib.Core.Path.{sym, ◌∙◌}
use Rattle.reaching.specs.Primitives.{marked_kind, unmarked_primitive}
use Rattle.reaching.proofs.reaching.is_marked_primitive.Goals as goal

pub returns-then-is_marked : goal.returns-then-is_marked
returns-then-is_marked c = sym (marked_kind _ _ _ (sym c.is_marked.ensures ∙ c.if-is_marked.true) c.field.ensures.0)

pub returns-else-is_marked : goal.returns-else-is_marked
returns-else-is_marked c = c.if-is_marked.false ∙ sym (unmarked_primitive _ _ _ (sym c.is_marked.ensures ∙ c.if-is_marked.false))
