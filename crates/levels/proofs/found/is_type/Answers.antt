-- `is_type`: `type` has one cell, 0, and no other expression begins with it.
use mathlib.Core.Path.{refl}
use Rattle.levels.proofs.Types.{no_type_past, type_by_cell}
use Rattle.levels.proofs.found.is_type.Goals as goal

pub returns-then-at-w : goal.returns-then-at-w
returns-then-at-w c = type_by_cell (λ h. c.level_at-at.ensures h c.requires) refl

pub returns-else-at-w : goal.returns-else-at-w
returns-else-at-w c = no_type_past (λ h. c.level_at-at.ensures h c.requires) c.if-at-w.false
