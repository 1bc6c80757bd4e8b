-- `function_of`: head steps of what was found.
use mathlib.Core.Path.{refl}
use Rattle.levels.proofs.Functions.{function_found}
use Rattle.levels.proofs.binders.function_of.Goals as goal

pub returns : goal.returns
returns c = function_found c.requires refl (λ h. c.level_at-at.ensures h c.requires) c.to_function.ensures
