-- `constant`: the category on the line with all arguments put in.
use mathlib.Core.Path.{refl}
use Rattle.levels.proofs.Instances.{constant_made}
use Rattle.levels.proofs.arguments.constant.Goals as goal

pub returns : goal.returns
returns c budget =
    constant_made c.requires.0 refl c.field-from.ensures.0 c.field-count.ensures.0
    (λ h. c.level_at-base.ensures h c.requires.0) (λ h. c.result_at-to.ensures h) c.instantiate-n.ensures.0
    (c.made.ensures budget)
