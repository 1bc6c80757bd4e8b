-- `compare_units`: both sides lie below the comparison's units.
use Rattle.typing.proofs.Comparing.{units_compared}
use Rattle.typing.proofs.comparisons.compare_units.Goals as goal

pub returns : goal.returns
returns c =
    units_compared c.requires.0 c.requires.1 (λ h. c.level_at-a.ensures h c.requires.0) (λ h. c.level_at-b.ensures h c.requires.1) c.compare.ensures
