use native.Mathlib.Omega.{arith}
use Rattle.aut68.specs.Index.{mentioned_as_indicator}
use Rattle.entries.specs.CollectedLaws.{adds_none}
use Rattle.entries.specs.NamesLaws.{indicator_named}
use Rattle.entries.proofs.collecting.add_indicator.Goals as goal

pub returns-then-indicator-eq0 : goal.returns-then-indicator-eq0
unfolding mentioned_as_indicator
returns-then-indicator-eq0 c = rw c.if-indicator-eq0.true adds_none

pub add-requires : goal.add-requires
add-requires c = (omega arith, omega arith, λ e. omega arith)

pub shape_of-w : goal.shape_of-w
shape_of-w c = c.add.auto.w

pub returns : goal.returns
returns c = rw (indicator_named _ c.if-indicator-eq0.false) c.add.ensures
