use native.Mathlib.Omega.{arith}
use Rattle.std.proofs.Common.{rules}
use Rattle.kinds.specs.Ranges.{filled_part}
use Rattle.kinds.proofs.ranges.fill.Goals as goal

pub returns : goal.returns
returns c = filled_part _ _ _ _ c.requires.1 (omega arith) (search rules)
