use mathlib.Core.Path.{sym}
use Rattle.std.proofs.Common.{rules}
use Rattle.cells.specs.CopyLaws.{cleared_put, cleared_not}
use Rattle.copies.proofs.copies.clear.Goals as goal

pub returns-then-n-w : goal.returns-then-n-w
returns-then-n-w c = cleared_put _ _ c.if-n-w.true (search rules)

pub returns-else-n-w : goal.returns-else-n-w
returns-else-n-w c = sym (cleared_not _ _ c.if-n-w.false)
