-- `mark`: one bit is set in one cell.
use native.Mathlib.Omega.{arith}
use Rattle.marks.specs.MarkLaws.{mark_past, mark_cell}
use Rattle.marks.proofs.mark.Goals as goal

pub returns-else-at-w : goal.returns-else-at-w
returns-else-at-w c = mark_past _ _ (omega arith)

pub returns-then-at-w : goal.returns-then-at-w
returns-then-at-w c = mark_cell _ _ (omega arith)
