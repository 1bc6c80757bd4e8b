use native.Mathlib.Omega.{arith}
use Rattle.expressions.proofs.ExpressionLaws.{code_too_large}
use Rattle.reader.proofs.LineLaws.{line_no_room, line_in_front}
use Rattle.reader.proofs.lines.read_line.Goals as goal

pub returns-then-limit-w : goal.returns-then-limit-w
returns-then-limit-w c = line_no_room _ (omega arith) code_too_large

pub returns : goal.returns
returns c = line_in_front _ (omega arith) c.read_into.ensures
