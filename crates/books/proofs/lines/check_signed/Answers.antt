-- `check_signed`: what `paragraph_line` leaves of the first 26 units.
use mathlib.Core.Path.{sym}
use native.Mathlib.Omega.{arith}
use lib.Seq.{length-take-le}
use Rattle.books.proofs.PieceLaws.{moved_part}
use Rattle.books.proofs.lines.check_signed.Goals as goal

pub returns-then-limit-w : goal.returns-then-limit-w
returns-then-limit-w c = λ enough. absurd (omega arith)

pub slice_bounds-paragraph_line-end-2 : goal.slice_bounds-paragraph_line-end-2
slice_bounds-paragraph_line-end-2 c = sym (length-take-le _ _ (omega arith))

pub returns : goal.returns
returns c = λ enough. moved_part c.paragraph_line.new.w _ (length-take-le _ _ enough) (rw c.into.ensures at c.paragraph_line.ensures)
