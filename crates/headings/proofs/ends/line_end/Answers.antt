use native.Mathlib.Omega.{arith}
use mathlib.Core.Path.{sym, ◌∙◌}
use Rattle.headings.proofs.LineEndLaws.{no_end_start, no_end_part, line_ends_later, book_ends_here}
use Rattle.headings.proofs.ends.line_end.Goals as goal

pub loop-i-init : goal.loop-i-init
loop-i-init c = no_end_start _ _

pub returns-then-book-i-lt-STRIDE : goal.returns-then-book-i-lt-STRIDE
returns-then-book-i-lt-STRIDE c = line_ends_later c.loop-i.invariant (omega arith) c.byte_end.ensures

pub loop-i-preserved : goal.loop-i-preserved
loop-i-preserved c = no_end_part c.loop-i.invariant (omega arith) (sym c.if-contains.false ∙ c.contains.ensures.value)

pub returns : goal.returns
returns c = book_ends_here c.loop-i.invariant (omega arith) (omega arith) c.loop-i.invariant.within
