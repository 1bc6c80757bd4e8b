use native.Mathlib.Omega.{arith}
use Rattle.headings.proofs.LineEndLaws.{no_end_start, no_end_more, line_ends_here, book_ends_here}
use Rattle.headings.proofs.ends.byte_end.Goals as goal

pub loop-i-init : goal.loop-i-init
loop-i-init c = no_end_start _ _

pub returns-then-book-i-eq10 : goal.returns-then-book-i-eq10
returns-then-book-i-eq10 c = line_ends_here c.loop-i.invariant (omega arith) c.if-book-i-eq10.true

pub loop-i-preserved : goal.loop-i-preserved
loop-i-preserved c = no_end_more c.loop-i.invariant (omega arith) c.if-book-i-eq10.false

pub returns : goal.returns
returns c = book_ends_here c.loop-i.invariant (omega arith) (omega arith) (λ l. omega arith)
