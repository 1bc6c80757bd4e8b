use borrow.Author.Tests.{le-leb, lt-leb}
use Rattle.aut68.specs.Pages.{digit}
use Rattle.page_rows.proofs.digit_of.Goals as goal

pub returns-then-n-unit : goal.returns-then-n-unit
unfolding digit
returns-then-n-unit c = rw (lt-leb c.args.unit c.args.n c.if-n-unit.true, digit)

pub returns : goal.returns
unfolding digit
returns c = rw (le-leb c.args.unit c.args.n c.if-n-unit.false, digit)
