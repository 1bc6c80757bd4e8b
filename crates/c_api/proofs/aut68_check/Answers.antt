-- `c_api::aut68_check` promises what `check_book` does, of the numbers of its outcome.
use Rattle.c_api.proofs.aut68_check.Goals as goal

pub returns : goal.returns
returns c = let n = c.from-n.ensures in rw (n.0, n.1, c.from.ensures, n.2) c.check_book-o.ensures
