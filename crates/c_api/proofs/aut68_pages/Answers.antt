-- `c_api::aut68_pages` promises what `print_pages` does, of the numbers of its answer.
use Rattle.c_api.proofs.aut68_pages.Goals as goal

pub returns : goal.returns
returns c = let n = c.from.ensures in rw (n.0, n.1, n.2, n.3) c.print_pages-a.ensures
