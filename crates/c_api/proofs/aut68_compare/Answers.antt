-- `c_api::aut68_compare` promises what `compare_strings` does, of the numbers of its answer.
use Rattle.c_api.proofs.aut68_compare.Goals as goal

pub returns : goal.returns
returns c = let n = c.from.ensures in rw (n.0, n.1, n.2, n.3) c.compare_strings-a.ensures
