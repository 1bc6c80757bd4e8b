-- `c_api::aut68_rests_on` promises what `rests_on` does, of the numbers of its answer.
use Rattle.c_api.proofs.aut68_rests_on.Goals as goal

pub returns : goal.returns
returns c = let n = c.from.ensures in rw (n.0, n.1, n.2, n.3) c.rests_on-a.ensures
