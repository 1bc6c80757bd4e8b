-- `c_api::aut68_compare_parts_first` promises what `compare_strings_parts_first` does, of the numbers of its answer.
use Rattle.c_api.proofs.aut68_compare_parts_first.Goals as goal

pub returns : goal.returns
returns c = let n = c.from.ensures in rw (n.0, n.1, n.2, n.3) c.compare_strings_parts_first-a.ensures
