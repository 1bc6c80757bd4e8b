-- `c_api::aut68_compare_sheet` promises what `compare_sheet` does, of the numbers of its answer.
use Rattle.c_api.proofs.aut68_compare_sheet.Goals as goal

pub returns : goal.returns
returns c = let n = c.from.ensures in rw (n.0, n.1, n.2, n.3) c.compare_sheet-a.ensures
