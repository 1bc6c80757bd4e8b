-- `check_cells`: one check after the other.
use mathlib.Core.Path.{refl}
use Rattle.reduction.proofs.Exits.{passed_on}
use Rattle.levels.specs.Finds.{refusal_nonzero}
use Rattle.categories.proofs.LineChecks.{cells_refused, cells_checked}
use Rattle.categories.proofs.checks.check_cells.Goals as goal

pub returns-in_err-check_written : goal.returns-in_err-check_written
returns-in_err-check_written c = rw (passed_on _ _ c.from_residual.ensures.1) (cells_refused c.in_err-check_written.ensures (refusal_nonzero _))

pub returns : goal.returns
returns c = cells_checked c.in_ok-check_written.ensures refl c.check_middle.ensures
