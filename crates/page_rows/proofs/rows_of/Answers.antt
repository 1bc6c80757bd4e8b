use native.Mathlib.Omega.{arith}
use Rattle.aut68.specs.Pages.{row_count}
use Rattle.page_rows.proofs.rows_of.Goals as goal

pub returns : goal.returns
unfolding row_count
returns c = (omega arith, omega arith)
