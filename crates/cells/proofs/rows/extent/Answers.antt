use mathlib.Core.Path.{refl, ap}
use native.Mathlib.Omega.{arith}
use lib.ListN.{length}
use Rattle.aut68.specs.Expr.{cons, nil, count_exprs}
use Rattle.cells.specs.Cells.{AllFormed}
use Rattle.cells.specs.Forests.{at_inside, at_one, cells_one, cells_long, size_is_length}
use Rattle.cells.proofs.rows.extent.Goals as goal

pub returns-then-at-s : goal.returns-then-at-s
returns-then-at-s c = record { within = omega arith; is = λ e rest w a. absurd (omega (arith, at_inside e a, cells_long e)) }

pub overflow_sub-result : goal.overflow_sub-result
overflow_sub-result c = omega (arith, c.skip-end.ensures.within (omega arith))

pub returns : goal.returns
unfolding count_exprs AllFormed
returns c =
    let S = c.skip-end.ensures in
    record {
      within = omega (arith, S.within (omega arith));
      is = λ e rest w a. omega (arith, S.ends (cons e nil) rest refl (w, tt) (at_one e a), size_is_length e, ap length (cells_one e));
    }
