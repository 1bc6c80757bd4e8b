use native.Mathlib.Omega.{arith}
use Rattle.cells.specs.Layout.{unit_at}
use Rattle.cells.proofs.layout.names_at.Goals as goal

pub returns : goal.returns
unfolding unit_at
returns c = λ a b. omega (arith, c.unit_at.ensures b)
