use mathlib.Core.Path.{refl}
use native.Mathlib.Omega.{arith}
use Rattle.cells.specs.Layout.{unit_at, unit_small}
use Rattle.cells.proofs.layout.unit_at.Goals as goal

pub overflow_mul-result : goal.overflow_mul-result
overflow_mul-result c = omega (arith, unit_small c.args.limit c.args.k (omega arith) (omega arith))

pub returns : goal.returns
unfolding unit_at
returns c = λ h. refl
