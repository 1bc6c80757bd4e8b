-- `identical`: sides of other sizes differ; of one size, the cells say.
use Rattle.std.proofs.Common.{ne_eqb}
use Rattle.sides.proofs.Same.{other_sizes, of_one_size}
use Rattle.sides.proofs.sides.identical.Goals as goal

pub returns-then-n-m : goal.returns-then-n-m
returns-then-n-m c = of_one_size c.if-n-m.true c.same_cells.ensures

pub returns-else-n-m : goal.returns-else-n-m
returns-else-n-m c = rw (ne_eqb c.args.n c.args.m c.if-n-m.false) (other_sizes c.if-n-m.false)
