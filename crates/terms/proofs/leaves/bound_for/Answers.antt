use native.Mathlib.Omega.{arith}
use Rattle.terms.proofs.LeafLaws.{other_stays, low_stays, lift_high, lift_too_high, bound_high, bound_here}
use Rattle.terms.proofs.leaves.bound_for.Goals as goal
use Rattle.terms.proofs.leaves.bound_for.Goals.{then-x-ne2-via-then-x-ne2, then-x-ne2-via-else-x-ne2+then-number-cut}

pub returns-then-x-ne2-clause-leaf : goal.returns-then-x-ne2-clause-leaf
returns-then-x-ne2-clause-leaf c =
    λ tb low k q e xe f. elim c.then-x-ne2.branch [
      | then-x-ne2-via-then-x-ne2 w ↦ other_stays _ _ c.requires w.if-x-ne2.true q e xe
      | then-x-ne2-via-else-x-ne2+then-number-cut w ↦ low_stays _ _ w.if-x-ne2.false w.if-number-cut.true q e xe
    ]

pub returns-then-by-gt-CELL_VALUES-clause-leaf : goal.returns-then-by-gt-CELL_VALUES-clause-leaf
returns-then-by-gt-CELL_VALUES-clause-leaf c =
    λ tb low k q e xe b. lift_too_high _ _ c.in-Lift.is c.if-x-ne2.false c.if-number-cut.false (omega arith) q e xe b

pub returns-then-higher-ge-CELL_VALUES-clause-leaf : goal.returns-then-higher-ge-CELL_VALUES-clause-leaf
returns-then-higher-ge-CELL_VALUES-clause-leaf c =
    λ tb low k q e xe b. lift_too_high _ _ c.in-Lift.is c.if-x-ne2.false c.if-number-cut.false (omega arith) q e xe b

pub returns-else-higher-ge-CELL_VALUES-clause-leaf : goal.returns-else-higher-ge-CELL_VALUES-clause-leaf
returns-else-higher-ge-CELL_VALUES-clause-leaf c = λ tb low k q e xe f. lift_high _ _ c.in-Lift.is c.if-x-ne2.false c.if-number-cut.false q e xe

pub returns-then-number-cut-2-clause-leaf : goal.returns-then-number-cut-2-clause-leaf
returns-then-number-cut-2-clause-leaf c = λ tb low k q e xe f. bound_high _ _ c.in-Substitute.is c.if-x-ne2.false c.if-number-cut-2.true q e xe

pub returns-else-number-cut-2-clause-leaf : goal.returns-else-number-cut-2-clause-leaf
returns-else-number-cut-2-clause-leaf c = λ tb low k q e xe f. bound_here _ _ c.in-Substitute.is c.if-x-ne2.false (omega arith) q e xe

pub returns-else-number-cut-2-clause-put : goal.returns-else-number-cut-2-clause-put
returns-else-number-cut-2-clause-put c = rw c.in-Substitute.is tt
