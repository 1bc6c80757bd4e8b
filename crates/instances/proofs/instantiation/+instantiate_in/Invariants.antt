use lib.ListN.{length, take}
use Rattle.aut68.specs.Sizes.{cell_values}
use Rattle.terms.specs.Grafts.{Instantiates}
use Rattle.terms.proofs.WalkLaws.{Inv}
use Prim.Native.Nat.{◌-◌}
use Rattle.instances.proofs.instantiation.+instantiate_in.Given as goal

abbrev pub decreases-instantiate_in : goal.decreases-instantiate_in
decreases-instantiate_in l = length l.s.now - l.from

abbrev pub invariant-loop-pending : goal.invariant-loop-pending
invariant-loop-pending l = Inv cell_values (Instantiates l.table l.base l.count l.starts) l.table (take l.end l.initial.w) l.s l.from l.initial.w l.to l.cut l.w l.i l.at l.pending

abbrev pub decreases-loop-pending : goal.decreases-loop-pending
decreases-loop-pending l = length l.s - l.i
