use Rattle.std.proofs.Common.{arith}
use Rattle.pairs.specs.declared.Pair.{Pair}
use Rattle.pairs.proofs.Marking.{unmarked, marks}
use Rattle.pairs.proofs.compare_pairs.Goals as goal

-- what lies past the end of the list
abbrev no_pair : Pair
no_pair = record { left = 0; left_length = 0; right = 0; right_length = 0; budget = 0 }

pub loop-i-init : goal.loop-i-init
loop-i-init c = (omega arith, unmarked)

pub loop-i-preserved : goal.loop-i-preserved
loop-i-preserved c =
    let e = c.compare_pair.ensures in
    (omega arith, marks c.loop-i.i c.loop-i.work c.compare_pair.new.work c.loop-i.sheet no_pair c.compare_pair.result (omega arith) (omega arith) c.loop-i.invariant.1 e)
