use Prim.Native.Nat.{◌-◌}
use lib.ListN.{length}
use Rattle.walks.proofs.LoopLaws.{WalkSoFar}
use Rattle.walks.proofs.walk.Given as goal

abbrev pub invariant-loop-at : goal.invariant-loop-at
invariant-loop-at l = WalkSoFar l.kinds l.book l.from l.to l.q l.word l.at l.deep l.count

abbrev pub decreases-loop-at : goal.decreases-loop-at
decreases-loop-at l = length l.book - l.at
