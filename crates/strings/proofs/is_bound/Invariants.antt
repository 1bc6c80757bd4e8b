-- `is_bound`: walking back, the expression in question stands `have` behind the next to come (WalkLaws).
use Prim.Native.Nat.{◌≤◌}
use Rattle.strings.proofs.WalkLaws.{Walked}
use Rattle.strings.proofs.is_bound.Given as goal

abbrev pub invariant-loop-j : goal.invariant-loop-j
invariant-loop-j l = (l.found ≤ l.n) × Walked l.table l.s l.i l.j l.have l.found

abbrev pub decreases-loop-j : goal.decreases-loop-j
decreases-loop-j l = l.j
