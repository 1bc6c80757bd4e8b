use Rattle.matching.proofs.Matches.{Passed}
use Rattle.matching.proofs.matching.is_instance.Given as goal

abbrev pub invariant-loop-i : goal.invariant-loop-i
invariant-loop-i l = Passed l.table l.s l.from l.stop l.w l.base l.count l.starts l.f l.at l.i l.j
