use Rattle.notes.proofs.OpenLaws.{AmongOuter}
use Rattle.notes.proofs.is_open.Given as goal

abbrev pub invariant-loop-i : goal.invariant-loop-i
invariant-loop-i l = AmongOuter l.w l.n l.i
