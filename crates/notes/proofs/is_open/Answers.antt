use native.Mathlib.Omega.{arith}
use Rattle.notes.proofs.OpenLaws.{among_this, among_others}
use Rattle.notes.proofs.is_open.Goals as goal

pub returns-then-number_at-n : goal.returns-then-number_at-n
returns-then-number_at-n c = among_this c.loop-i.invariant c.number_at.ensures (omega arith) (omega arith) c.if-number_at-n.true

pub loop-i-preserved : goal.loop-i-preserved
loop-i-preserved c = among_others c.loop-i.invariant c.number_at.ensures (omega arith) (omega arith) c.if-number_at-n.false
