use native.Mathlib.Omega.{arith}
use Rattle.completion.proofs.UpLaws.{up_none, up_more, up_all}
use Rattle.completion.proofs.completion.line_up.Goals as goal

pub loop-i-init : goal.loop-i-init
loop-i-init c = up_none (omega arith)

pub loop-i-preserved : goal.loop-i-preserved
loop-i-preserved c = up_more c.loop-i.invariant (omega arith) c.field-up.ensures.0

pub returns : goal.returns
returns c = up_all c.loop-i.invariant (omega arith)
