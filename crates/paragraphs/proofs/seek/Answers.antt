use native.Mathlib.Omega.{arith}
use Rattle.paragraphs.specs.Posts.{nowhere, here, further}
use Rattle.paragraphs.proofs.SeekLaws.{outward_at}
use Rattle.paragraphs.proofs.seek.Goals as goal

pub returns-in-Some : goal.returns-in-Some
returns-in-Some g c = outward_at (c.loop-i.invariant _ (here (omega arith) c.in-Some.ensures)) (omega arith)

pub loop-i-preserved : goal.loop-i-preserved
loop-i-preserved g c = λ r o. c.loop-i.invariant r (further (omega arith) c.in_default.ensures o)

pub returns : goal.returns
returns g c = outward_at (c.loop-i.invariant _ (nowhere (omega arith))) (omega arith)
