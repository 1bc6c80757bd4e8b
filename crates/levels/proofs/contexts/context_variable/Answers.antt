use mathlib.Core.Path.{refl}
use native.Mathlib.Omega.{arith}
use Rattle.levels.proofs.ContextWalk.{follow_more, variable_noted, variable_met}
use Rattle.levels.proofs.contexts.context_variable.Goals as goal

pub returns-then-i-lt64 : goal.returns-then-i-lt64
returns-then-i-lt64 c = variable_noted c.if-i-lt64.true refl

pub loop-preserved : goal.loop-preserved
loop-preserved c = follow_more (omega arith) c.loop.invariant (omega arith) c.field-c-in-loop.ensures.0

pub returns : goal.returns
returns c = variable_met (omega arith) (λ h. omega (arith, c.field-count.ensures.0)) c.loop.invariant
