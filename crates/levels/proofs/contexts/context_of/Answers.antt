use mathlib.Core.Path.{refl}
use native.Mathlib.Omega.{arith}
use Rattle.levels.proofs.ContextWalk.{noting_kept, noting_more, noting_end}
use Rattle.levels.proofs.contexts.context_of.Goals as goal

pub loop-i-preserved-then-line-lt-CELL_VALUES : goal.loop-i-preserved-then-line-lt-CELL_VALUES
loop-i-preserved-then-line-lt-CELL_VALUES c = noting_more (omega arith) c.field-c-in-loop-i.ensures.0 c.loop-i.invariant c.if-i-lt64.true refl

pub loop-i-preserved : goal.loop-i-preserved
loop-i-preserved c = noting_kept (omega arith) c.field-c-in-loop-i.ensures.0 c.loop-i.invariant (λ h g. omega (arith, c.else-i-lt64.either))

pub returns : goal.returns
returns c = noting_end (omega arith) c.loop-i.invariant
