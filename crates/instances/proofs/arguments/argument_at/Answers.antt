use native.Mathlib.Omega.{arith}
use Rattle.instances.proofs.ArgumentLaws.{start_none, start_listed, start_past}
use Rattle.instances.proofs.arguments.argument_at.Goals as goal

pub returns-then-base-w : goal.returns-then-base-w
returns-then-base-w c = λ count. start_none (omega arith)

pub returns-then-i-lt64 : goal.returns-then-i-lt64
returns-then-i-lt64 c = λ count. start_listed c.if-i-lt64.true

pub returns : goal.returns
returns c = λ count. start_past c.if-i-lt64.false c.skip.ensures
