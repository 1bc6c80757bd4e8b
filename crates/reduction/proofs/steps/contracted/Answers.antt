-- `contracted`: the body with the argument put in.
use native.Mathlib.Omega.{arith}
use Rattle.reduction.proofs.PutLaws.{contracted_none, contracted_no_function, contracted_law}
use Rattle.reduction.proofs.steps.contracted.Goals as goal

pub returns-then-at-w : goal.returns-then-at-w
returns-then-at-w c = contracted_none (omega arith)

pub returns-then-f-w : goal.returns-then-f-w
returns-then-f-w c = contracted_no_function c.skip-f.ensures (omega arith)

pub returns : goal.returns
returns c =
    contracted_law (c.result_at.ensures (omega arith)) c.skip-f.ensures c.skip-t.ensures c.substitute.ensures
