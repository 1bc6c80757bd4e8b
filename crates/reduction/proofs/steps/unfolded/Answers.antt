-- `unfolded`: the middle with the arguments put in.
use mathlib.Core.Path.{refl}
use native.Mathlib.Omega.{arith}
use Rattle.reduction.proofs.PutLaws.{unfolded_none, unfolded_law}
use Rattle.reduction.proofs.steps.unfolded.Goals as goal

pub returns-then-at-w : goal.returns-then-at-w
returns-then-at-w c = unfolded_none (omega arith)

pub returns : goal.returns
returns c =
    unfolded_law (omega arith) c.field-from.ensures.0 c.field-count.ensures.0 refl refl c.arguments_at.ensures
    (c.result_at.ensures (omega arith)) c.instantiate.ensures
