-- `unfolded_in_place`: the middle is copied over the constant.
use native.Mathlib.Omega.{arith}
use Rattle.reduction.proofs.PutLaws.{in_place_none, in_place_law}
use Rattle.reduction.proofs.steps.unfolded_in_place.Goals as goal

pub returns-then-end-from : goal.returns-then-end-from
returns-then-end-from c = in_place_none c.field-from.ensures.0 c.field-end.ensures.0 (λ l. omega arith)

pub returns : goal.returns
returns c =
    in_place_law c.field-from.ensures.0 c.field-end.ensures.0 c.if-end-from.false c.if-end-from-2.false c.load.ensures
