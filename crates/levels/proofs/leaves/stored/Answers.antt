-- `stored`: the category on the line is copied to the level's unit.
use mathlib.Core.Path.{refl}
use native.Mathlib.Omega.{arith}
use Rattle.aut68.specs.Procedure.Answer.{code_of}
use Rattle.levels.proofs.LeafLaws.{stored_none, stored_found}
use Rattle.levels.proofs.leaves.stored.Goals as goal
use Rattle.levels.proofs.leaves.stored.Goals.{then-end-from-via-then-end-from, then-end-from-via-else-end-from+then-end-from-2}

pub returns-then-end-from : goal.returns-then-end-from
unfolding code_of
returns-then-end-from c budget =
    stored_none c.field-from.ensures.0 c.field-end.ensures.0 (λ x e l. elim c.then-end-from.branch [
      | then-end-from-via-then-end-from w ↦ omega (arith, w.if-end-from.true)
      | then-end-from-via-else-end-from+then-end-from-2 w ↦ omega (arith, w.if-end-from-2.true)
    ]) (λ z. omega arith) refl

pub returns : goal.returns
returns c budget =
    stored_found c.field-from.ensures.0 c.field-end.ensures.0 c.requires (omega arith) refl (λ h. c.level_at-to.ensures h c.requires) c.load.ensures
