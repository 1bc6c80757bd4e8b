-- `bound`: the domain is copied, lifted and moved to the level's unit.
use mathlib.Core.Path.{refl}
use native.Mathlib.Omega.{arith}
use Rattle.aut68.specs.Procedure.Answer.{code_of}
use Rattle.levels.proofs.LeafLaws.{bound_none, bound_found}
use Rattle.levels.proofs.leaves.bound.Goals as goal

pub returns-then-bindings-gt-NESTING : goal.returns-then-bindings-gt-NESTING
unfolding code_of
returns-then-bindings-gt-NESTING c budget = bound_none (λ h k. omega (arith, c.then-bindings-gt-NESTING.either)) (λ z. omega arith) refl

pub returns : goal.returns
returns c budget =
    bound_found c.requires (omega (arith, c.if-v-bindings.false)) refl (λ h. c.scratch_at-scratch.ensures h) (λ h. c.result_at-to.ensures h)
    c.load.ensures c.raise-n.ensures.0 (c.made.ensures budget)
