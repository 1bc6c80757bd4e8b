use native.Mathlib.Omega.{arith}
use mathlib.Core.Path.{refl, sym, ◌∙◌}
use Rattle.meanings.proofs.BindingLaws.{bound_start, bound_more, bound_found, bound_nowhere}
use Rattle.meanings.proofs.meanings.binding.Goals as goal

pub loop-i-init : goal.loop-i-init
loop-i-init c = bound_start c.if-bindings-gt-NESTING.false

pub returns-then-part_is : goal.returns-then-part_is
returns-then-part_is c =
    bound_found c.loop-i.invariant c.loop-i-test.true refl refl (omega arith) (λ p. sym (c.part_is.ensures p) ∙ c.if-part_is.true)

pub loop-i-preserved : goal.loop-i-preserved
loop-i-preserved c =
    bound_more c.loop-i.invariant c.loop-i-test.true refl refl (λ p. sym (c.part_is.ensures p) ∙ c.if-part_is.false)

pub returns : goal.returns
returns c = bound_nowhere c.loop-i.invariant (omega arith)
