use native.Mathlib.Omega.{arith}
use mathlib.Core.Path.{refl}
use Rattle.meanings.proofs.NotedLaws.{in_no_context, number_too_large, number_noted, by_chain}
use Rattle.meanings.proofs.contexts.in_context.Goals as goal

pub returns-then-last-eq0 : goal.returns-then-last-eq0
returns-then-last-eq0 c = in_no_context c.if-last-eq0.true

pub returns-then-i-most : goal.returns-then-i-most
returns-then-i-most c = number_too_large c.if-last-eq0.false c.field-i.ensures.0 c.field-most.ensures.0 c.if-i-most.true

pub returns-then-i-most-2 : goal.returns-then-i-most-2
returns-then-i-most-2 c = by_chain c.on_chain.ensures

pub returns : goal.returns
returns c =
    number_noted c.if-last-eq0.false c.field-i.ensures.0 c.field-most.ensures.0 c.if-i-most.false (omega arith) (omega arith) refl
