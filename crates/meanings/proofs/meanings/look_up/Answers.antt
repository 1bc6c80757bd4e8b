use native.Mathlib.Omega.{arith}
use mathlib.Core.Path.{refl}
use Rattle.meanings.proofs.MeaningLaws.{sought_nothing, sought_too_many, sought_constant, sought_variable, sought_outside}
use Rattle.meanings.proofs.meanings.look_up.Goals as goal

pub returns-in_default : goal.returns-in_default
returns-in_default c = sought_nothing c.in_default.ensures refl

pub returns-then-v-ge-LINE_LIMIT : goal.returns-then-v-ge-LINE_LIMIT
returns-then-v-ge-LINE_LIMIT c = sought_too_many c.in-Some.ensures.1 c.if-v-ge-LINE_LIMIT.true

pub returns-then-field-ne0 : goal.returns-then-field-ne0
returns-then-field-ne0 c =
    let (p, h) = c.in-Some.ensures in
    sought_constant h (λ z. omega arith) (omega arith) c.field.ensures.0 c.if-field-ne0.true

pub returns-then-in_context : goal.returns-then-in_context
returns-then-in_context c =
    let (p, h) = c.in-Some.ensures in
    sought_variable h (λ z. omega arith) (omega arith) c.field.ensures.0 c.if-field-ne0.false c.in_context.ensures c.if-in_context.true

pub returns : goal.returns
returns c =
    let (p, h) = c.in-Some.ensures in
    sought_outside h (λ z. omega arith) (omega arith) c.field.ensures.0 c.if-field-ne0.false c.in_context.ensures c.if-in_context.false
