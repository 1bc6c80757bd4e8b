use native.Mathlib.Omega.{arith}
use mathlib.Core.Path.{refl}
use Rattle.reader.proofs.IndicatorLaws.{indicator_empty, indicator_unknown, indicator_too_large, indicator_no_variable, indicator_found}
use Rattle.reader.proofs.lines.indicator_line.Goals as goal

pub returns-in_default-clause-found : goal.returns-in_default-clause-found
returns-in_default-clause-found c = rw c.in_default.is indicator_empty

pub returns-in_err-v-clause-found : goal.returns-in_err-v-clause-found
returns-in_err-v-clause-found c =
    let i = rw c.in-Some.is at c.requires in
    rw (c.in-Some.is, c.from_residual.ensures)
    (indicator_unknown _ _ _ _ _ i.2 (i.0, i.1) c.title.ensures c.word.ensures c.in_err-v.ensures refl)

pub returns-then-v-ge-LINE_LIMIT-clause-found : goal.returns-then-v-ge-LINE_LIMIT-clause-found
returns-then-v-ge-LINE_LIMIT-clause-found c =
    let i = rw c.in-Some.is at c.requires in
    rw c.in-Some.is
    (indicator_too_large _ _ _ _ _ i.2 (i.0, i.1) c.title.ensures c.word.ensures c.in_ok-v.ensures.1 c.if-v-ge-LINE_LIMIT.true)

pub returns-then-field-ne0-clause-found : goal.returns-then-field-ne0-clause-found
returns-then-field-ne0-clause-found c =
    let i = rw c.in-Some.is at c.requires in
    rw c.in-Some.is
    (indicator_no_variable _ _ _ _ _ i.2 (i.0, i.1) c.title.ensures c.word.ensures c.in_ok-v.ensures.1
    (λ z. omega (arith, c.in_ok-v.ensures.0)) c.field.ensures.0 c.if-field-ne0.true)

pub returns-clause-found : goal.returns-clause-found
returns-clause-found c =
    let i = rw c.in-Some.is at c.requires in
    rw c.in-Some.is
    (indicator_found _ _ _ _ _ i.2 (i.0, i.1) c.title.ensures c.word.ensures c.in_ok-v.ensures.1
    (λ z. omega (arith, c.in_ok-v.ensures.0)) c.field.ensures.0 c.if-field-ne0.false)
