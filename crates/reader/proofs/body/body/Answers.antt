use native.Mathlib.Omega.{arith}
use mathlib.Core.Path.{refl}
use Rattle.std.proofs.lemmas.Result.{err_from_is_err_and}
use Rattle.lookup.specs.Answers.{code_nonzero}
use Rattle.expressions.proofs.ExpressionLaws.{code_malformed}
use Rattle.reader.proofs.BodyLaws.{body_here, body_middle_refused, body_no_colon, body_category_refused, body_not_ended, body_read}
use Rattle.reader.proofs.body.body.Goals as goal

pub returns-in_err-m : goal.returns-in_err-m
returns-in_err-m c =
    let p = err_from_is_err_and c.from_residual.result c.from_residual.ensures.1 in
    rw (p.1, p.2) (body_here _ (body_middle_refused c.in_err-m.ensures (code_nonzero _)) refl)

pub returns-in_default : goal.returns-in_default
returns-in_default c =
    body_no_colon c.in_ok-m.ensures refl c.in_default.ensures.past (omega arith) (record { code_is = code_malformed; at_is = refl; to_is = refl })

pub returns-in_err-c : goal.returns-in_err-c
returns-in_err-c c =
    let p = err_from_is_err_and c.from_residual-in_err-c.result c.from_residual-in_err-c.ensures.1 in
    rw (p.1, p.2)
    (body_here _
    (body_category_refused c.in_ok-m.ensures refl c.in-Some.ensures.past c.in-Some.ensures.inside c.in_err-c.ensures (code_nonzero _))
    refl)

pub returns-in_default-symbol : goal.returns-in_default-symbol
returns-in_default-symbol c =
    body_not_ended c.in_ok-m.ensures refl c.in-Some.ensures.past c.in-Some.ensures.inside c.in_ok-c.ensures refl c.in_default-symbol.ensures.past
    (λ e. omega arith) (record { code_is = code_malformed; at_is = refl; to_is = refl })

pub returns-then-next-line : goal.returns-then-next-line
returns-then-next-line c =
    body_not_ended c.in_ok-m.ensures refl c.in-Some.ensures.past c.in-Some.ensures.inside c.in_ok-c.ensures refl c.in-Some-symbol.ensures.past
    c.if-next-line.true (record { code_is = code_malformed; at_is = refl; to_is = refl })

pub returns : goal.returns
returns c =
    body_read c.in_ok-m.ensures refl c.in-Some.ensures.past c.in-Some.ensures.inside c.in_ok-c.ensures refl c.in-Some-symbol.ensures.past
    c.if-next-line.false
