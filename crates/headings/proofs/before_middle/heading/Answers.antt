use mathlib.Core.Path.{refl, sym}
use native.Mathlib.Omega.{arith}
use Rattle.kinds.specs.declared.Kind.TheVariants.{Equals}
use Rattle.kinds.proofs.Tests.{unequal_number, equal_number}
use Rattle.headings.proofs.HeadLaws.{head_none, heading_no_indicator, heading_no_star, heading_no_name, heading_no_colon, heading_no_equals, heading_read}
use Rattle.headings.proofs.before_middle.heading.Goals as goal

pub returns-in_err-prefix : goal.returns-in_err-prefix
returns-in_err-prefix c = head_none _ c.from_residual.ensures (heading_no_indicator _ c.in_err-prefix.ensures)

pub returns-in_err-star : goal.returns-in_err-star
returns-in_err-star c =
    head_none _ c.from_residual-in_err-star.ensures (heading_no_star c.in_ok-prefix.ensures c.in_err-star.ensures.past (omega arith))

pub returns-in_default : goal.returns-in_default
returns-in_default c =
    heading_no_name c.in_ok-prefix.ensures c.in_ok-star.ensures.past c.in_ok-star.ensures.inside c.in_default.ensures refl

pub returns-in_err-colon : goal.returns-in_err-colon
returns-in_err-colon c =
    let (m, n) = c.in-Ok.ensures in
    head_none _ c.from_residual-in_err-colon.ensures
    (heading_no_colon c.in_ok-prefix.ensures c.in_ok-star.ensures.past c.in_ok-star.ensures.inside n m c.in_err-colon.ensures.past (omega arith))

pub returns-then-ne : goal.returns-then-ne
returns-then-ne c =
    let (m, n) = c.in-Ok.ensures in
    heading_no_equals c.in_ok-prefix.ensures c.in_ok-star.ensures.past c.in_ok-star.ensures.inside n m
    c.in_ok-colon.ensures.past c.in_ok-colon.ensures.inside c.kind_at.ensures (unequal_number _ Equals (sym c.if-ne.ensures))

pub returns : goal.returns
returns c =
    let (m, n) = c.in-Ok.ensures in
    heading_read c.in_ok-prefix.ensures c.in_ok-star.ensures.past c.in_ok-star.ensures.inside n m
    c.in_ok-colon.ensures.past c.in_ok-colon.ensures.inside c.kind_at.ensures (equal_number _ Equals (sym c.if-ne.ensures))
