use mathlib.Core.Path.{refl}
use native.Mathlib.Omega.{arith}
use Rattle.headings.proofs.SignLaws.{kind_read, sign_none, sign_missing, sign_unnamed, sign_unended, sign_read}
use Rattle.headings.proofs.signs.sign_line.Goals as goal

pub returns-in_err-at : goal.returns-in_err-at
returns-in_err-at c =
    sign_none c.from_residual.ensures (kind_read (λ l. omega (arith, c.from.ensures.0)) (sign_missing c.in_err-at.ensures.past (omega arith)))

pub returns-in_default : goal.returns-in_default
returns-in_default c =
    kind_read (λ l. omega (arith, c.from.ensures.0)) (sign_unnamed c.in_ok-at.ensures.past c.in_ok-at.ensures.inside c.in_default.ensures refl)

pub returns-in_err-end : goal.returns-in_err-end
returns-in_err-end c =
    let (m, n) = c.in-Ok.ensures in
    sign_none c.from_residual-in_err-end.ensures
    (kind_read (λ l. omega (arith, c.from.ensures.0))
    (sign_unended c.in_ok-at.ensures.past c.in_ok-at.ensures.inside n m c.in_err-end.ensures.past (λ e. omega arith)))

pub returns-then-end-line : goal.returns-then-end-line
returns-then-end-line c =
    let (m, n) = c.in-Ok.ensures in (
      m,
      kind_read (λ l. omega (arith, c.from.ensures.0))
          (sign_read c.in_ok-at.ensures.past c.in_ok-at.ensures.inside n m c.in_ok-end.ensures.past c.if-end-line.true),
    )

pub returns-else-end-line : goal.returns-else-end-line
returns-else-end-line c =
    let (m, n) = c.in-Ok.ensures in
    kind_read (λ l. omega (arith, c.from.ensures.0))
    (sign_unended c.in_ok-at.ensures.past c.in_ok-at.ensures.inside n m c.in_ok-end.ensures.past c.if-end-line.false)
