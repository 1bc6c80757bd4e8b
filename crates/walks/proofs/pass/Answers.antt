use mathlib.Core.Path.{refl, sym, ◌∙◌}
use native.Mathlib.Omega.{arith}
use Rattle.walks.proofs.LineLaws.{passed_opening, passed_other}
use Rattle.walks.proofs.pass.Goals as goal
use Rattle.walks.proofs.pass.Goals.{else-deep-eq0-via-then-deep-eq0+else-titled, else-deep-eq0-via-else-deep-eq0}

pub returns-then-titled : goal.returns-then-titled
returns-then-titled c =
    let s = rw c.in-Some-Opens.field-0-is at c.in-Some-Opens.ensures in
    (omega arith, passed_opening s refl (λ e t. sym c.if-titled.true ∙ c.titled.ensures t) (λ n. absurd (n c.if-deep-eq0.true)))

pub returns-else-deep-eq0 : goal.returns-else-deep-eq0
returns-else-deep-eq0 c =
    let s = rw c.in-Some-Opens.field-0-is at c.in-Some-Opens.ensures in
    elim c.else-deep-eq0.branch [
      | else-deep-eq0-via-then-deep-eq0+else-titled w ↦ passed_opening s refl (λ e t. sym w.if-titled.false ∙ w.titled.ensures t) (λ n. refl)
      | else-deep-eq0-via-else-deep-eq0 w ↦ passed_opening s refl (λ e. absurd (w.if-deep-eq0.false e)) (λ n. refl)
    ]

pub returns-in-Some-Closes : goal.returns-in-Some-Closes
returns-in-Some-Closes c =
    let s = rw c.in-Some-Closes.field-0-is at c.in-Some-Closes.ensures in
    passed_other s (λ e. omega arith) (omega arith) (λ e. c.saturating_sub.ensures) (λ n. absurd (n refl))

pub returns-in-None : goal.returns-in-None
returns-in-None c = passed_other c.in-None.ensures (λ e. omega arith) (omega arith) (λ e. absurd (omega arith)) (λ n. refl)
