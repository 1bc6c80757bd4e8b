-- `argument_fits`: the search was refused, the found category is seen to be the wanted one, or they are compared.
use mathlib.Core.Path.{refl}
use native.Mathlib.Omega.{arith}
use Rattle.reduction.proofs.Exits.{passed_on}
use Rattle.levels.specs.Finds.{refusal_nonzero}
use Rattle.typing.proofs.Fitting.{fits_refused, fits_seen, fits_compared}
use Rattle.typing.proofs.arguments.argument_fits.Goals as goal

pub returns-in_err-size : goal.returns-in_err-size
returns-in_err-size c =
    rw (passed_on _ _ c.from_residual.ensures.1, c.in_err-size.was) (fits_refused (refusal_nonzero _), tt)

pub returns-then-seen_at : goal.returns-then-seen_at
returns-then-seen_at c =
    rw c.in_ok-size.was (fits_seen refl refl refl (λ h. c.level_at-at.ensures h (omega (arith, c.requires))) c.seen_at.ensures c.if-seen_at.true, refl)

pub returns-in_err-compare_wanted : goal.returns-in_err-compare_wanted
returns-in_err-compare_wanted c =
    rw (passed_on _ _ c.from_residual-in_err-compare_wanted.ensures.1, c.in_ok-size.was) (fits_compared refl c.in_err-compare_wanted.ensures, tt)

pub returns : goal.returns
returns c = rw c.in_ok-size.was (fits_compared refl c.in_ok-compare_wanted.ensures, refl)
