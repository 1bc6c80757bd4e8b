-- `stored_fits`: the category on its line is seen to be the wanted one, or they are compared.
use mathlib.Core.Path.{refl}
use Rattle.reduction.proofs.Exits.{passed_on}
use Rattle.levels.specs.Finds.{refusal_nonzero}
use Rattle.typing.proofs.Fitting.{stored_fits_same, stored_fits_refused, stored_fits_compared}
use Rattle.typing.proofs.arguments.stored_fits.Goals as goal

pub returns-then-seen_at : goal.returns-then-seen_at
returns-then-seen_at c =
    (stored_fits_same c.field-at.ensures.0 c.field-end.ensures.0 refl refl refl c.seen_at.ensures c.if-seen_at.true, refl)

pub returns-in_err-stored : goal.returns-in_err-stored
returns-in_err-stored c =
    rw (passed_on _ _ c.from_residual.ensures.1) (stored_fits_refused c.requires (c.in_err-stored.ensures c.args.budget.now) (refusal_nonzero _), tt)

pub returns-in_err-compare_wanted : goal.returns-in_err-compare_wanted
returns-in_err-compare_wanted c =
    rw (passed_on _ _ c.from_residual-in_err-compare_wanted.ensures.1) (stored_fits_compared c.requires (c.in_ok-stored.ensures c.args.budget.now) refl c.in_err-compare_wanted.ensures, tt)

pub returns : goal.returns
returns c = (stored_fits_compared c.requires (c.in_ok-stored.ensures c.args.budget.now) refl c.in_ok-compare_wanted.ensures, refl)
