-- `applied`: A's category compared with the domain, then A put into the body.
use mathlib.Core.Path.{refl}
use native.Mathlib.Omega.{arith}
use Rattle.reduction.proofs.Exits.{passed_on}
use Rattle.levels.specs.Finds.{refusal_nonzero}
use Rattle.typing.proofs.Applications.{applied_differs, applied_made}
use Rattle.typing.proofs.application.applied.Goals as goal

pub returns-in_err-compare : goal.returns-in_err-compare
returns-in_err-compare c size =
    rw (passed_on _ _ c.from_residual.ensures.1) (applied_differs c.requires.0 refl (λ h. c.level_at-a.ensures h (omega (arith, c.requires)))
    c.in_err-compare.ensures (refusal_nonzero _) refl refl refl)

pub returns : goal.returns
returns c size =
    applied_made c.requires.0 refl (λ h. c.level_at-a.ensures h (omega (arith, c.requires))) c.in_ok-compare.ensures
    refl c.requires.1 (λ h. c.scratch_at-scratch.ensures h) (λ h. c.result_at-to.ensures h) c.load.ensures
    c.substitute-n.ensures.0 (c.made.ensures c.compare.new.budget)
