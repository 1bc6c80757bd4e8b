-- `narrow`: the target is too short, or the source is put into it, or a cell is too large.
use mathlib.Core.Path.{◌≡◌, sym, ◌∙◌}
use Prim.Native.Nat.{ℕ, ◌<◌}
use lib.ListN.{length, get_or}
use native.Mathlib.Omega.{arith}
use Rattle.std.proofs.Common.{rules}
use Rattle.std.specs.Prelude.{Err}
use Rattle.constants.specs.declared.codes.Cause.TheVariants.{StoreTooSmall}
use Rattle.outcomes.specs.declared.answers.Unanswered.TheVariants.{Declined}
use Rattle.aut68.specs.Sizes.{narrow_values}
use Rattle.widths.specs.Fitting.{fits_all}
use Rattle.widths.specs.Conversions.{converts_too_small, converts_too_large, converts_written, converted_whole}
use Rattle.widths.proofs.narrow.Goals as goal

pub returns-in_err-length : goal.returns-in_err-length
returns-in_err-length c =
    let h = c.in_err-length.ensures in
    let e : c.from_residual.result ≡ Err (Declined StoreTooSmall 0) = search rules in
    rw e (converts_too_small _ _ _ h.0)

pub returns-then-not-fits_narrow : goal.returns-then-not-fits_narrow
returns-then-not-fits_narrow c =
    let h = c.in_ok-length.ensures in
    let q = fits_all narrow_values c.args.source.now ∙ sym c.fits_narrow.ensures in
    converts_too_large _ _ _ h.1 (cc)

pub returns : goal.returns
returns c =
    let h = c.in_ok-length.ensures in
    let q = fits_all narrow_values c.args.source.now ∙ sym c.fits_narrow.ensures in
    let r = c.convert_cells.ensures in
    let p : (k d e : ℕ) → k < length c.args.source.now → get_or c.convert_cells.new.target k e ≡ get_or c.args.source.now k d = λ k d e l. let g = r.converted k d e l in search rules in
    rw h.0 (converts_written _ _ _ h.1 (cc) (converted_whole c.args.source.now c.args.target.now (omega arith) r.long p r.behind))
