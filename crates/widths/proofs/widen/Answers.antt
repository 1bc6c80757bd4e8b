-- `widen`: the target is too short, or the source is put into it; each of its cells fits.
use mathlib.Core.Path.{◌≡◌}
use Prim.Native.Nat.{ℕ, ◌<◌}
use lib.ListN.{length, get_or}
use native.Mathlib.Omega.{arith}
use Rattle.std.proofs.Common.{rules}
use Rattle.std.specs.Prelude.{Err}
use Rattle.aut68.specs.Sizes.{cell_values}
use Rattle.constants.specs.declared.codes.Cause.TheVariants.{StoreTooSmall}
use Rattle.outcomes.specs.declared.answers.Unanswered.TheVariants.{Declined}
use Rattle.widths.specs.Fitting.{fits_each}
use Rattle.widths.specs.Conversions.{converts_too_small, converts_written, converted_whole}
use Rattle.widths.proofs.widen.Goals as goal

pub returns-in_err-length : goal.returns-in_err-length
returns-in_err-length c =
    let h = c.in_err-length.ensures in
    let e : c.from_residual.result ≡ Err (Declined StoreTooSmall 0) = search rules in
    rw e (converts_too_small _ _ _ h.0)

pub returns : goal.returns
returns c =
    let h = c.in_ok-length.ensures in
    let r = c.convert_cells.ensures in
    let p : (k d e : ℕ) → k < length c.args.source.now → get_or c.convert_cells.new.target k e ≡ get_or c.args.source.now k d = λ k d e l. let g = r.converted k d e l in search rules in
    rw h.0
    (converts_written _ _ _ h.1 (fits_each cell_values _ λ i h. omega (arith, c.type_inv.source i)) (converted_whole c.args.source.now c.args.target.now (omega arith) r.long p r.behind))
