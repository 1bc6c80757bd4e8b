use native.Mathlib.Omega.{arith}
use mathlib.Core.Path.{refl, ◌∙◌}
use Rattle.symbols.proofs.SymbolLaws.{part}
use Rattle.names.proofs.names.identifier.Goals as goal

pub overflow_add-result : goal.overflow_add-result
overflow_add-result c = omega (arith, c.identifier_place-start.ensures.within)

pub slice_bounds-result-end : goal.slice_bounds-result-end
slice_bounds-result-end c = omega (arith, c.identifier_place-start.ensures.within)

pub returns : goal.returns
returns c =
    let h = c.identifier_place-start.ensures in
    record { block = refl; place = omega (arith, h.start_is); contents = part c.args.book.now c.identifier_place-start.result.start _ (omega arith) ∙ h.bytes_are }
