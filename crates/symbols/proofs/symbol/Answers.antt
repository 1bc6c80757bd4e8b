use mathlib.Core.Path.{sym, ap, ◌∙◌}
use Rattle.kinds.specs.Kinds.{kind_of}
use Rattle.kinds.proofs.Tests.{same_number, other_number}
use Rattle.symbols.proofs.SymbolLaws.{symbol_here, symbol_other, symbol_end, got, got_none}
use Rattle.symbols.proofs.symbol.Goals as goal

pub returns-then-eq-clause-past : goal.returns-then-eq-clause-past
returns-then-eq-clause-past c =
    let g = got _ _ c.in-Some.ensures.lookup.0 c.in-Some.ensures.lookup.1 in
    symbol_here c.spaces-i.ensures g.0 (λ t. sym (c.kind_of.ensures t ∙ ap kind_of g.1) ∙ same_number _ _ (sym c.if-eq.ensures))

pub returns-else-eq-clause-past : goal.returns-else-eq-clause-past
returns-else-eq-clause-past c =
    let g = got _ _ c.in-Some.ensures.lookup.0 c.in-Some.ensures.lookup.1 in
    symbol_other c.spaces-i.ensures g.0 (λ t e. other_number _ _ (sym c.if-eq.ensures) (c.kind_of.ensures t ∙ ap kind_of g.1 ∙ e))

pub returns-in_default-clause-past : goal.returns-in_default-clause-past
returns-in_default-clause-past c = symbol_end c.spaces-i.ensures (got_none _ _ c.in_default.ensures.lookup.0)
