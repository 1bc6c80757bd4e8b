use mathlib.Core.Path.{ap, ◌∙◌}
use Rattle.kinds.specs.Kinds.{kind_of}
use Rattle.symbols.proofs.SymbolLaws.{kind_here, kind_end, got, got_none}
use Rattle.symbols.proofs.kind_at.Goals as goal

pub returns-in-Some : goal.returns-in-Some
returns-in-Some c =
    let g = got _ _ c.in-Some.ensures.lookup.0 c.in-Some.ensures.lookup.1 in
    kind_here g.0 (λ t. c.kind_of.ensures t ∙ ap kind_of g.1)

pub returns-in-None : goal.returns-in-None
returns-in-None c = kind_end (got_none _ _ c.in-None.ensures.lookup.0)
