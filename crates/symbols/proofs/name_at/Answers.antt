use native.Mathlib.Omega.{arith}
use mathlib.Core.Path.{sym, ap, ◌∙◌}
use Rattle.aut68.specs.Language.{aut68}
use Rattle.aut68.specs.Bytes.{reserved}
use Rattle.symbols.proofs.SymbolLaws.{part}
use Rattle.symbols.proofs.WordLaws.{name_outside, name_empty, name_long, name_reserved, name_word}
use Rattle.symbols.proofs.name_at.Goals as goal
use Rattle.symbols.proofs.name_at.Goals.{then-len-eq0-via-then-len-eq0, then-len-eq0-via-else-len-eq0+then-len-gt-NAME_LIMIT, then-len-eq0-via-else-len-eq0+else-len-gt-NAME_LIMIT+then-is_reserved}

pub returns-then-at-line : goal.returns-then-at-line
returns-then-at-line c = name_outside c.if-at-line.true

pub returns-then-len-eq0 : goal.returns-then-len-eq0
returns-then-len-eq0 c =
    elim c.then-len-eq0.branch [
      | then-len-eq0-via-then-len-eq0 w ↦ name_empty c.spaces-start.ensures c.word_end-end.ensures w.if-len-eq0.true
      | then-len-eq0-via-else-len-eq0+then-len-gt-NAME_LIMIT w ↦ name_long c.spaces-start.ensures c.word_end-end.ensures (omega (arith, w.if-len-gt-NAME_LIMIT))
      | then-len-eq0-via-else-len-eq0+else-len-gt-NAME_LIMIT+then-is_reserved w ↦ let part_is = part _ _ _ c.word_end-end.ensures.from in
          name_reserved c.spaces-start.ensures c.word_end-end.ensures (ap (reserved aut68) (sym part_is) ∙ sym w.is_reserved.ensures ∙ w.if-is_reserved.true)
    ]

pub returns : goal.returns
returns c =
    let part_is = part _ _ _ c.word_end-end.ensures.from in (
      c.if-len-eq0.false,
      name_word c.spaces-start.ensures c.word_end-end.ensures c.if-at-line.false (omega arith)
          (ap (reserved aut68) (sym part_is) ∙ sym c.is_reserved.ensures ∙ c.if-is_reserved.false),
    )
