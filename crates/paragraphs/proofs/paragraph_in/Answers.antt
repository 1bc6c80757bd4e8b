use mathlib.Core.Bool.{true≢false}
use mathlib.Core.Path.{◌∙◌}
use native.Mathlib.Omega.{arith}
use Rattle.paragraphs.proofs.InLaws.{nothing_behind, gives_noted, gives_in_book}
use Rattle.paragraphs.proofs.paragraph_in.Goals as goal
use Rattle.paragraphs.proofs.paragraph_in.Goals.{then-is_some-via-then-is_some, then-is_some-via-else-is_some+then-count-capacity}

pub returns-then-count-q : goal.returns-then-count-q
returns-then-count-q c = nothing_behind c.number_at-q.ensures c.cell_at-count.ensures.0 c.if-count-q.true

pub returns-then-is_some : goal.returns-then-is_some
returns-then-is_some c =
    gives_noted _ _ _ _ _ c.number_at-q.ensures c.cell_at-count.ensures.0 _ c.noted_in-noted.ensures
    (λ z. elim c.then-is_some.branch [
      | then-is_some-via-then-is_some w ↦ absurd (true≢false (w.if-is_some.ensures ∙ z))
      | then-is_some-via-else-is_some+then-count-capacity w ↦ omega (arith, w.capacity.ensures)
    ])

pub returns : goal.returns
returns c = gives_in_book _ _ _ _ _ c.number_at-q.ensures c.from_at.ensures c.cell_at.ensures.0 _ c.walk.ensures
