use mathlib.Core.Path.{sym}
use Rattle.paragraphs.proofs.UseLaws.{taken_by_line, taken_by_paragraph}
use Rattle.paragraphs.proofs.is_taken.Goals as goal

pub returns-then-is_some : goal.returns-then-is_some
returns-then-is_some c = rw c.if-is_some.true (taken_by_line c.hash-h.ensures c.cell_at-i.ensures.0 _ c.line_in.ensures (sym c.if-is_some.ensures))

pub returns-else-is_some : goal.returns-else-is_some
returns-else-is_some c =
    rw c.is_some-else-is_some.ensures (taken_by_paragraph c.hash-h.ensures c.cell_at-i.ensures.0 _ _ c.line_in.ensures (sym c.if-is_some.ensures) c.paragraph_in.ensures)
