use native.Mathlib.Omega.{arith}
use mathlib.Core.Path.{sym}
use borrow.Author.Tests.{eqb-true}
use Rattle.paragraphs.proofs.SeekLaws.{gives_outside}
use Rattle.paragraphs.proofs.UseLaws.{gives_used_plain}
use Rattle.paragraphs.proofs.find_plain_first.Goals as goal

pub returns-then-cell_at-eq0 : goal.returns-then-cell_at-eq0
returns-then-cell_at-eq0 c =
    gives_used_plain _ _ _ _ _ _ _ (eqb-true _ _ (sym c.if-is_empty.ensures)) _ (gives_outside _ _ _ _ _ c.hash.ensures (omega arith) _ c.find.ensures)
