use mathlib.Core.Path.{refl, sym}
use borrow.Author.Tests.{eqb-true, eqb-false}
use Rattle.paragraphs.proofs.UseLaws.{gives_used_plain, used_nowhere, gives_used_inside}
use Rattle.paragraphs.proofs.find_used.Goals as goal

pub returns-then-is_empty : goal.returns-then-is_empty
returns-then-is_empty c = gives_used_plain _ _ _ _ _ _ _ (eqb-true _ _ (sym c.if-is_empty.ensures)) _ c.plain.ensures

pub returns-in_err-n : goal.returns-in_err-n
returns-in_err-n c = rw c.from_residual.ensures (used_nowhere (eqb-false _ _ (sym c.if-is_empty.ensures)) c.in_err-n.ensures refl)

pub returns : goal.returns
returns c = gives_used_inside _ _ _ _ _ _ _ (eqb-false _ _ (sym c.if-is_empty.ensures)) c.in_ok-n.ensures c.hash.ensures _ c.find.ensures
