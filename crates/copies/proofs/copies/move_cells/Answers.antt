use mathlib.Core.Path.{sym, ◌∙◌}
use mathlib.Core.Logic.{inl, inr}
use native.Mathlib.Omega.{arith}
use borrow.Author.Tests.{leb-true, leb-false}
use Rattle.cells.specs.CopyLaws.{move_pasted, move_inside, move_no_source, move_no_target}
use Rattle.copies.proofs.copies.move_cells.Goals as goal
use Rattle.copies.proofs.copies.move_cells.Goals.{else-from-to-via-then-from-to+else-to-from, else-from-to-via-else-from-to, else-whole-via-then-whole+else-whole-2, else-whole-via-else-whole}

pub returns-then-to-from : goal.returns-then-to-from
returns-then-to-from c = sym (move_inside _ _ _ _ (omega arith) (omega arith))

pub returns-then-whole-2 : goal.returns-then-whole-2
returns-then-whole-2 c =
    let h = leb-true _ _ (sym c.whole.ensures ∙ c.if-whole.true) in
    let k = leb-true _ _ (sym c.whole-then-whole.ensures ∙ c.if-whole-2.true) in
    c.copy_within.ensures.after ∙ move_pasted _ _ _ _ h k (elim c.else-from-to.branch [ else-from-to-via-then-from-to+else-to-from w ↦ inr (omega arith) | else-from-to-via-else-from-to w ↦ inl (omega arith) ])

pub returns-else-whole : goal.returns-else-whole
returns-else-whole c = elim c.else-whole.branch [
  | else-whole-via-then-whole+else-whole-2 w ↦ sym (move_no_target _ _ _ _ (leb-false _ _ (sym w.whole-then-whole.ensures ∙ w.if-whole-2.false)))
  | else-whole-via-else-whole w ↦ sym (move_no_source _ _ _ _ (leb-false _ _ (sym c.whole.ensures ∙ w.if-whole.false)))
]
