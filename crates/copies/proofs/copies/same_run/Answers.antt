use mathlib.Core.Path.{sym, ◌∙◌}
use borrow.Author.Tests.{leb-true, leb-false}
use Rattle.std.proofs.Common.{true≢false}
use Rattle.cells.specs.SameCells.{same_slices, same_no_first, same_no_second}
use Rattle.copies.proofs.copies.same_run.Goals as goal
use Rattle.copies.proofs.copies.same_run.Goals.{then-whole, else-whole}

pub returns-then-whole-2 : goal.returns-then-whole-2
returns-then-whole-2 c = elim c.if-whole.branch [
  | then-whole w ↦
      c.eq.ensures
      ∙ same_slices _ _ _ _ _ (leb-true _ _ (sym c.whole.ensures ∙ w.if-whole.true)) (leb-true _ _ (sym w.whole-then-whole.ensures ∙ sym w.value-is ∙ c.if-whole-2.true))
  | else-whole w ↦ absurd (true≢false (sym c.if-whole-2.true ∙ w.value-is ∙ w.if-whole.false))
]

pub returns-else-whole-2 : goal.returns-else-whole-2
returns-else-whole-2 c = elim c.if-whole.branch [
  | then-whole w ↦ c.if-whole-2.false ∙ sym (same_no_second _ _ _ _ _ (leb-false _ _ (sym w.whole-then-whole.ensures ∙ sym w.value-is ∙ c.if-whole-2.false)))
  | else-whole w ↦ c.if-whole-2.false ∙ sym (same_no_first _ _ _ _ _ (leb-false _ _ (sym c.whole.ensures ∙ w.if-whole.false)))
]
