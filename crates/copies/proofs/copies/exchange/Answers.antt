use mathlib.Core.Path.{sym, ◌∙◌}
use borrow.Author.Tests.{leb-true, leb-false}
use Rattle.cells.specs.CopyLaws.{copy_put, copy_no_source, copy_no_target}
use Rattle.copies.proofs.copies.exchange.Goals as goal
use Rattle.copies.proofs.copies.exchange.Goals.{else-whole-via-then-whole+else-whole-2, else-whole-via-else-whole}

pub returns-then-whole-2 : goal.returns-then-whole-2
returns-then-whole-2 c =
    let h = leb-true _ _ (sym c.whole.ensures ∙ c.if-whole.true) in
    let k = leb-true _ _ (sym c.whole-then-whole.ensures ∙ c.if-whole-2.true) in
    (copy_put _ _ _ _ _ k h c.swap_with_slice.ensures.after, copy_put _ _ _ _ _ h k c.swap_with_slice.ensures.other_after)

pub returns-else-whole : goal.returns-else-whole
returns-else-whole c = elim c.else-whole.branch [
  | else-whole-via-then-whole+else-whole-2 w ↦
      let l = leb-false _ _ (sym w.whole-then-whole.ensures ∙ w.if-whole-2.false) in
      (sym (copy_no_source _ _ _ _ _ l), sym (copy_no_target _ _ _ _ _ l))
  | else-whole-via-else-whole w ↦
      let l = leb-false _ _ (sym c.whole.ensures ∙ w.if-whole.false) in
      (sym (copy_no_target _ _ _ _ _ l), sym (copy_no_source _ _ _ _ _ l))
]
