use mathlib.Core.Path.{sym, ◌∙◌}
use mathlib.Core.Path.{◌≡◌}
use lib.ListN.{length}
use native.Mathlib.Omega.{arith}
use Rattle.page_rows.proofs.TextLaws.{text_start, text_byte_lem, other_byte, text_full, text_ended}
use Rattle.page_rows.proofs.put_text.Goals as goal
use Rattle.page_rows.proofs.put_text.Goals.{then-is_text+else-n-part, else-is_text}

pub loop-i-init : goal.loop-i-init
loop-i-init c = text_start c.requires

pub shape_of-part-then-n-part : goal.shape_of-part-then-n-part
shape_of-part-then-n-part c = c.loop-i.invariant.sofar.long

pub returns-then-n-part : goal.returns-then-n-part
returns-then-n-part c =
    text_full c.loop-i.invariant (omega arith) (sym c.is_text.ensures ∙ c.if-is_text.true) c.if-n-part.true

pub loop-i-preserved : goal.loop-i-preserved
loop-i-preserved c =
    let I = c.loop-i.invariant in
    let t = c.is_text.ensures in
    elim c.if-is_text.branch [
      | then-is_text+else-n-part w ↦ rw (w.n-is, w.part-is) (text_byte_lem I (omega arith) (sym t ∙ w.if-is_text.true) (omega arith))
      | else-is_text w ↦ rw (w.n-is, w.part-is) (other_byte I (omega arith) (sym t ∙ w.if-is_text.false))
    ]

pub shape_of-part : goal.shape_of-part
shape_of-part c = c.loop-i.invariant.sofar.long

pub returns : goal.returns
returns c =
    let e : c.loop-i.i ≡ length c.args.line.now = omega (arith, c.loop-i.invariant.within) in
    rw e at (text_ended c.loop-i.invariant (omega arith))
