use Prim.Native.Nat.{◌-◌}
use native.Mathlib.Omega.{arith}
use lib.ListN.{take, drop, length-take, length-drop}
use Rattle.page_rows.proofs.CountLaws.{Counted, counted_either}
use Rattle.page_rows.proofs.PageLaws.{pages_start, line_fits, pages_line, pages_end}
use Rattle.page_rows.proofs.put_pages.Goals as goal
use Rattle.page_rows.proofs.put_pages.Goals.{Joined-is_signed, then-is_signed, else-is_signed}
use mathlib.Core.Logic.{inl, inr}

-- by which way the line was counted
counted : (c : Joined-is_signed)
    → Counted (take (c.line_end-end.result - c.loop-at.at) (drop c.loop-at.at c.args.book.now)) c.loop-at.n c.if-is_signed.number c.if-is_signed.n
counted c =
    elim c.if-is_signed.branch [
      | then-is_signed w ↦
          counted_either {B = ⊥} (inl (w.if-is_signed.true, w.n-is, w.number-is)) c.is_signed.ensures (λ t. t) absurd
      | else-is_signed w ↦
          counted_either {A = ⊥} (inr (w.if-is_signed.false, w.n-is, w.number-is)) c.is_signed.ensures absurd (λ t. t)
    ]

pub loop-at-init : goal.loop-at-init
loop-at-init c = pages_start

pub slice_bounds-is_signed-count : goal.slice_bounds-is_signed-count
slice_bounds-is_signed-count c = omega (arith, c.line_end-end.ensures.from (omega arith))

pub slice_bounds-is_signed-start : goal.slice_bounds-is_signed-start
slice_bounds-is_signed-start c = omega (arith, c.line_end-end.ensures.from (omega arith))

pub slice_bounds-is_signed-end : goal.slice_bounds-is_signed-end
slice_bounds-is_signed-end c = c.line_end-end.ensures.within (omega arith)

pub overflow_add-n : goal.overflow_add-n
overflow_add-n c = omega (arith, c.loop-at.invariant.few)

pub slice_bounds-put_line-count : goal.slice_bounds-put_line-count
slice_bounds-put_line-count c = omega (arith, c.line_end-end.ensures.from (omega arith))

pub slice_bounds-put_line-start : goal.slice_bounds-put_line-start
slice_bounds-put_line-start c = omega (arith, c.line_end-end.ensures.from (omega arith))

pub slice_bounds-put_line-end : goal.slice_bounds-put_line-end
slice_bounds-put_line-end c = c.line_end-end.ensures.within (omega arith)

pub slice_bounds-put_line-count-in-loop-at : goal.slice_bounds-put_line-count-in-loop-at
slice_bounds-put_line-count-in-loop-at c =
    let d = counted (goal.at.slice_bounds-put_line-count-in-loop-at c).Joined-is_signed in
    omega (arith, line_fits c.loop-at.invariant (omega arith) c.line_end-end.ensures c.requires d)

pub slice_bounds-put_line-start-in-loop-at : goal.slice_bounds-put_line-start-in-loop-at
slice_bounds-put_line-start-in-loop-at c =
    let d = counted (goal.at.slice_bounds-put_line-start-in-loop-at c).Joined-is_signed in
    omega (arith, line_fits c.loop-at.invariant (omega arith) c.line_end-end.ensures c.requires d)

pub put_line-to-requires : goal.put_line-to-requires
put_line-to-requires c =
    let d = counted (goal.at.put_line-to-requires c).Joined-is_signed in
    let fits = line_fits c.loop-at.invariant (omega arith) c.line_end-end.ensures c.requires d in
    simp (length-take, length-drop) (omega (arith, fits))

pub overflow_add-to : goal.overflow_add-to
overflow_add-to c =
    let d = counted (goal.at.overflow_add-to c).Joined-is_signed in
    let fits = line_fits c.loop-at.invariant (omega arith) c.line_end-end.ensures c.requires d in
    omega (arith, fits, c.put_line-to.ensures.0)

pub loop-at-smaller : goal.loop-at-smaller
loop-at-smaller c = omega (arith, c.line_end-end.ensures.from (omega arith))

pub loop-at-preserved : goal.loop-at-preserved
loop-at-preserved c =
    let d = counted (goal.at.loop-at-preserved c).Joined-is_signed in
    pages_line c.loop-at.invariant (omega arith) c.line_end-end.ensures c.requires d c.put_line-to.ensures

pub shape_of-page : goal.shape_of-page
shape_of-page c = c.loop-at.invariant.sofar.long

pub returns : goal.returns
returns c = pages_end c.loop-at.invariant (omega arith)
