use native.Mathlib.Omega.{arith}
use lib.ListN.{length-take, length-drop}
use Rattle.page_rows.proofs.TextLaws.{text_begins}
use Rattle.page_rows.proofs.PageLaws.{line_start, row_fits, line_row, less_left, line_end_lem}
use Rattle.page_rows.proofs.put_line.Goals as goal

pub loop-at-init : goal.loop-at-init
loop-at-init c = line_start (text_begins c.first_text.ensures c.unwrap_or-at.ensures)

pub overflow_add-end : goal.overflow_add-end
overflow_add-end c = omega (arith, row_fits c.loop-at.invariant (omega arith) c.requires)

pub slice_bounds-put_row-end : goal.slice_bounds-put_row-end
slice_bounds-put_row-end c = row_fits c.loop-at.invariant (omega arith) c.requires

pub put_row-at-requires : goal.put_row-at-requires
put_row-at-requires c =
    let h = c.loop-at.invariant in
    (h.begins.within, simp (length-take, length-drop) (omega (arith, row_fits h (omega arith) c.requires)))

pub loop-at-smaller : goal.loop-at-smaller
loop-at-smaller c = less_left c.loop-at.invariant (omega arith) c.put_row-at.ensures

pub loop-at-preserved : goal.loop-at-preserved
loop-at-preserved c =
    line_row c.loop-at.invariant (omega arith) c.requires c.put_row-at.ensures

pub shape_of-page : goal.shape_of-page
shape_of-page c = c.loop-at.invariant.sofar.long

pub returns : goal.returns
returns c = line_end_lem c.loop-at.invariant (omega arith)
