use native.Mathlib.Omega.{arith}
use Rattle.page_rows.proofs.CountLaws.{count_start, count_line, count_end}
use Rattle.page_rows.proofs.count_rows.Goals as goal

pub loop-at-init : goal.loop-at-init
loop-at-init c = count_start

pub slice_bounds-rows_of-count : goal.slice_bounds-rows_of-count
slice_bounds-rows_of-count c = omega (arith, c.line_end-end.ensures.from (omega arith))

pub slice_bounds-rows_of-start : goal.slice_bounds-rows_of-start
slice_bounds-rows_of-start c = omega (arith, c.line_end-end.ensures.from (omega arith))

pub slice_bounds-rows_of-end : goal.slice_bounds-rows_of-end
slice_bounds-rows_of-end c = c.line_end-end.ensures.within (omega arith)

pub overflow_add-rows : goal.overflow_add-rows
overflow_add-rows c =
    let e = c.line_end-end.ensures in
    let h = count_line c.loop-at.invariant (omega arith) e c.rows_of-rows.ensures in
    omega (arith, h.few, h.within)

pub loop-at-smaller : goal.loop-at-smaller
loop-at-smaller c = omega (arith, c.line_end-end.ensures.from (omega arith))

pub loop-at-preserved : goal.loop-at-preserved
loop-at-preserved c = count_line c.loop-at.invariant (omega arith) c.line_end-end.ensures c.rows_of-rows.ensures

pub returns : goal.returns
returns c = (count_end c.loop-at.invariant (omega arith), omega arith)
