-- `compare_pair`: a string reaches past the end of the cells; or both are parts of them, and are judged (Marking).
use mathlib.Core.Path.{sym}
use mathlib.Core.Logic.{inl, inr}
use lib.Seq.{length-take-le}
use Rattle.pairs.proofs.Marking.{reaches_past, judged_pair}
use Rattle.pairs.proofs.compare_pair.Goals as goal

pub returns-then-left_end-cells : goal.returns-then-left_end-cells
returns-then-left_end-cells c = reaches_past _ c.not_whole.ensures (inl c.if-left_end-cells.true)

pub returns-then-right_end-cells : goal.returns-then-right_end-cells
returns-then-right_end-cells c = reaches_past _ c.not_whole-then-right_end-cells.ensures (inr c.if-right_end-cells.true)

pub slice_bounds-judge-end-2 : goal.slice_bounds-judge-end-2
slice_bounds-judge-end-2 c = sym (length-take-le _ _ c.requires)

pub returns : goal.returns
returns c =
    judged_pair
    _
    c.judge-a.new.w
    c.if-left_end-cells.false
    c.if-right_end-cells.false
    c.judge-a.ensures
    c.requires
    c.judge-a.auto.w
    c.from.ensures
