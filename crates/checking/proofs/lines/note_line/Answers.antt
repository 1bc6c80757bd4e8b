-- `note_line`: nothing where there is no such line or no such unit; else what `put_head` leaves of the first 26 units, and `link` of
-- the table.
use mathlib.Core.Path.{sym}
use native.Mathlib.Omega.{arith}
use lib.Seq.{length-take-le}
use Rattle.checking.proofs.HintLaws.{not_noted, line_noted}
use Rattle.checking.proofs.lines.note_line.Goals as goal

pub returns-then-lines-ge-LAST_LINE : goal.returns-then-lines-ge-LAST_LINE
returns-then-lines-ge-LAST_LINE c = not_noted c.args.lines c.args.limit (λ l f. omega arith)

pub returns-then-limit-w : goal.returns-then-limit-w
returns-then-limit-w c = not_noted c.args.lines c.args.limit (λ l f. omega arith)

pub slice_bounds-put_head-end-2 : goal.slice_bounds-put_head-end-2
slice_bounds-put_head-end-2 c = sym (length-take-le _ _ (omega arith))

pub returns : goal.returns
returns c =
    let a = c.args in
    line_noted a.lines a.limit a.w.now c.put_head-before.new.w (omega arith) c.identifier-word.ensures.contents c.hash.ensures c.field-q.ensures.0
    c.put_head-before.ensures c.link.ensures
