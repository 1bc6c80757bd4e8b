use mathlib.Core.Path.{refl, sym, ◌∙◌}
use Rattle.std.proofs.Common.{rules}
use native.Mathlib.Omega.{arith}
use lib.ListN.{length-take}
use Rattle.aut68.specs.Pages.{text_in}
use Rattle.page_rows.proofs.RowLaws.{row_put_long, unfilled_long, row_put}
use Rattle.page_rows.proofs.put_row.Goals as goal

pub slice_bounds-put_number-end-2 : goal.slice_bounds-put_number-end-2
slice_bounds-put_number-end-2 c = simp length-take (omega arith)

pub put_number-requires : goal.put_number-requires
put_number-requires c = simp length-take (omega arith)

pub slice_bounds-put_text-end : goal.slice_bounds-put_text-end
slice_bounds-put_text-end c =
    omega (arith, unfilled_long c.args.n c.args.part.now c.put_number.new.part c.fill.new.self c.requires.1 c.put_number.ensures (search rules))

pub returns : goal.returns
unfolding text_in
returns c =
    row_put c.args.n c.args.part.now c.put_number.new.part c.fill.new.self c.requires.1 c.put_number.ensures (search rules) c.put_text.ensures refl

pub shape_of-part : goal.shape_of-part
shape_of-part c = row_put_long (returns c) ∙ sym c.requires.1
