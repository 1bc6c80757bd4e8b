use mathlib.Core.Path.{refl}
use Rattle.noting.proofs.OpeningLaws.{opening_post}
use Rattle.noting.proofs.note_opening.Goals as goal

pub returns : goal.returns
returns c =
    let pre = c.requires in
    opening_post
    (record {
      large = pre.1;
      inside = pre.3;
      shallow = pre.2;
      count = _;
      count_is = c.cell_at-n.ensures.0;
      number_is = refl;
      around = c.number_at-q.ensures;
    })
    c.note_entry.ensures c.put_cell.ensures c.put_cell-2.ensures c.put_cell-3.ensures c.put_cell-4.ensures
    c.put_cell-5.ensures
