use native.Mathlib.Omega.{arith}
use Rattle.noting.proofs.EntryLaws.{entry_full, entry_post}
use Rattle.noting.proofs.note_entry.Goals as goal

pub returns-then-n-most : goal.returns-then-n-most
returns-then-n-most c = entry_full _ _ _ c.capacity-most.ensures c.if-n-most.true

pub returns : goal.returns
returns c =
    let pre = c.requires in
    entry_post
    (record {
      positive = pre.2;
      room = omega arith;
      most_is = c.capacity-most.ensures;
      fits = pre.0;
      large = pre.1;
      hash_is = c.hash-h.ensures;
      chain_is = c.chain-head.ensures.0;
      was_is = c.cell_at-was.ensures.0;
    })
    c.put_cell.ensures c.put_cell-2.ensures c.put_cell-3.ensures
