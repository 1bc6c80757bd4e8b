use Prim.Native.Nat.{◌≤◌}
use lib.ListN.{length}
use Rattle.notes.specs.Note.{capacity}
use native.Mathlib.Omega.{arith}
use Rattle.std.proofs.Common.{rules}
use Rattle.names.specs.Chains.{down_finds}
use Rattle.notes.proofs.EntryLaws.{entries_within, search_starts, gives_entry}
use Rattle.notes.proofs.noted_in.Goals as goal

pub returns : goal.returns
returns c =
    let a = c.args in
    let n = c.cell_at.ensures.0 in
    let m = c.noted-most.ensures in
    let few : c.noted-most.result ≤ capacity (length a.w.now) = entries_within a.book.now a.w.now a.word.now a.h a.q n m in
    gives_entry _ _ _ _ _ n m _
    (down_finds (λ u p b t e g. let l = g.long in let k : u ≤ capacity (length a.w.now) = omega arith in search rules) (λ u p b t e. let k : u ≤ capacity (length a.w.now) = omega arith in search rules)
    (search_starts _ _ _ _ _ n m c.chain.ensures.0 c.cell_at-first.ensures.0) c.search.ensures)
