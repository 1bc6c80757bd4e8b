use mathlib.Core.Path.{ap, ◌∙◌}
use Prim.Native.Nat.{ℕ, ◌+◌, ◌-◌, ◌≤◌}
use native.Mathlib.Omega.{arith}
use lib.ListN.{length, set, length-set}
use borrow.Rule.Slice.PartMut.{put_mid}
use Rattle.cells.specs.CopyLaws.{copy_put, copy_whole}
use Rattle.entries.specs.EntryLaws.{entry_put}
use Rattle.entries.proofs.entries.put_entry.Goals as goal

pub returns : goal.returns
returns c =
    let A = c.args in
    let index = set A.index.now A.used A.n in
    let source : A.at + A.n ≤ length A.w.now = omega arith in
    let target : A.used + 1 + A.n ≤ length index = simp length-set (omega arith) in
    entry_put A.index.now A.used A.w.now A.at A.n {i = A.n} (omega arith) (omega arith)
    (ap (λ (count : ℕ). put_mid (A.used + 1) (A.used + 1 + A.n - (A.used + 1)) (set A.index.now A.used count) c.copy_from_slice.new.self) c.in-Ok.ensures.1
    ∙ copy_put A.w.now A.at A.n index (A.used + 1) source target c.copy_from_slice.ensures.after
    ∙ copy_whole A.w.now A.at A.n index (A.used + 1) source target)
