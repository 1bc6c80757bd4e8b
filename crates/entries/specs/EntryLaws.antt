-- Laws: an entry put into the index.
use Rattle.std.specs.Prelude.{◌≡◌, List, ℕ, suc, ◌+◌, ◌≤◌, take, drop, set}
use Rattle.std.proofs.Common.{sym, ap, ◌∙◌, add-one, arith}
use Rattle.std.proofs.lemmas.List.Edits.{sets}
use Rattle.cells.specs.CopyLaws.{copied}
use Rattle.cells.specs.Slices.{run_is_slice}
use Rattle.entries.specs.Posts.{EntryPost}

-- the end of the loop that copies behind the count
pub entry_put : (index : List ℕ) (used : ℕ) (w : List ℕ) (at n : ℕ) {i : ℕ} {index' : List ℕ} → i ≤ n → n ≤ i
    → index' ≡ copied w at i (set index used n) (used + 1) → EntryPost index used w at n index'
unfolding copied
entry_put index used w at n {i} l g e = record {
  put = λ a b k.
      let q : i ≡ n = omega arith in
      e
      ∙ ap (λ (m : ℕ). sets (set index used n) m (take i (drop at w))) (add-one used)
      ∙ ap (sets (set index used n) (suc used)) (ap (λ (m : ℕ). take m (drop at w)) q ∙ sym (run_is_slice at n w));
}
