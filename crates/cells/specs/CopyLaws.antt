-- Laws: runs of cells copied, moved, cleared.
use Rattle.std.specs.Prelude.{◌≡◌, refl, ◌⊎◌, Bool, true, false, ◌&&◌, ◌||◌, List, [], ◌∷◌, ◌++◌, ℕ, ◌+◌, ◌-◌, ◌≤◌, ◌<◌, length, get_or}
use Rattle.std.proofs.Math.Path.{sym, ap}
use Rattle.std.proofs.Common.{ap₂, ◌∙◌, ⊎_elim, add-one, arith, take-suc, get_or-drop, length-take-le, drop-drop, append_assoc}
use Rattle.std.proofs.Math.Logic.{inl, inr}
use Rattle.std.proofs.Math.Nat.{zero-add}
use Rattle.std.proofs.Math.Dec.{leb}
use Rattle.std.proofs.Math.ListN.{take, drop, set, replicate, length-drop, length-replicate, get_or-replicate, get_or-append}
use Rattle.std.proofs.lemmas.List.{replicate-append-replicate}
use Rattle.std.proofs.Math.Seq.{slice}
use Rattle.std.proofs.lemmas.List.Edits.{sets, sets-eq}
use borrow.Rule.Slice.PartMut.{put_mid}
use lib.Seq.{paste}
use borrow.Author.Tests.{le-leb, lt-leb, leb-true, leb-false}
use Rattle.aut68.specs.Procedure.Run.{over}
use Rattle.cells.specs.Cells.{At, Outside, copy_cells, move_cells}
use Rattle.cells.specs.Forests.{at_length}
use Rattle.cells.specs.Posts.{cleared}
use Rattle.cells.specs.Stores.{sets_append, sets_elsewhere, outside_of, outside_sets, at_sets, at_taken, at_of_taken}
use Rattle.cells.specs.Slices.{run_is_slice}

pub and_false : (b : Bool) → (b && false) ≡ false
and_false true = refl
and_false false = refl

or_true : (b : Bool) → (b || true) ≡ true
or_true true = refl
or_true false = refl

either : (t : Bool) (a b : List ℕ) → (elim t as (λ _. List ℕ) [ true ↦ a | false ↦ b ] ≡ a) ⊎ (elim t as (λ _. List ℕ) [ true ↦ a | false ↦ b ] ≡ b)
either true a b = inl refl
either false a b = inr refl

-- ---- copies

-- the first i cells are copied
unfoldable pub copied : List ℕ → ℕ → ℕ → List ℕ → ℕ → List ℕ
copied s from i w to = sets w to (take i (drop from s))

pub copied_none : (s : List ℕ) (from : ℕ) (w : List ℕ) (to : ℕ) → copied s from 0 w to ≡ w
unfolding copied
copied_none s from w to = refl

module _ (s : List ℕ) (from n : ℕ) (w : List ℕ) (to : ℕ) where
  -- the cells of the source that are copied
  pub copied_length : from + n ≤ length s → length (take n (drop from s)) ≡ n
  copied_length h = length-take-le n (drop from s) (omega (arith, length-drop from s))

  -- one cell more
  pub copied_more : from + n < length s → set (copied s from n w to) (to + n) (get_or s (from + n) 0) ≡ copied s from (n + 1) w to
  unfolding copied
  copied_more h =
      let l = copied_length (omega arith) in
      ap (λ (k : ℕ). set (sets w to (take n (drop from s))) k (get_or s (from + n) 0)) (ap (λ (k : ℕ). to + k) (sym l))
      ∙ sets_append (take n (drop from s)) (get_or s (from + n) 0 ∷ []) w to
      ∙ ap (sets w to)
      (ap (λ (x : ℕ). take n (drop from s) ++ (x ∷ [])) (sym (get_or-drop from s n 0))
      ∙ sym (take-suc (drop from s) n 0 (omega (arith, length-drop from s)))
      ∙ ap (λ (k : ℕ). take k (drop from s)) (sym (add-one n)))

  -- a turn of a loop that copies
  pub copied_turn : {now : List ℕ} {x : ℕ} → from + n < length s → now ≡ copied s from n w to → x ≡ get_or s (from + n) 0
      → set now (to + n) x ≡ copied s from (n + 1) w to
  copied_turn h e q = ap₂ (λ (l : List ℕ) (y : ℕ). set l (to + n) y) e q ∙ copied_more h

  -- no other cell is written
  pub copied_elsewhere : from + n ≤ length s → (j : ℕ) → (j < to) ⊎ (to + n ≤ j) → get_or (copied s from n w to) j 0 ≡ get_or w j 0
  unfolding copied
  copied_elsewhere h j e =
      sets_elsewhere (take n (drop from s)) w to j (⊎_elim (λ k. inl k) (λ k. inr (omega (arith, copied_length h))) e)

  -- the next cell of the target is still as it was
  pub copied_next : {now : List ℕ} → from + n ≤ length s → now ≡ copied s from n w to → get_or now (to + n) 0 ≡ get_or w (to + n) 0
  copied_next h e = ap (λ (l : List ℕ). get_or l (to + n) 0) e ∙ copied_elsewhere h (to + n) (inr (omega arith))

  pub copy_whole : from + n ≤ length s → to + n ≤ length w → copy_cells s from n w to ≡ copied s from n w to
  unfolding copy_cells copied
  copy_whole h k = rw (le-leb _ _ h, le-leb _ _ k, copy_cells)

  pub copy_no_source : length s < from + n → copy_cells s from n w to ≡ w
  unfolding copy_cells
  copy_no_source h = rw (lt-leb _ _ h, copy_cells)

  pub copy_no_target : length w < to + n → copy_cells s from n w to ≡ w
  unfolding copy_cells
  copy_no_target h = rw (lt-leb (to + n) (length w) h, and_false (leb (from + n) (length s)), copy_cells)

  -- the end of a loop that copies
  pub copied_all : {now : List ℕ} {i : ℕ} → i ≤ n → n ≤ i → from + n ≤ length s → to + n ≤ length w → now ≡ copied s from i w to
      → now ≡ copy_cells s from n w to
  copied_all {i = i} l g h k e =
      let q : i ≡ n = omega arith in
      e ∙ ap (λ (m : ℕ). copied s from m w to) q ∙ sym (copy_whole h k)

  -- the run pasted over the target at once
  pub copy_pasted : from + n ≤ length s → to + n ≤ length w → paste w to (drop from s) n ≡ copy_cells s from n w to
  unfolding copied
  copy_pasted h k =
      let l : length (take n (drop from s)) ≡ n = copied_length h in
      sym (copy_whole h k ∙ sets-eq (take n (drop from s)) w to (omega arith) ∙ ap (λ (m : ℕ). take to w ++ take n (drop from s) ++ drop (to + m) w) l)

  -- the run put in the part of the target that it is for
  pub copy_put : {xs : List ℕ} → from + n ≤ length s → to + n ≤ length w → xs ≡ take (from + n - from) (drop from s)
      → put_mid to (to + n - to) w xs ≡ copy_cells s from n w to
  copy_put {xs} h k e =
      let q : from + n - from ≡ n = omega arith in
      let r : to + n - to ≡ n = omega arith in
      ap₂ (λ (m : ℕ) (l : List ℕ). put_mid to m w l) r (e ∙ ap (λ (m : ℕ). take m (drop from s)) q)
      ∙ ap (λ (l : List ℕ). take to w ++ (take n (drop from s) ++ l)) (drop-drop n to w)
      ∙ sym (append_assoc (take to w) (take n (drop from s)) (drop (to + n) w))
      ∙ copy_pasted h k

  pub copied_outside : from + n ≤ length s → Outside to (to + n) w (copied s from n w to)
  unfolding copied
  copied_outside h =
      rw (copied_length h) at (outside_sets w (take n (drop from s)) to)

  -- a copy writes nowhere but in its target
  pub copy_outside : Outside to (to + n) w (copy_cells s from n w to)
  copy_outside = go (leb (from + n) (length s)) (leb (to + n) (length w)) refl refl
    where
      go : (a b : Bool) → leb (from + n) (length s) ≡ a → leb (to + n) (length w) ≡ b → Outside to (to + n) w (copy_cells s from n w to)
      go false b p q = outside_of (copy_no_source (leb-false _ _ p))
      go true false p q = outside_of (copy_no_target (leb-false _ _ q))
      go true true p q = rw (copy_whole (leb-true _ _ p) (leb-true _ _ q)) (copied_outside (leb-true _ _ p))

-- what lay at the source lies at the target
pub copy_at : (s : List ℕ) (from : ℕ) (w : List ℕ) (to : ℕ) {xs rest : List ℕ} → At s from xs rest → from ≤ length s → to + length xs ≤ length w
    → At (copy_cells s from (length xs) w to) to xs (drop (to + length xs) w)
unfolding copied
copy_at s from w to {xs} a l h =
    rw (copy_whole s from (length xs) w to (omega (arith, at_length a)) h, at_taken a) (at_sets w xs to h)

-- ---- moves

module _ (w : List ℕ) (from n to : ℕ) where
  pub move_apart : (to ≤ from) ⊎ (from + n ≤ to) → move_cells w from n to ≡ copy_cells w from n w to
  unfolding move_cells
  move_apart (inl h) = rw (le-leb _ _ h, move_cells)
  move_apart (inr h) = rw (le-leb (from + n) to h, or_true (leb to from), move_cells)

  -- the run pasted over its target at once
  pub move_pasted : from + n ≤ length w → to + n ≤ length w → (to ≤ from) ⊎ (from + n ≤ to) → paste w to (drop from w) (from + n - from) ≡ move_cells w from n to
  move_pasted h k d = ap (paste w to (drop from w)) (omega arith) ∙ copy_pasted w from n w to h k ∙ sym (move_apart d)

  pub move_inside : from < to → to < from + n → move_cells w from n to ≡ w
  unfolding move_cells
  move_inside h k = rw (lt-leb to from h, lt-leb (from + n) to k, move_cells)

  -- a move is a copy or does nothing
  pub move_or_not : (move_cells w from n to ≡ copy_cells w from n w to) ⊎ (move_cells w from n to ≡ w)
  unfolding move_cells
  move_or_not = either (leb to from || leb (from + n) to) (copy_cells w from n w to) w

  pub move_no_source : length w < from + n → move_cells w from n to ≡ w
  move_no_source h = ⊎_elim (λ e. e ∙ copy_no_source w from n w to h) (λ e. e) move_or_not

  pub move_no_target : length w < to + n → move_cells w from n to ≡ w
  move_no_target h = ⊎_elim (λ e. e ∙ copy_no_target w from n w to h) (λ e. e) move_or_not

  pub move_outside : Outside to (to + n) w (move_cells w from n to)
  move_outside = ⊎_elim (λ e. rw e (copy_outside w from n w to)) outside_of move_or_not

  -- the next cell of the source is still as it was
  pub moved_next : (i : ℕ) {now : List ℕ} → i < n → (to ≤ from) ⊎ (from + n ≤ to) → from + n ≤ length w → now ≡ copied w from i w to
      → get_or now (from + i) 0 ≡ get_or w (from + i) 0
  moved_next i l a h e =
      ap (λ (l : List ℕ). get_or l (from + i) 0) e
      ∙ copied_elsewhere w from i w to (omega arith) (from + i) (⊎_elim (λ k. inr (omega arith)) (λ k. inl (omega arith)) a)

-- what lay at the source lies at the target
pub move_at : (w : List ℕ) (from to : ℕ) {xs rest : List ℕ} → At w from xs rest → from ≤ length w → to + length xs ≤ length w
    → (to ≤ from) ⊎ (from + length xs ≤ to) → At (move_cells w from (length xs) to) to xs (drop (to + length xs) w)
move_at w from to {xs} a l h d = rw (move_apart w from (length xs) to d) (copy_at w from w to a l h)

-- a run of cells moved elsewhere
pub slice_moved : (w : List ℕ) (from n to : ℕ) → from + n ≤ length w → to + n ≤ length w → (to ≤ from) ⊎ (from + n ≤ to)
    → slice to (to + n) (move_cells w from n to) ≡ slice from (from + n) w
slice_moved w from n to h k d =
    let l : length (take n (drop from w)) ≡ n = copied_length w from n w to h in
    run_is_slice to n (move_cells w from n to)
    ∙ rw l at (at_taken (move_at w from to (at_of_taken w from n (take n (drop from w)) refl) (omega arith) (rw l k) (rw l d)))
    ∙ sym (run_is_slice from n w)

-- ---- zeros

unfoldable pub zeros : ℕ → List ℕ → List ℕ
zeros n w = sets w 0 (replicate n 0)

pub zeros_none : (w : List ℕ) → zeros 0 w ≡ w
unfolding zeros
zeros_none w = refl

module _ (n : ℕ) (w : List ℕ) where
  zeros_more : set (zeros n w) n 0 ≡ zeros (n + 1) w
  unfolding zeros
  zeros_more =
      ap (λ (k : ℕ). set (sets w 0 (replicate n 0)) k 0) (sym (ap (λ (k : ℕ). 0 + k) (length-replicate n 0) ∙ zero-add n))
      ∙ sets_append (replicate n 0) (0 ∷ []) w 0
      ∙ ap (sets w 0) (replicate-append-replicate n 1 0)

  pub cleared_whole : n ≤ length w → cleared n w ≡ zeros n w
  unfolding cleared zeros over
  cleared_whole h =
      rw (le-leb _ _ h, cleared)
      (ap (λ (k : ℕ). replicate n 0 ++ drop k w) (sym (zero-add (length (replicate n 0))))
      ∙ sym (sets-eq (replicate n 0) w 0 (omega (arith, length-replicate {A = ℕ} n 0))))

  -- a part filled with zeros at once
  pub cleared_put : {xs : List ℕ} → n ≤ length w → xs ≡ replicate n 0 → xs ++ drop n w ≡ cleared n w
  unfolding cleared over
  cleared_put {xs} h e =
      rw (le-leb _ _ h, cleared)
      (ap₂ (λ (l : List ℕ) (m : ℕ). l ++ drop m w) e (sym (length-replicate n 0)))

  -- a turn of a loop that clears, and its end
  pub zeros_turn : {now : List ℕ} → now ≡ zeros n w → set now n 0 ≡ zeros (n + 1) w
  zeros_turn e = ap (λ (l : List ℕ). set l n 0) e ∙ zeros_more

  pub zeros_all : {now : List ℕ} {i : ℕ} → i ≤ n → n ≤ i → n ≤ length w → now ≡ zeros i w → now ≡ cleared n w
  zeros_all {i = i} l g h e =
      let q : i ≡ n = omega arith in
      e ∙ ap (λ (m : ℕ). zeros m w) q ∙ sym (cleared_whole h)

  pub cleared_zero : n ≤ length w → (i : ℕ) → i < n → get_or (cleared n w) i 0 ≡ 0
  unfolding cleared over
  cleared_zero h i l =
      rw (le-leb _ _ h, cleared)
      (get_or-append (replicate n 0) (drop (length (replicate n 0)) w) 0 i (omega (arith, length-replicate {A = ℕ} n 0)) ∙ get_or-replicate n i 0 0 l)

  pub cleared_not : length w < n → cleared n w ≡ w
  unfolding cleared
  cleared_not h = rw (lt-leb _ _ h, cleared)
