-- Marks added cell by cell, for the lines that cells name, and for an indicator.
use Rattle.std.specs.Prelude.{◌≡◌, ◌⊎◌, true, false, List, [], ◌∷◌, length, get_or, take}
use Rattle.std.proofs.Common.{sym, ap, ap₂, ◌∙◌, ⊎_elim, add-one, arith, length-take, drop_of_length-le, drop-cons, get_or-take}
use Rattle.std.proofs.Math.Path.{subst}
use Prim.Native.Nat.{ℕ, zero, suc, ◌+◌, ◌/◌, ◌≤◌, ◌<◌}
use Rattle.std.proofs.Math.Seq.{slice}
use Rattle.aut68.specs.Sizes.{cell_factor}
use Rattle.aut68.specs.Index.{mentioned_as_indicator}
use Rattle.cells.specs.Numbers.{names_line, numbers_in, numbers_append}
use Rattle.marks.specs.Marks.{MarkPost}
use Rattle.reaching.specs.Adding.{AddsMarks, adds_none, adds_one, adds_append}

module _ {w w' : List ℕ} where
  pub adds_indicator : (v : ℕ) → 0 < v → MarkPost w w' v → AddsMarks (mentioned_as_indicator v) w w'
  unfolding mentioned_as_indicator
  adds_indicator zero h p = absurd (omega arith)
  adds_indicator (suc v) h p = adds_one p

  pub adds_name : (x : ℕ) → names_line x ≡ true → MarkPost w w' (x / cell_factor) → AddsMarks (numbers_in (x ∷ [])) w w'
  unfolding numbers_in
  adds_name x e p = rw (e, numbers_in) (adds_one p)

module _ {w : List ℕ} where
  pub adds_no_indicator : (v : ℕ) → v ≤ 0 → AddsMarks (mentioned_as_indicator v) w w
  unfolding mentioned_as_indicator
  adds_no_indicator zero h = adds_none
  adds_no_indicator (suc v) h = absurd (omega arith)

  pub adds_no_name : (x : ℕ) → names_line x ≡ false → AddsMarks (numbers_in (x ∷ [])) w w
  unfolding numbers_in
  adds_no_name x e = rw (e, numbers_in) adds_none

-- ---- the cells from place i to place `to`

module _ (i to : ℕ) (ts : List ℕ) where
  cells_none : (to ≤ i) ⊎ (length ts ≤ i) → slice i to ts ≡ []
  cells_none h = drop_of_length-le (take to ts) {i = i} (rw length-take (⊎_elim (λ k. omega arith) (λ k. omega arith) h))

  cells_next : i < to → i < length ts → slice i to ts ≡ get_or ts i 0 ∷ slice (i + 1) to ts
  cells_next h k =
      drop-cons (take to ts) i 0 (rw length-take (omega arith))
      ∙ ap₂ (λ (x j : ℕ). x ∷ slice j to ts) (get_or-take to ts i 0 h) (sym (add-one i))

  pub adds_end : {w : List ℕ} → (to ≤ i) ⊎ (length ts ≤ i) → AddsMarks (numbers_in (slice i to ts)) w w
  unfolding numbers_in
  adds_end {w} h = subst (λ xs. AddsMarks (numbers_in xs) w w) (sym (cells_none h)) adds_none

  pub adds_turn : {w v w' : List ℕ} → i < to → i < length ts → AddsMarks (numbers_in (get_or ts i 0 ∷ [])) w v
      → AddsMarks (numbers_in (slice (i + 1) to ts)) v w' → AddsMarks (numbers_in (slice i to ts)) w w'
  adds_turn {w} {v} {w'} h k a b =
      subst (λ xs. AddsMarks xs w w') (sym (numbers_append (get_or ts i 0 ∷ []) (slice (i + 1) to ts)) ∙ ap numbers_in (sym (cells_next h k))) (adds_append a b)
