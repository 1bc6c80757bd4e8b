-- The note behind a closing.
use mathlib.Core.Path.{◌≡◌, refl, sym, ap, ◌∙◌, subst}
use mathlib.Core.Bool.{true, false}
use mathlib.Core.List.{List, ◌∷◌}
use Prim.Native.Nat.{ℕ, suc, ◌≤◌, ◌<◌}
use native.Mathlib.Omega.{arith}
use lib.ListN.{length, get_or, drop}
use Rattle.aut68.specs.Sizes.{cell_values, open_limit}
use Rattle.aut68.specs.Bytes.{Bytes, lines}
use Rattle.aut68.specs.Paragraphs.{Opened, Place, closed_to}
use Rattle.aut68.specs.Procedure.Parse.{signed}
use Rattle.cells.specs.Stores.{outside_then}
use Rattle.lookup.specs.Places.{RightPlace}
use Rattle.notes.specs.Note.{depth_cell, count_cell, upto_cell, numbers, Levels}
use Rattle.notes.specs.NoteLaws.{SameNote, entries_same, levels_kept}
use Rattle.noting.specs.Posts.{Holds, Put, PlaceStands, ClosingPost}
use Rattle.noting.proofs.PutLaws.{put_as, put_outside}
use Rattle.noting.proofs.LevelLaws.{levels_closing}

module _ (book : Bytes) {d next : ℕ} {w w₁ w' : List ℕ} (p₁ : Put (length w) 1 d w w₁) (q₂ : Put (length w₁) 3 next w₁ w') where
  p₂ : Put (length w) 3 next w₁ w'
  p₂ = put_as p₁.long refl q₂

  rest_kept_lem : SameNote numbers w w'
  rest_kept_lem = record { long = q₂.long ∙ p₁.long; same = λ i l u. p₂.others i (λ e. omega arith) ∙ p₁.others i (λ e. omega arith) }

  module _ (at : Place) (b : Bytes) (upto : ℕ) (o : Opened) (os : List Opened) (holds : Holds (length w)) (right : RightPlace at) (h : PlaceStands book at w upto) (inner : at.opened ≡ o ∷ os)
      (depth : d ≡ length os) where
    shallow : suc (length os) ≤ open_limit
    shallow = omega (arith, h.place.few, ap length inner)

    module _ (s : signed 43 b ≡ false) (t : signed 45 b ≡ true) (cut : lines (drop upto book) ≡ b ∷ lines (drop next book)) (onward : upto ≤ next) (inside : next ≤ length book)
        (small : next < cell_values) where
      levels_left : Levels book (closed_to at os) w' next os 0
      levels_left =
          levels_kept rest_kept_lem.long (λ i l. rest_kept_lem.same _ (omega arith) (omega (arith, shallow))) (λ i l. rest_kept_lem.same _ (omega arith) (omega (arith, shallow)))
          (levels_closing os s t cut onward (subst (λ (x : List Opened). Levels book at w upto x 0) inner h.walks))

      upto_left : get_or w' (upto_cell (length w')) 0 ≡ next
      upto_left = ap (λ (k : ℕ). get_or w' (upto_cell k) 0) rest_kept_lem.long ∙ p₂.is (omega (arith, holds.whole)) small

      closing_stands : PlaceStands book (closed_to at os) w' next
      closing_stands =
          record {
            place = record {
              depth_is = ap (λ (k : ℕ). get_or w' (depth_cell k) 0) rest_kept_lem.long ∙ p₂.others _ (λ e. omega arith) ∙ p₁.is (omega (arith, holds.whole)) (omega (arith, shallow)) ∙ depth;
              count_is = ap (λ (k : ℕ). get_or w' (count_cell k) 0) rest_kept_lem.long ∙ p₂.others _ (λ e. omega arith) ∙ p₁.others _ (λ e. omega arith) ∙ h.place.count_is;
              few = omega (arith, shallow);
              within = omega (arith, upto_left, inside);
              levels = subst (λ (k : ℕ). Levels book (closed_to at os) w' k os 0) (sym upto_left) levels_left;
              entries = entries_same rest_kept_lem (omega arith) right.numbered h.place.entries;
            };
            walks = levels_left;
          }

  pub closing_post : ClosingPost book d next w w'
  closing_post =
      record {
        kept = outside_then (put_outside (omega arith) (omega arith) p₁) (put_outside (omega arith) (omega arith) p₂);
        means = closing_stands;
      }
