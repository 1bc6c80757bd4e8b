-- The note behind an opening.
use mathlib.Core.Path.{◌≡◌, refl, sym, ap, ◌∙◌, subst, subst₂}
use mathlib.Core.Logic.{◌≢◌, inl}
use mathlib.Core.Bool.{true}
use mathlib.Core.List.{List, [], ◌∷◌, ◌++◌}
use Prim.Native.Nat.{ℕ, suc, ◌+◌, ◌/◌, ◌≤◌, ◌<◌}
use native.Mathlib.Omega.{arith}
use lib.ListN.{length, get_or, drop, length-append}
use Rattle.aut68.specs.Sizes.{cell_values, name_limit, book_limit, open_limit}
use Rattle.aut68.specs.Bytes.{Bytes, lines}
use Rattle.aut68.specs.Lines.{part_of}
use Rattle.aut68.specs.Paragraphs.{Place, current, opening}
use Rattle.aut68.specs.Procedure.Parse.{signed}
use Rattle.cells.specs.Cells.{Outside}
use Rattle.cells.specs.Stores.{outside_then, outside_more}
use Rattle.lookup.specs.DerivedBooks.{new_paragraph}
use Rattle.lookup.specs.Places.{RightPlace, current_within, opening_right}
use Rattle.walks.specs.Walk.{title_of}
use Rattle.notes.specs.Note.{depth_cell, count_cell, upto_cell, numbers, froms, number_cell, from_cell, heads, EntriesNoted, Level, Levels, inward, note_end}
use Rattle.notes.specs.NoteLaws.{SameNote, entries_same, levels_kept, outer_all, level_number}
use Rattle.notes.specs.Posts.{OfLevel}
use Rattle.noting.specs.Posts.{Holds, Put, EntryPost, PlaceStands, OpeningPost}
use Rattle.noting.proofs.PutLaws.{put_as, put_outside}
use Rattle.noting.proofs.LevelLaws.{levels_opening, level_new, paragraphs_few}

-- what is known ahead of it: n is its number, q that of the paragraph around
pub record OpeningAhead (book : Bytes) (start len d next n q : ℕ) (w : List ℕ) : Type 0 where
  pub large : length book ≤ book_limit
  pub inside : next ≤ length book
  pub shallow : d < open_limit
  pub count : ℕ
  pub count_is : count ≡ get_or w (count_cell (length w)) 0
  pub number_is : n ≡ count + 1
  pub around : OfLevel numbers w d q

module _ {book : Bytes} {start len d next n q : ℕ} {w w₁ w₂ w₃ w₄ w₅ w' : List ℕ} (a : OpeningAhead book start len d next n q w) (E : EntryPost book start len n q w w₁)
    (q₁ : Put (length w₁) (numbers + d) n w₁ w₂) (q₂ : Put (length w₂) (froms + d) next w₂ w₃) (q₃ : Put (length w₃) 1 (d + 1) w₃ w₄) (q₄ : Put (length w₄) 2 n w₄ w₅)
    (q₅ : Put (length w₅) 3 next w₅ w') where
  -- all in one store
  p₁ : Put (length w) (numbers + d) n w₁ w₂
  p₁ = put_as E.kept.long refl q₁

  p₂ : Put (length w) (froms + d) next w₂ w₃
  p₂ = put_as (q₁.long ∙ E.kept.long) refl q₂

  p₃ : Put (length w) 1 (d + 1) w₃ w₄
  p₃ = put_as (q₂.long ∙ q₁.long ∙ E.kept.long) refl q₃

  p₄ : Put (length w) 2 n w₄ w₅
  p₄ = put_as (q₃.long ∙ q₂.long ∙ q₁.long ∙ E.kept.long) refl q₄

  p₅ : Put (length w) 3 next w₅ w'
  p₅ = put_as (q₄.long ∙ q₃.long ∙ q₂.long ∙ q₁.long ∙ E.kept.long) refl q₅

  long₁ : length w' ≡ length w₁
  long₁ = q₅.long ∙ q₄.long ∙ q₃.long ∙ q₂.long ∙ q₁.long

  long : length w' ≡ length w
  long = long₁ ∙ E.kept.long

  opening_kept : Outside (length w / 2 + 1) (note_end (length w)) w w'
  opening_kept =
      let s = a.shallow in
      outside_then (outside_more (omega arith) (omega arith) E.kept)
      (outside_then (put_outside (omega arith) (omega arith) p₁)
      (outside_then (put_outside (omega arith) (omega arith) p₂)
      (outside_then (put_outside (omega arith) (omega arith) p₃) (outside_then (put_outside (omega arith) (omega arith) p₄) (put_outside (omega arith) (omega arith) p₅)))))

  -- the cells of outer paragraphs, and those behind all
  kept_at : (j : ℕ) → length w / 2 + numbers ≤ j → j ≢ length w / 2 + (numbers + d) → j ≢ length w / 2 + (froms + d) → get_or w' j 0 ≡ get_or w₁ j 0
  kept_at j l m k =
      p₅.others j (λ e. omega arith) ∙ p₄.others j (λ e. omega arith) ∙ p₃.others j (λ e. omega arith) ∙ p₂.others j k ∙ p₁.others j m

  number_kept : (i : ℕ) → i < d → get_or w' (number_cell (length w) i) 0 ≡ get_or w (number_cell (length w) i) 0
  number_kept i l = let s = a.shallow in kept_at _ (omega arith) (λ e. omega arith) (λ e. omega arith) ∙ E.kept.same _ (inl (omega arith))

  from_kept : (i : ℕ) → i < d → get_or w' (from_cell (length w) i) 0 ≡ get_or w (from_cell (length w) i) 0
  from_kept i l = let s = a.shallow in kept_at _ (omega arith) (λ e. omega arith) (λ e. omega arith) ∙ E.kept.same _ (inl (omega arith))

  entries_kept : SameNote heads w₁ w'
  entries_kept =
      let s = a.shallow in
      let e = E.kept.long in
      record { long = long₁; same = λ i l u. kept_at i (omega arith) (λ e. omega arith) (λ e. omega arith) }

  -- the new cells
  module _ (holds : Holds (length w)) (few : n < cell_values) where
    whole : length w / 2 + 69 ≤ length w
    whole = omega (arith, holds.whole)

    depth_now : get_or w' (depth_cell (length w')) 0 ≡ d + 1
    depth_now =
        let s = a.shallow in
        ap (λ (k : ℕ). get_or w' (depth_cell k) 0) long ∙ p₅.others _ (λ e. omega arith) ∙ p₄.others _ (λ e. omega arith) ∙ p₃.is (omega (arith, whole)) (omega arith)

    count_now : get_or w' (count_cell (length w')) 0 ≡ n
    count_now = ap (λ (k : ℕ). get_or w' (count_cell k) 0) long ∙ p₅.others _ (λ e. omega arith) ∙ p₄.is (omega (arith, whole)) few

    upto_now : get_or w' (upto_cell (length w')) 0 ≡ next
    upto_now = ap (λ (k : ℕ). get_or w' (upto_cell k) 0) long ∙ p₅.is (omega (arith, whole)) (omega (arith, a.inside, a.large))

    number_now : get_or w' (number_cell (length w') d) 0 ≡ n
    number_now =
        let s = a.shallow in
        ap (λ (k : ℕ). get_or w' (number_cell k d) 0) long
        ∙ p₅.others _ (λ e. omega arith)
        ∙ p₄.others _ (λ e. omega arith)
        ∙ p₃.others _ (λ e. omega arith)
        ∙ p₂.others _ (λ e. omega arith)
        ∙ p₁.is (omega (arith, whole)) few

    from_now : get_or w' (from_cell (length w') d) 0 ≡ next
    from_now =
        let s = a.shallow in
        ap (λ (k : ℕ). get_or w' (from_cell k d) 0) long
        ∙ p₅.others _ (λ e. omega arith)
        ∙ p₄.others _ (λ e. omega arith)
        ∙ p₃.others _ (λ e. omega arith)
        ∙ p₂.is (omega (arith, whole)) (omega (arith, a.inside, a.large))

  module _ (at : Place) (b : Bytes) (upto : ℕ) (holds : Holds (length w)) (right : RightPlace at) (h : PlaceStands book at w upto) (depth : d ≡ length at.opened) where
    number_is_lem : n ≡ suc (length at.paragraphs)
    number_is_lem = omega (arith, a.number_is, a.count_is, h.place.count_is)

    few : n < cell_values
    few = omega (arith, number_is_lem, paragraphs_few h.walks, a.large)

    around_is_lem : q ≡ current at.opened
    around_is_lem = level_number (outer_all h.place (depth ∙ sym h.place.depth_is)) a.around

    entries_now : len ≤ name_limit → EntriesNoted book (at.paragraphs ++ (new_paragraph at (part_of book start len) ∷ [])) w'
    unfolding opening
    entries_now short =
        entries_same entries_kept (omega arith) (opening_right (part_of book start len) right).numbered
        (subst₂ (λ (k r : ℕ). EntriesNoted book (at.paragraphs ++ (record { name = part_of book start len; number = k; around = r } ∷ [])) w₁) number_is_lem around_is_lem
        (E.means at.paragraphs holds right.numbered number_is_lem (omega (arith, around_is_lem, current_within right.numbered right.nested)) short h.place.entries))

    module _ (s : signed 43 b ≡ true) (t : title_of b ≡ part_of book start len) (cut : lines (drop upto book) ≡ b ∷ lines (drop next book)) (onward : upto ≤ next) where
      levels_now : Levels book (opening (part_of book start len) at) w' next (opening (part_of book start len) at).opened 0
      unfolding opening
      levels_now =
          inward (ap (λ (k : ℕ). get_or w' (number_cell (length w') k) 0) (sym depth) ∙ number_now holds few ∙ number_is_lem)
          (subst (λ (k : ℕ). Level book (opening (part_of book start len) at) (suc (length at.paragraphs)) 0 k next)
          (sym (ap (λ (k : ℕ). get_or w' (from_cell (length w') k) 0) (sym depth) ∙ from_now holds few)) (level_new book (part_of book start len) next right))
          (levels_kept long (λ i l. number_kept i (omega arith)) (λ i l. from_kept i (omega arith)) (levels_opening s t cut onward right h.walks))

      opening_stands : len ≤ name_limit → PlaceStands book (opening (part_of book start len) at) w' next
      unfolding opening
      opening_stands short =
          record {
            place = record {
              depth_is = depth_now holds few ∙ omega arith;
              count_is = count_now holds few ∙ omega (arith, number_is_lem, length-append at.paragraphs (new_paragraph at (part_of book start len) ∷ []));
              few = omega (arith, a.shallow);
              within = omega (arith, upto_now holds few, a.inside);
              levels = subst (λ (k : ℕ). Levels book (opening (part_of book start len) at) w' k (opening (part_of book start len) at).opened 0) (sym (upto_now holds few)) levels_now;
              entries = entries_now short;
            };
            walks = levels_now;
          }

  pub opening_post : OpeningPost book start len d next w w'
  opening_post = record { kept = opening_kept; means = λ at b upto holds right h depth s t short cut onward. opening_stands at b upto holds right h depth s t cut onward short }
