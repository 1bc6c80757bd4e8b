-- The walks of the open paragraphs, over a paragraph line; and that a book has no more paragraphs than bytes.
use mathlib.Core.Path.{◌≡◌, refl, ap}
use mathlib.Core.Logic.{◌≢◌}
use mathlib.Core.Bool.{Bool, true, false}
use mathlib.Core.List.{List, [], ◌∷◌}
use Prim.Native.Nat.{ℕ, suc, ◌+◌, ◌≤◌, ◌<◌}
use native.Mathlib.Omega.{arith}
use lib.Dec.{eqb}
use lib.ListN.{length, drop, length-append}
use Rattle.aut68.specs.Bytes.{Bytes, onto, lines}
use Rattle.aut68.specs.Paragraphs.{Opened, Place, current, opening, closed_to}
use Rattle.aut68.specs.Procedure.Parse.{signed}
use Rattle.lookup.specs.Places.{Nested, none_open, next_open, RightPlace, numbered_within, current_within}
use Rattle.walks.specs.Walk.{title_of, count_behind, count_after}
use Rattle.walks.specs.WalkLaws.{walk_opening, walk_begins, walk_closing}
use Rattle.notes.specs.Note.{Level, Levels, outermost, inward}
use Rattle.notes.specs.NoteLaws.{level_next}

-- ---- an opening

module _ {book b p : Bytes} {at : Place} {upto next : ℕ} (s : signed 43 b ≡ true) (t : title_of b ≡ p) (cut : lines (drop upto book) ≡ b ∷ lines (drop next book)) (l : upto ≤ next) where
  opens : {q inner from : ℕ} → (inner ≡ 0 → q ≡ current at.opened) → (inner ≢ 0 → q ≢ current at.opened) → Level book at q inner from upto
      → Level book (opening p at) q (suc inner) from next
  opens here elsewhere h = level_next cut l (λ pieces k. walk_opening b s t here elsewhere k) h

  -- the open paragraphs os, `inner` others being inside them
  around : {w : List ℕ} {os : List Opened} {inner : ℕ} → Nested at.paragraphs os → current os ≤ current at.opened → (inner ≡ 0 → current os ≡ current at.opened)
      → (inner ≢ 0 → current os < current at.opened) → Levels book at w upto os inner → Levels book (opening p at) w next os (suc inner)
  unfolding current
  around none_open m here elsewhere (outermost h) = outermost (opens here (λ n e. omega (arith, elsewhere n, e)) h)
  around (next_open i j r) m here elsewhere (inward n h k) =
      inward n (opens here (λ n e. omega (arith, elsewhere n, e)) h) (around r (omega arith) (λ z. absurd (omega arith)) (λ z. omega arith) k)

  pub levels_opening : {w : List ℕ} → RightPlace at → Levels book at w upto at.opened 0 → Levels book (opening p at) w next at.opened 1
  levels_opening r h = around r.nested (omega arith) (λ z. refl) (λ n. absurd (n refl)) h

-- inside the new paragraph
pub level_new : (book p : Bytes) {at : Place} (next : ℕ) → RightPlace at → Level book (opening p at) (suc (length at.paragraphs)) 0 next next
level_new book p {at} next r =
    record {
      pieces = [];
      inside = omega arith;
      passed = refl;
      walk = walk_begins at p (λ x m. omega (arith, r.inside x m, (numbered_within r.numbered m).1)) (current_within r.numbered r.nested);
    }

-- ---- a closing

module _ {book b : Bytes} {at : Place} {w : List ℕ} {upto next : ℕ} (left : List Opened) (s : signed 43 b ≡ false) (t : signed 45 b ≡ true) (cut : lines (drop upto book) ≡ b ∷ lines (drop next book)) (l : upto ≤ next) where
  closes : {os : List Opened} {inner : ℕ} → Levels book at w upto os (suc inner) → Levels book (closed_to at left) w next os inner
  closes (outermost h) = outermost (level_next cut l (λ pieces k. walk_closing b left s t k) h)
  closes (inward n h r) = inward n (level_next cut l (λ pieces k. walk_closing b left s t k) h) (closes r)

  pub levels_closing : {o : Opened} {os : List Opened} → Levels book at w upto (o ∷ os) 0 → Levels book (closed_to at left) w next os 0
  levels_closing (inward n h r) = closes r

-- ---- how many paragraphs there are

lines_few : (s : Bytes) → length (lines s) ≤ length s
unfolding lines onto
lines_few [] = omega arith
lines_few (b ∷ s) = at (eqb b 10) (lines_few s)
  where
    onto_few : (ls : List Bytes) → length (onto b ls) ≤ suc (length ls)
    onto_few [] = omega arith
    onto_few (l ∷ ls) = omega arith

    at : (t : Bool) → length (lines s) ≤ length s → length {A = Bytes} (elim t [ true ↦ (10 ∷ []) ∷ lines s | false ↦ onto b (lines s) ]) ≤ suc (length s)
    at true h = omega arith
    at false h = omega (arith, onto_few (lines s))

count_few : (n : ℕ) (bs : List Bytes) → count_after n bs ≤ n + length bs
unfolding count_after count_behind
count_few n [] = omega arith
count_few n (b ∷ bs) = omega (arith, count_few (count_behind b n) bs, behind (signed 43 b) refl)
  where
    behind : (t : Bool) → signed 43 b ≡ t → count_behind b n ≤ suc n
    behind true e = rw (e, count_behind) (omega arith)
    behind false e = rw (e, count_behind) (omega arith)

pub paragraphs_few : {book : Bytes} {at : Place} {w : List ℕ} {upto inner : ℕ} {os : List Opened} → Levels book at w upto os inner → length at.paragraphs ≤ length book
paragraphs_few {book} {upto = upto} (outermost h) =
    omega (arith, h.walk.count, count_few 0 h.pieces, ap length h.passed, length-append h.pieces (lines (drop upto book)), lines_few book)
paragraphs_few (inward n h r) = paragraphs_few r
