-- Laws of the note, for those who keep it and those who read it.
use Rattle.std.specs.Prelude.{◌≡◌, refl, Bool, true, false, List, [], ◌∷◌, ◌++◌, ℕ, suc, ◌+◌, ◌*◌, ◌-◌, ◌/◌, ◌%◌, ◌≤◌, ◌<◌, leb, length, get_or, take, drop, set}
use Rattle.std.proofs.Common.{sym, ◌∙◌, append_assoc, mod-lt, arith, length-set, get_or-set_other, leb-true, leb-false}
use Rattle.std.proofs.Math.Path.{ap, subst}
use Rattle.aut68.specs.Sizes.{smallest_limit, open_limit}
use Rattle.aut68.specs.Bytes.{Bytes, lines}
use Rattle.aut68.specs.Lines.{Line, part_of}
use Rattle.aut68.specs.Paragraphs.{Opened, Paragraph, Place, State, outside, start, with_line, current}
use Rattle.aut68.specs.Procedure.Parse.{signed}
use Rattle.cells.specs.Layout.{names_at, reader_units}
use Rattle.lookup.specs.Identifiers.{Distinct}
use Rattle.lookup.specs.Lists.{no_member}
use Rattle.lookup.specs.Places.{NumberedFrom, RightPlace, numbered_within, place_start}
use Rattle.lookup.specs.DerivedBooks.{distinct_start}
use Rattle.names.specs.Chains.{Chains, chains_none, chains_same}
use Rattle.names.specs.Hints.{hash_of, key_at, Hinted}
use Rattle.names.specs.HintLaws.{slots_half, no_line_hinted, cell_same, hinted_same}
use Rattle.walks.specs.Walk.{WalkIs}
use Rattle.walks.specs.WalkLaws.{walk_ordinary, walk_start}
use Rattle.notes.specs.Note.{depth_cell, count_cell, upto_cell, numbers, froms, number_cell, from_cell, capacity, head_cell, titles, arounds, title_cell, around_cell, place_factor, chain_factor, title_at, around_at, next_at, chain_of, entry_chain, noted, EntriesNoted, Level, Levels, outermost, inward, PlaceNoted, StateNoted, StandsAt, note_end}
use Rattle.notes.specs.Posts.{OfLevel}

-- ---- numbers

-- the note ends ahead of the lines that a line names
pub note_fits : (limit : ℕ) → smallest_limit ≤ limit → note_end (reader_units * limit) ≤ names_at limit
note_fits limit l = omega arith

pub noted_most : (n count : ℕ) → noted n count ≤ capacity n
unfolding noted
noted_most n count = split (leb count (capacity n)) refl
  where
    split : (t : Bool) → leb count (capacity n) ≡ t → elim t as (λ _. ℕ) [ true ↦ count | false ↦ capacity n ] ≤ capacity n
    split true e = leb-true count (capacity n) e
    split false e = omega arith

pub noted_count : (n count : ℕ) → noted n count ≤ count
unfolding noted
noted_count n count = split (leb count (capacity n)) refl
  where
    split : (t : Bool) → leb count (capacity n) ≡ t → elim t as (λ _. ℕ) [ true ↦ count | false ↦ capacity n ] ≤ count
    split true e = omega arith
    split false e = omega (arith, leb-false count (capacity n) e)

-- every paragraph with a number up to the capacity has an entry
pub noted_all : (n count k : ℕ) → k ≤ count → k ≤ capacity n → k ≤ noted n count
unfolding noted
noted_all n count k a b = split (leb count (capacity n))
  where
    split : (t : Bool) → k ≤ elim t as (λ _. ℕ) [ true ↦ count | false ↦ capacity n ]
    split true = a
    split false = b

pub chain_below : (n h q : ℕ) → chain_of n h q ≤ capacity n
unfolding chain_of
chain_below n h q = omega (arith, mod-lt (key_at h q) {m = capacity n + 1} (omega arith))

-- ---- the same note

-- what is noted of the open paragraphs is as it was
pub levels_kept : {w w' : List ℕ} → length w' ≡ length w → {book : Bytes} {at : Place} {upto inner : ℕ} {os : List Opened}
    → ((i : ℕ) → i < length os → get_or w' (number_cell (length w) i) 0 ≡ get_or w (number_cell (length w) i) 0)
    → ((i : ℕ) → i < length os → get_or w' (from_cell (length w) i) 0 ≡ get_or w (from_cell (length w) i) 0)
    → Levels book at w upto os inner → Levels book at w' upto os inner
levels_kept e f g (outermost h) = outermost h
levels_kept {w} {w'} e {book} {at} {upto} {inner} f g (inward {o} {os} i h r) =
    inward (ap (λ (n : ℕ). get_or w' (number_cell n (length os)) 0) e ∙ f (length os) (omega arith) ∙ i)
    (subst (λ (from : ℕ). Level book at o.number inner from upto) (sym (ap (λ (n : ℕ). get_or w' (from_cell n (length os)) 0) e ∙ g (length os) (omega arith))) h)
    (levels_kept e (λ k l. f k (omega arith)) (λ k l. g k (omega arith)) r)

-- the note of w is that of w', from its cell `from` on
pub record SameNote (from : ℕ) (w w' : List ℕ) : Type 0 where
  pub long : length w' ≡ length w
  pub same : (i : ℕ) → length w / 2 + from ≤ i → i < note_end (length w) → get_or w' i 0 ≡ get_or w i 0

-- the cells up to n are as they were
pub note_kept : {w w' : List ℕ} (n : ℕ) → note_end (length w) ≤ n → length w' ≡ length w → take n w' ≡ take n w → SameNote 1 w w'
note_kept {w} {w'} n l e t = record { long = e; same = λ i a b. cell_same w w' n i t (omega arith) }

-- a cell among the slots is another
pub note_beside : {w w' : List ℕ} (i v : ℕ) → i ≤ length w / 2 → w' ≡ set w i v → SameNote 1 w w'
note_beside {w} i v l e =
    record { long = ap length e ∙ length-set w i v; same = λ j a b. ap (λ (x : List ℕ). get_or x j 0) e ∙ get_or-set_other w i j v 0 (λ q. omega arith) }

module _ {from : ℕ} {w w' : List ℕ} (s : SameNote from w w') where
  -- a cell of the note, as the length of the store says
  same_at : (f : ℕ → ℕ) → length w / 2 + from ≤ f (length w) → f (length w) < note_end (length w) → get_or w' (f (length w')) 0 ≡ get_or w (f (length w)) 0
  same_at f a b = ap (λ (n : ℕ). get_or w' (f n) 0) s.long ∙ s.same (f (length w)) a b

  module _ (book : Bytes) (k : ℕ) (a : from ≤ titles + 2 * k) (b : k ≤ capacity (length w)) where
    title_same : title_at book w' k ≡ title_at book w k
    unfolding title_at
    title_same = ap (λ (c : ℕ). part_of book (c % place_factor) (c / place_factor)) (same_at (λ (n : ℕ). title_cell n k) (omega arith) (omega arith))

    around_same : around_at w' k ≡ around_at w k
    unfolding around_at
    around_same = ap (λ (c : ℕ). c % chain_factor) (same_at (λ (n : ℕ). around_cell n k) (omega arith) (omega arith))

    next_same : next_at w' k ≡ next_at w k
    unfolding next_at
    next_same = ap (λ (c : ℕ). c / chain_factor) (same_at (λ (n : ℕ). around_cell n k) (omega arith) (omega arith))

    chain_same : entry_chain book w' k ≡ entry_chain book w k
    chain_same = λ i. chain_of (s.long i) (hash_of (title_same i)) (around_same i)

  -- the entries, where their cells are as they were
  pub entries_same : from ≤ arounds → {book : Bytes} {ps : List Paragraph} → NumberedFrom 0 ps → EntriesNoted book ps w → EntriesNoted book ps w'
  entries_same low {book} {ps} n h =
      record {
        each = λ x m l.
            (let b : x.number ≤ capacity (length w) = subst (λ (n : ℕ). x.number ≤ capacity n) s.long l in
            let a : from ≤ titles + 2 * x.number = omega (arith, (numbered_within n m).0) in
            record { title_is = title_same book x.number a b ∙ (h.each x m b).title_is; around_is = around_same book x.number a b ∙ (h.each x m b).around_is });
        chains = subst (λ (n : ℕ). Chains (entry_chain book w') (next_at w') (λ (i : ℕ). get_or w' (head_cell n i) 0) (capacity n) (noted n (length ps))) (sym s.long)
            (chains_same (λ v. chain_below (length w) _ _) (λ v a b. chain_same book v (omega arith) (omega (arith, noted_most (length w) (length ps))))
            (λ v a b. next_same book v (omega arith) (omega (arith, noted_most (length w) (length ps)))) h.chains (λ i l. s.same (head_cell (length w) i) (omega arith) (omega arith)));
      }

module _ {w w' : List ℕ} (s : SameNote 1 w w') where
  pub levels_same : {book : Bytes} {at : Place} {upto inner : ℕ} {os : List Opened} → length os ≤ open_limit → Levels book at w upto os inner → Levels book at w' upto os inner
  levels_same l = levels_kept s.long (λ i b. s.same _ (omega arith) (omega arith)) (λ i b. s.same _ (omega arith) (omega arith))

  pub place_noted_same : {book : Bytes} {at : Place} → RightPlace at → PlaceNoted book at w → PlaceNoted book at w'
  place_noted_same {book} {at} r h =
      record {
        depth_is = same_at s depth_cell (omega arith) (omega arith) ∙ h.depth_is;
        count_is = same_at s count_cell (omega arith) (omega arith) ∙ h.count_is;
        few = h.few;
        within = subst (λ (n : ℕ). n ≤ length book) (sym upto) h.within;
        levels = subst (λ (n : ℕ). Levels book at w' n at.opened 0) (sym upto) (levels_same h.few h.levels);
        entries = entries_same s (omega arith) r.numbered h.entries;
      }
    where
      upto : get_or w' (upto_cell (length w')) 0 ≡ get_or w (upto_cell (length w)) 0
      upto = same_at s upto_cell (omega arith) (omega arith)

  -- the lines may have changed
  pub state_noted_more : {st : State} {book tb tb' : List ℕ} {lines lines' : ℕ} (l : Line) → Hinted book tb' lines' w' → Distinct (with_line st l) → StateNoted st book tb lines w
      → StateNoted (with_line st l) book tb' lines' w'
  state_noted_more l H d h = record { hinted = H; place = place_noted_same h.right h.place; right = h.right; distinct = d }

-- ---- all cells up to the note's end as they were

module _ {w w' : List ℕ} (n : ℕ) (l : note_end (length w) ≤ n) (e : length w' ≡ length w) (t : take n w' ≡ take n w) where
  pub state_noted_same : {st : State} {book tb : List ℕ} {lines : ℕ} → StateNoted st book tb lines w → StateNoted st book tb lines w'
  state_noted_same h =
      record { hinted = hinted_same n (omega (arith, slots_half (length w))) e t h.hinted; place = place_noted_same (note_kept n l e t) h.right h.place; right = h.right; distinct = h.distinct }

  pub stands_same : {st : State} {book tb : List ℕ} {lines at : ℕ} → StandsAt st book tb lines w at → StandsAt st book tb lines w' at
  stands_same h = record { noted = state_noted_same h.noted; walks = levels_same (note_kept n l e t) h.noted.place.few h.walks }

-- ---- a piece further

-- a walk over one piece more
pub level_next : {book b : Bytes} {at at' : Place} {q inner inner' from upto next : ℕ} → lines (drop upto book) ≡ b ∷ lines (drop next book) → upto ≤ next
    → ((pieces : List Bytes) → WalkIs at q inner pieces → WalkIs at' q inner' (pieces ++ (b ∷ []))) → Level book at q inner from upto → Level book at' q inner' from next
level_next {book} {b} {next = next} e l f h =
    record {
      pieces = h.pieces ++ (b ∷ []);
      inside = omega (arith, h.inside);
      passed = h.passed ∙ (ap (λ (x : List Bytes). h.pieces ++ x) e ∙ sym (append_assoc h.pieces (b ∷ []) (lines (drop next book))));
      walk = f h.pieces h.walk;
    }

-- an ordinary line
pub levels_ordinary : {book b : Bytes} {at : Place} {w : List ℕ} {upto next inner : ℕ} {os : List Opened} → signed 43 b ≡ false → signed 45 b ≡ false
    → lines (drop upto book) ≡ b ∷ lines (drop next book) → upto ≤ next → Levels book at w upto os inner → Levels book at w next os inner
levels_ordinary {b = b} s t e l (outermost h) = outermost (level_next e l (λ ps k. walk_ordinary b s t k) h)
levels_ordinary {b = b} s t e l (inward n h r) = inward n (level_next e l (λ ps k. walk_ordinary b s t k) h) (levels_ordinary s t e l r)

-- ---- at first

-- all cells up to the note's end are 0
pub noted_start : (book tb w : List ℕ) → ((i : ℕ) → i < note_end (length w) → get_or w i 0 ≡ 0) → StandsAt start book tb 0 w 0
unfolding start outside
noted_start book tb w z =
    record {
      noted = record {
        hinted = no_line_hinted book tb w (λ i l. z i (omega (arith, slots_half (length w))));
        place = record {
          depth_is = z (depth_cell (length w)) (omega arith);
          count_is = z (count_cell (length w)) (omega arith);
          few = omega arith;
          within = omega (arith, upto);
          levels = subst (λ (n : ℕ). Levels book outside w n [] 0) (sym upto) begun;
          entries = record {
            each = λ x m l. absurd (no_member m);
            chains = subst (Chains (entry_chain book w) (next_at w) (λ (i : ℕ). get_or w (head_cell (length w) i) 0) (capacity (length w))) none_noted (chains_none (λ i l. z (head_cell (length w) i) (omega arith)));
          };
        };
        right = place_start;
        distinct = distinct_start;
      };
      walks = begun;
    }
  where
    upto : get_or w (upto_cell (length w)) 0 ≡ 0
    upto = z (upto_cell (length w)) (omega arith)

    none_noted : 0 ≡ noted (length w) 0
    none_noted = omega (arith, noted_count (length w) 0)

    begun : Levels book outside w 0 [] 0
    begun = outermost (record { pieces = []; inside = omega arith; passed = refl; walk = walk_start })

-- ---- from the innermost open paragraph outward

-- os are the i outer ones of the open paragraphs
pub record Outer (book : Bytes) (at : Place) (w : List ℕ) (i : ℕ) (os : List Opened) : Type 0 where
  pub count : length os ≡ i
  pub few : i ≤ open_limit
  pub inner : ℕ
  pub levels : Levels book at w (get_or w (upto_cell (length w)) 0) os inner

module _ {book : Bytes} {at : Place} {w : List ℕ} where
  pub outer_all : PlaceNoted book at w → {i : ℕ} → i ≡ get_or w (depth_cell (length w)) 0 → Outer book at w i at.opened
  outer_all h e = record { count = sym (e ∙ h.depth_is); few = omega (arith, e, h.depth_is, h.few); inner = 0; levels = h.levels }

  -- outside all
  pub outer_none : {i : ℕ} {os : List Opened} → i ≡ 0 → Outer book at w i os → os ≡ []
  outer_none {os = []} z h = refl
  outer_none {os = o ∷ os} z h = absurd (omega (arith, h.count))

  -- of the innermost of them: its number, and its level
  module _ {o : Opened} {os : List Opened} {upto inner j : ℕ} (e : j ≡ length os) where
    number_noted : Levels book at w upto (o ∷ os) inner → get_or w (number_cell (length w) j) 0 ≡ o.number
    number_noted (inward n h r) = ap (λ (k : ℕ). get_or w (number_cell (length w) k) 0) e ∙ n

    level_noted : Levels book at w upto (o ∷ os) inner → Level book at o.number inner (get_or w (from_cell (length w) j) 0) upto
    level_noted (inward n h r) = subst (λ (k : ℕ). Level book at o.number inner (get_or w (from_cell (length w) k) 0) upto) (sym e) h

    levels_around : Levels book at w upto (o ∷ os) inner → Levels book at w upto os (suc inner)
    levels_around (inward n h r) = r

  outer_level : {upto inner : ℕ} → Levels book at w upto [] inner → Level book at 0 inner 0 upto
  outer_level (outermost h) = h

  pub level_number : {i r : ℕ} {os : List Opened} → Outer book at w i os → OfLevel numbers w i r → r ≡ current os
  unfolding current
  level_number {os = []} h l = l.outside (sym h.count)
  level_number {os = o ∷ os} h l = l.is (omega (arith, h.count)) h.few ∙ number_noted (omega (arith, h.count)) h.levels

  pub level_from : {i from : ℕ} {os : List Opened} → (h : Outer book at w i os) → OfLevel froms w i from → Level book at (current os) h.inner from (get_or w (upto_cell (length w)) 0)
  unfolding current
  level_from {os = []} h l = subst (λ (k : ℕ). Level book at 0 h.inner k (get_or w (upto_cell (length w)) 0)) (sym (l.outside (sym h.count))) (outer_level h.levels)
  level_from {i} {os = o ∷ os} h l =
      subst (λ (k : ℕ). Level book at o.number h.inner k (get_or w (upto_cell (length w)) 0)) (sym (l.is (omega (arith, h.count)) h.few))
      (level_noted (omega (arith, h.count)) h.levels)

  -- one outward
  pub outer_next : {i : ℕ} {o : Opened} {os : List Opened} → Outer book at w i (o ∷ os) → Outer book at w (i - 1) os
  outer_next h = record { count = omega (arith, h.count); few = omega (arith, h.few); inner = suc h.inner; levels = levels_around {j = _} refl h.levels }
