-- Laws: lines collected behind others.
use Rattle.std.specs.Prelude.{◌≡◌, refl, ◌⊎◌, ◌≢◌, Bool, true, false, ℕ, suc, ◌+◌, ◌-◌, ◌/◌, ◌%◌, ◌≤◌, ◌<◌, length, take, drop, set}
use Rattle.std.proofs.Common.{sym, ap, ◌∙◌, inl, inr, add-zero, arith, length-take-le, length-set, length-append, drop-set-lt, get_or-take, get_or-drop, get_or-set_same, get_or-set_other}
use mathlib.Core.List.{List, [], ◌∷◌, ◌++◌, append_assoc, append-nil}
use Rattle.std.proofs.Math.Decide.{ℕ_discrete}
use Rattle.std.proofs.Math.ListN.{get_or, replicate, length-drop, length-replicate, get_or-append, get_or-replicate}
use Rattle.std.proofs.Math.Seq.{slice, slice_empty, take-set-lt, get_or-append-add}
use Rattle.std.proofs.lemmas.Slice.{take-put_mid_below}
use borrow.Rule.Slice.PartMut.{put_mid}
use Rattle.std.proofs.lemmas.List.{take-set-le}
use Rattle.aut68.specs.Sizes.{cell_factor}
use Rattle.aut68.specs.Rules.Names.{Member, here}
use Rattle.lookup.specs.Lists.{member_left, member_right, member_snoc}
use Rattle.cells.specs.Numbers.{names_line, numbers_in, numbers_append}
use Rattle.cells.specs.Slices.{slice_snoc, slice_inside, slice_set}
use Rattle.entries.specs.Collected.{slot_count, no_line, Collected, Spared, Emptied, Adds}

-- ---- parts of a store

-- no cell
slice_none : (w : List ℕ) (a : ℕ) → slice a (a + 0) w ≡ []
slice_none w a = ap (λ (m : ℕ). slice a m w) (add-zero a) ∙ slice_empty a w

-- ---- what is spared

pub spared_same : {w : List ℕ} {at end slots : ℕ} → Spared w w at end slots
spared_same = record { long = refl; ahead = refl; between = refl }

pub spared_then : {w w' w'' : List ℕ} {at end slots : ℕ} → Spared w w' at end slots → Spared w' w'' at end slots → Spared w w'' at end slots
spared_then p q = record { long = q.long ∙ p.long; ahead = q.ahead ∙ p.ahead; between = q.between ∙ p.between }

module _ (w : List ℕ) (at end slots i x : ℕ) where
  -- a store in the slots, and one ahead of `end`
  pub spared_slot : at ≤ slots → Spared w (set w (slots + i) x) at end slots
  spared_slot l = record {
    long = length-set w (slots + i) x;
    ahead = take-set-le at w (slots + i) x (omega arith);
    between = ap (drop end) (take-set-le slots w (slots + i) x (omega arith));
  }

  spared_put : at ≤ i → i < end → i < slots → Spared w (set w i x) at end slots
  spared_put l h k = record {
    long = length-set w i x;
    ahead = take-set-le at w i x l;
    between = ap (drop end) (take-set-lt slots w i x k) ∙ drop-set-lt end (take slots w) i x h;
  }

-- runs and cells in what is spared
pub spared_run : {w w' : List ℕ} {at end slots : ℕ} (f n : ℕ) → end ≤ f → f + n ≤ slots → Spared w w' at end slots
    → slice f (f + n) w' ≡ slice f (f + n) w
spared_run {w} {w'} {end = end} {slots} f n h k s =
    slice_inside w w' end slots f (f + n) s.between h (omega arith) k

spared_read : {w w' : List ℕ} {at end slots : ℕ} (i : ℕ) → end ≤ i → i < slots → Spared w w' at end slots → get_or w' i 0 ≡ get_or w i 0
spared_read {w} {w'} {end = end} {slots} i h k s =
    sym (read w') ∙ ap (λ (l : List ℕ). get_or l (i - end) 0) s.between ∙ read w
  where
    read : (l : List ℕ) → get_or (slice end slots l) (i - end) 0 ≡ get_or l i 0
    read l =
        let e : end + (i - end) ≡ i = omega arith in
        get_or-drop end (take slots l) (i - end) 0 ∙ ap (λ (m : ℕ). get_or (take slots l) m 0) e ∙ get_or-take slots l i 0 k

-- ---- no line is collected

-- a turn of the loop that empties the slots, and its end
pub emptied_turn : (w : List ℕ) (slots i x : ℕ) → ((k : ℕ) → k < i → get_or w (slots + k) 0 ≡ x) → slots + i < length w
    → (k : ℕ) → k < i + 1 → get_or (set w (slots + i) x) (slots + k) 0 ≡ x
emptied_turn w slots i x h l k b = at (ℕ_discrete k i)
  where
    at : Dec (k ≡ i) → get_or (set w (slots + i) x) (slots + k) 0 ≡ x
    at (yes e) = ap (λ (m : ℕ). get_or (set w (slots + i) x) (slots + m) 0) e ∙ get_or-set_same w (slots + i) x 0 l
    at (no d) = get_or-set_other w (slots + i) (slots + k) x 0 (λ e. d (omega arith)) ∙ h k (omega arith)

pub emptied : {w w' : List ℕ} {slots : ℕ} → ((at end : ℕ) → at ≤ slots → Spared w w' at end slots)
    → ((k : ℕ) → k < slot_count → get_or w' (slots + k) 0 ≡ no_line) → Emptied w w' slots
emptied {w' = w'} s h = record {
  spared = s;
  none = λ at. record { same = λ v. rw (slice_none w' at) (λ m. m, λ m. m); slotted = λ k l d. absurd (d (h k l)) };
}

-- the slots filled at once
pub emptied_part : (w : List ℕ) (slots : ℕ) {xs : List ℕ} → slots + slot_count ≤ length w → xs ≡ replicate (slots + slot_count - slots) no_line
    → Emptied w (put_mid slots (slots + slot_count - slots) w xs) slots
emptied_part w slots {xs} h e = emptied (λ at end l. record { long = long; ahead = below at l; between = ap (drop end) (below slots (omega arith)) }) each
  where
    rest : List ℕ
    rest = drop (slots + slot_count - slots) (drop slots w)

    front : length (take slots w) ≡ slots
    front = length-take-le slots w (omega arith)

    filled : length xs ≡ slot_count
    filled = ap length e ∙ length-replicate (slots + slot_count - slots) no_line ∙ omega arith

    long : length (take slots w ++ (xs ++ rest)) ≡ length w
    long = omega (arith, length-append (take slots w) (xs ++ rest), length-append xs rest, length-drop (slots + slot_count - slots) (drop slots w), length-drop slots w, front, filled)

    below : (n : ℕ) → n ≤ slots → take n (take slots w ++ (xs ++ rest)) ≡ take n w
    below n l = take-put_mid_below slots (slots + slot_count - slots) w xs n l (omega arith)

    each : (k : ℕ) → k < slot_count → get_or (take slots w ++ (xs ++ rest)) (slots + k) 0 ≡ no_line
    each k l =
        ap (λ (n : ℕ). get_or (take slots w ++ (xs ++ rest)) (n + k) 0) (sym front)
        ∙ get_or-append-add (take slots w) (xs ++ rest) k 0
        ∙ get_or-append xs rest 0 k (omega (arith, filled))
        ∙ ap (λ (ys : List ℕ). get_or ys k 0) e
        ∙ get_or-replicate (slots + slot_count - slots) k no_line 0 (omega arith)

-- ---- lines collected one after the other

pub adds_none : {w : List ℕ} {at n slots : ℕ} → Adds w w at n slots [] n
adds_none = record { more = omega arith; few = omega arith; spared = λ end l. spared_same; adds = λ {us} c. rw (append-nil us) c }

adds_then : {w w' w'' : List ℕ} {at n m r slots : ℕ} {us vs : List ℕ} → Adds w w' at n slots us m → Adds w' w'' at m slots vs r
    → Adds w w'' at n slots (us ++ vs) r
adds_then {us = us} {vs} p q = record {
  more = omega arith;
  few = omega (arith, length-append us vs);
  spared = λ end l. spared_then (p.spared end (omega arith)) (q.spared end l);
  adds = λ c. rw append_assoc at (q.adds (p.adds c));
}

module _ (w : List ℕ) (at n v slots : ℕ) where
  -- the line's slot has it
  pub adds_had : v ≢ no_line → get_or w (slots + v % slot_count) 0 ≡ v → Adds w w at n slots (v ∷ []) n
  adds_had real e = record {
    more = omega arith;
    few = omega arith;
    spared = λ end h. spared_same;
    adds = λ {us} c. record {
      same = λ u. (λ m. member_left (v ∷ []) ((c.same u).0 m), λ m. (c.same u).1 (had c (member_snoc us m)));
      slotted = λ j h d. member_left (v ∷ []) (c.slotted j h d);
    };
  }
    where
      had : {us : List ℕ} {u : ℕ} → Collected w at n slots us → Member u us ⊎ (u ≡ v) → Member u us
      had c (inl m) = m
      had c (inr q) = rw (q ∙ sym e) (c.slotted (v % slot_count) (omega arith) (λ z. real (sym e ∙ z)))

  -- it is put into its slot, and behind the lines
  pub adds_put : at + n < slots → slots + slot_count ≤ length w → Adds w (set (set w (slots + v % slot_count) v) (at + n) v) at n slots (v ∷ []) (n + 1)
  adds_put h room = record {
    more = omega arith;
    few = omega arith;
    spared = λ end b.
        spared_then (spared_slot w at end slots (v % slot_count) v (omega arith))
        (spared_put w₁ at end slots (at + n) v (omega arith) (omega arith) h);
    adds = λ {us} c. record {
      same = λ u. rw longer (λ m. or_last (c.same u).0 (member_snoc _ m), λ m. or_last (c.same u).1 (member_snoc us m));
      slotted = λ j b d. slot c j b d (ℕ_discrete j (v % slot_count));
    };
  }
    where
      w₁ : List ℕ
      w₁ = set w (slots + v % slot_count) v

      w₂ : List ℕ
      w₂ = set w₁ (at + n) v

      longer : slice at (at + (n + 1)) w₂ ≡ slice at (at + n) w ++ (v ∷ [])
      longer =
          let l₁ : at + n < length w₁ = omega (arith, length-set w (slots + v % slot_count) v) in
          slice_set at n v w₁ l₁ ∙ ap (λ (l : List ℕ). drop at l ++ (v ∷ [])) (take-set-le (at + n) w (slots + v % slot_count) v (omega arith))

      or_last : {xs ys : List ℕ} {u : ℕ} → (Member u xs → Member u ys) → Member u xs ⊎ (u ≡ v) → Member u (ys ++ (v ∷ []))
      or_last f (inl m) = member_left (v ∷ []) (f m)
      or_last {ys = ys} f (inr e) = rw e (member_right ys here)

      slot : {us : List ℕ} → Collected w at n slots us → (j : ℕ) → j < slot_count → get_or w₂ (slots + j) 0 ≢ no_line → Dec (j ≡ v % slot_count)
          → Member (get_or w₂ (slots + j) 0) (us ++ (v ∷ []))
      slot {us} c j b d t = go t
        where
          same : get_or w₂ (slots + j) 0 ≡ get_or w₁ (slots + j) 0
          same = get_or-set_other w₁ (at + n) (slots + j) v 0 (λ e. omega arith)

          go : Dec (j ≡ v % slot_count) → Member (get_or w₂ (slots + j) 0) (us ++ (v ∷ []))
          go (yes e) =
              let q : get_or w₁ (slots + j) 0 ≡ v = ap (λ (m : ℕ). get_or w₁ (slots + m) 0) e ∙ get_or-set_same w (slots + v % slot_count) v 0 (omega arith) in
              rw (same ∙ q) (member_right us here)
          go (no f) =
              let q : get_or w₂ (slots + j) 0 ≡ get_or w (slots + j) 0 = same ∙ get_or-set_other w (slots + v % slot_count) (slots + j) v 0 (λ e. f (omega arith)) in
              rw q (member_left (v ∷ []) (c.slotted j b (λ z. d (q ∙ z))))

-- ---- the lines that cells name

pub numbers_few : (xs : List ℕ) → length (numbers_in xs) ≤ length xs
unfolding numbers_in
numbers_few [] = omega arith
numbers_few (x ∷ xs) = at (names_line x) (numbers_few xs)
  where
    at : (t : Bool) → length (numbers_in xs) ≤ length xs
        → length {A = ℕ} (elim t as (λ _. List ℕ) [ true ↦ (x / cell_factor) ∷ numbers_in xs | false ↦ numbers_in xs ]) ≤ suc (length xs)
    at true h = omega arith
    at false h = omega arith

-- where the loop that collects begins
pub adds_start : {w : List ℕ} {at n slots : ℕ} (from : ℕ) → Adds w w at n slots (numbers_in (slice from (from + 0) w)) n
unfolding numbers_in
adds_start {w} from = rw (slice_none w from) adds_none

module _ (w : List ℕ) (from i : ℕ) (inside : from + i < length w) where
  -- one cell more
  numbers_next : numbers_in (slice from (from + (i + 1)) w) ≡ numbers_in (slice from (from + i) w) ++ numbers_in (get_or w (from + i) 0 ∷ [])
  numbers_next =
      ap numbers_in (slice_snoc from i w inside) ∙ numbers_append (slice from (from + i) w) (get_or w (from + i) 0 ∷ [])

  module _ {w' : List ℕ} {at n count slots : ℕ} (before : Adds w w' at n slots (numbers_in (slice from (from + i) w)) count)
      (behind : at + count ≤ from + i) (below : from + i < slots) where
    read_before : get_or w' (from + i) 0 ≡ get_or w (from + i) 0
    read_before = spared_read (from + i) behind below (before.spared (at + count) (omega arith))

    -- a turn of the loop that collects, at a cell that names a line and at another
    pub adds_turn : {w'' : List ℕ} {r : ℕ} → true ≡ names_line (get_or w' (from + i) 0) → Adds w' w'' at count slots (get_or w' (from + i) 0 / cell_factor ∷ []) r
        → Adds w w'' at n slots (numbers_in (slice from (from + (i + 1)) w)) r
    unfolding numbers_in
    adds_turn t a =
        let e : numbers_in (get_or w (from + i) 0 ∷ []) ≡ get_or w (from + i) 0 / cell_factor ∷ [] = rw (sym (rw read_before at t), numbers_in) in
        rw (numbers_next, e) (adds_then before (rw read_before at a))

    pub adds_same : false ≡ names_line (get_or w' (from + i) 0) → Adds w w' at n slots (numbers_in (slice from (from + (i + 1)) w)) count
    unfolding numbers_in
    adds_same t =
        let e : numbers_in (get_or w (from + i) 0 ∷ []) ≡ [] = rw (sym (rw read_before at t), numbers_in) in
        rw (numbers_next, e) (adds_then before adds_none)
