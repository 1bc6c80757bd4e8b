-- Notes of the bindings around the expressions still to come, behind a cell.
use mathlib.Core.Path.{◌≡◌, refl, sym, ap, ◌∙◌, subst}
use mathlib.Core.Logic.{◌⊎◌, inl, inr, ⊎_elim}
use mathlib.Core.Bool.{Bool, true, false, true≢false}
use mathlib.Core.List.{List, [], ◌∷◌, ◌++◌}
use Prim.Native.Nat.{ℕ, zero, suc, min, ◌+◌, ◌-◌, ◌%◌, ◌≤◌, ◌<◌}
use native.Mathlib.Omega.{arith}
use lib.Dec.{eqb, ltb}
use lib.ListN.{length, get_or, set, replicate, length-append, length-set, get_or-replicate, get_or-append}
use lib.Seq.{get_or-append-add, get_or-set_same, get_or-set_other}
use borrow.Author.Tests.{eqb-true, ltb-true, ltb-false, lt-ltb}
use Rattle.aut68.specs.Sizes.{cell_factor}
use Rattle.cells.specs.Cells.{parts_after}
use Rattle.strings.specs.Levels.{part_levels, levels_past, levels_at}
use Rattle.strings.specs.Notes.{numbers, Noted, Notes, Filled, NotesParts}
use Rattle.strings.proofs.ReadLaws.{levels_long, abstraction_parts}

under : (a b : ℕ) → (a < b) ⊎ (b ≤ a)
under a b = of (ltb a b) refl
  where
    of : (t : Bool) → ltb a b ≡ t → (a < b) ⊎ (b ≤ a)
    of true e = inl (ltb-true a b e)
    of false e = inr (ltb-false a b e)

noted_as : {v v' n n' : ℕ} → v' ≡ v → n' ≡ n → Noted v n → Noted v' n'
noted_as e f h i l = (λ a. omega (arith, e, f, (h i l).0 (omega (arith, e))), λ a. omega (arith, e, f, (h i l).1 (omega (arith, f))))

-- ---- one binding more

pub noted_more : {v n : ℕ} → Noted v n → Noted (v + 1) (suc n)
noted_more {v} {n} h zero l = (λ a. omega arith, λ a. omega arith)
noted_more {v} {n} h (suc i) l = (λ a. omega (arith, (h i (omega arith)).0 (omega arith)), λ a. omega (arith, (h i (omega arith)).1 (omega arith)))

-- one more, as far as a cell counts
pub noted_next : {v n r : ℕ} → r ≡ min (v + 1) 4294967295 → Noted v n → Noted r (suc n)
noted_next {v} {n} {r} e h =
    ⊎_elim
    (λ l. noted_as (omega arith) refl (noted_more h))
    (λ l i m. (λ a. omega (arith, (h i m).0 (omega arith)), λ a. omega arith))
    (under v 4294967295)

-- ---- behind a cell

-- the notes of some expressions to come
abbrev NotesOf : List ℕ → List ℕ → Type 0
NotesOf ks w = (t : ℕ) → t < length ks → t < length w → Noted (get_or w t 0) (get_or ks (length ks - 1 - t) 0)

module _ (tb : List ℕ) (x k : ℕ) (ks w w' : List ℕ) (h : NotesOf (k ∷ ks) w) (P : NotesParts w (length ks) (parts_after tb x) (eqb (x % cell_factor) 5) w') where
  abbrev parts : ℕ
  parts = parts_after tb x

  abbrev at : ℕ
  at = length ks

  long : length (part_levels tb k x ++ ks) ≡ parts + at
  long = length-append (part_levels tb k x) ks ∙ ap (λ (n : ℕ). n + length ks) (levels_long tb k x)

  -- those that stood before it
  before : (t : ℕ) → t < at → t < length w → Noted (get_or w' t 0) (get_or (part_levels tb k x ++ ks) (parts + at - 1 - t) 0)
  before t l m = noted_as (P.below t l) (level ∙ sym old) (h t (omega arith) m)
    where
      n : ℕ
      n = at - 1 - t

      e : parts + at - 1 - t ≡ length (part_levels tb k x) + n
      e = omega (arith, levels_long tb k x)

      level : get_or (part_levels tb k x ++ ks) (parts + at - 1 - t) 0 ≡ get_or ks n 0
      level = ap (λ (i : ℕ). get_or (part_levels tb k x ++ ks) i 0) e ∙ get_or-append-add (part_levels tb k x) ks n 0

      o : suc at - 1 - t ≡ suc n
      o = omega arith

      old : get_or (k ∷ ks) (suc at - 1 - t) 0 ≡ get_or ks n 0
      old = ap (λ (i : ℕ). get_or (k ∷ ks) i 0) o

  -- its own note
  own : at < length w → Noted (get_or w at 0) k
  own m = noted_as refl (sym (ap (λ (i : ℕ). get_or (k ∷ ks) i 0) o)) (h at (omega arith) m)
    where
      o : suc at - 1 - at ≡ 0
      o = omega arith

  -- those of its parts
  same : (t : ℕ) → at < t → t < parts + at → t < length w → Noted (get_or w' t 0) k
  same t a b c = noted_as (P.alike t a (omega arith) c) refl (own (omega arith))

  last : (t : ℕ) → t ≡ at → t < parts + at → t < length w → eqb (x % cell_factor) 5 ≡ false → Noted (get_or w' t 0) k
  last t q m r e = noted_as (ap (λ (i : ℕ). get_or w' i 0) q ∙ P.last e (omega arith) (omega arith)) refl (own (omega arith))

  body : (t : ℕ) → t ≡ at → t < length w → eqb (x % cell_factor) 5 ≡ true → Noted (get_or w' t 0) (suc k)
  body t q r e = noted_as (ap (λ (i : ℕ). get_or w' i 0) q) refl (P.body e (omega arith) k (own (omega arith)))

  part : (t j : ℕ) → at ≤ t → t < parts + at → t < length w → j ≡ parts + at - 1 - t → (b : Bool) → eqb (x % cell_factor) 5 ≡ b
      → Noted (get_or w' t 0) (get_or (elim b as (λ _. List ℕ) [ true ↦ k ∷ suc k ∷ [] | false ↦ replicate parts k ]) j 0)
  part t j l m r q false e =
      noted_as refl (get_or-replicate parts j k 0 (omega arith)) (⊎_elim (λ a. same t a m r) (λ g. last t (omega arith) m r e) (under at t))
  part t zero l m r q true e = same t (omega (arith, abstraction_parts tb x (eqb-true (x % cell_factor) 5 e))) m r
  part t (suc zero) l m r q true e = body t (omega (arith, abstraction_parts tb x (eqb-true (x % cell_factor) 5 e))) r e
  part t (suc (suc j)) l m r q true e = absurd (omega (arith, abstraction_parts tb x (eqb-true (x % cell_factor) 5 e)))

  behind : (t : ℕ) → at ≤ t → t < parts + at → t < length w → Noted (get_or w' t 0) (get_or (part_levels tb k x ++ ks) (parts + at - 1 - t) 0)
  unfolding part_levels
  behind t l m r =
      noted_as refl (get_or-append (part_levels tb k x) ks 0 (parts + at - 1 - t) (omega (arith, levels_long tb k x)))
      (part t (parts + at - 1 - t) l m r refl (eqb (x % cell_factor) 5) refl)

  notes_past : NotesOf (part_levels tb k x ++ ks) w'
  notes_past t l m =
      noted_as refl (ap (λ (n : ℕ). get_or (part_levels tb k x ++ ks) (n - 1 - t) 0) long)
      (⊎_elim (λ a. before t a (omega (arith, P.long))) (λ g. behind t g (omega (arith, long)) (omega (arith, P.long))) (under t at))

-- ---- in a string

-- at its start
pub notes_start : {tb s w w' : List ℕ} → Filled w 0 1 0 w' → Notes tb s 0 w'
unfolding levels_at
notes_start {w' = w'} F = record { at = of }
  where
    of : (t : ℕ) → t < 1 → t < length w' → Noted (get_or w' t 0) (get_or (0 ∷ []) (1 - 1 - t) 0)
    of zero l m = noted_as (F.inside 0 (omega arith) (omega arith) (omega (arith, F.long))) refl (λ i l. (λ a. a, λ a. a))
    of (suc t) l m = absurd (omega arith)

-- what the note of the next one says
pub noted_last : {tb s w : List ℕ} {i at n : ℕ} {answer : Bool} → Notes tb s i w → at + 1 ≡ length (levels_at tb s i) → at < length w → n < numbers → answer ≡ ltb n (get_or w at 0)
    → (answer ≡ true → n < get_or (levels_at tb s i) 0 0) × (n < get_or (levels_at tb s i) 0 0 → answer ≡ true)
noted_last {tb} {s} {w} {i} {at} {n} N e l m q =
    let h = noted_as refl (ap (λ (j : ℕ). get_or (levels_at tb s i) j 0) z) (N.at at (omega arith) l) n m in
    (λ t. h.0 (ltb-true n (get_or w at 0) (sym q ∙ t)), λ r. q ∙ lt-ltb n (get_or w at 0) (h.1 r))
  where
    z : 0 ≡ length (levels_at tb s i) - 1 - at
    z = omega arith

-- behind a cell
pub notes_next : (tb s : List ℕ) (i : ℕ) {w w' : List ℕ} {at parts : ℕ} → Notes tb s i w → at + 1 ≡ length (levels_at tb s i) → parts ≡ parts_after tb (get_or s i 0)
    → NotesParts w at parts (eqb (get_or s i 0 % cell_factor) 5) w' → Notes tb s (i + 1) w'
unfolding levels_at levels_past
notes_next tb s i {w} {w'} {at} {parts} N e q P = record { at = subst (λ n. NotesOf (levels_at tb s n) w') (next i) (of (levels_at tb s i) N.at e) }
  where
    next : (i : ℕ) → suc i ≡ i + 1
    next i = omega arith

    of : (ks : List ℕ) → NotesOf ks w → at + 1 ≡ length ks → NotesOf (levels_past tb (get_or s i 0) ks) w'
    of [] h z = absurd (omega arith)
    of (k ∷ ks) h z = notes_past tb (get_or s i 0) k ks w w' h (as_is (omega arith) q P)
      where
        as_is : {a b c d : ℕ} → a ≡ b → c ≡ d → NotesParts w a c (eqb (get_or s i 0 % cell_factor) 5) w' → NotesParts w b d (eqb (get_or s i 0 % cell_factor) 5) w'
        as_is f g p = rw (← f, ← g) p

-- ---- the notes of parts

-- no note there
pub parts_none : {w : List ℕ} {at parts : ℕ} {binds : Bool} → length w ≤ at → NotesParts w at parts binds w
parts_none l =
    record {
      long = refl;
      below = λ t a. refl;
      alike = λ t a b c. absurd (omega arith);
      last = λ b p a. refl;
      body = λ b a. absurd (omega arith);
    }

module _ {w w₁ : List ℕ} {at parts : ℕ} (l : at < length w) (F : Filled w at (at + parts) (get_or w at 0) w₁) where
  pub parts_alike : {binds : Bool} → binds ≡ false → NotesParts w at parts binds w₁
  parts_alike n =
      record {
        long = F.long;
        below = λ t a. F.outside t (inl a);
        alike = λ t a b c. F.inside t (omega arith) b c;
        last = λ b p a. F.inside at (omega arith) (omega arith) a;
        body = λ b. absurd (true≢false (sym b ∙ n));
      }

  pub parts_bind : {binds : Bool} {k : ℕ} → binds ≡ true → ((n : ℕ) → Noted (get_or w at 0) n → Noted k (suc n)) → NotesParts w at parts binds (set w₁ at k)
  parts_bind {k = k} b h =
      record {
        long = length-set w₁ at k ∙ F.long;
        below = λ t a. get_or-set_other w₁ at t k 0 (λ q. omega arith) ∙ F.outside t (inl a);
        alike = λ t a m c. get_or-set_other w₁ at t k 0 (λ q. omega arith) ∙ F.inside t (omega arith) m c;
        last = λ n. absurd (true≢false (sym b ∙ n));
        body = λ _ a n N. noted_as (get_or-set_same w₁ at k 0 (omega (arith, F.long))) refl (h n N);
      }
