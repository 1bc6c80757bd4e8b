-- Words of a line, and which of them are names.
use mathlib.Core.Path.{◌≡◌, refl, sym, ap, ap₂, ◌∙◌}
use mathlib.Core.Logic.{◌≢◌}
use mathlib.Core.Bool.{Bool, true, false, not, ◌&&◌}
use mathlib.Core.List.{[], ◌∷◌, ◌++◌, append_assoc, append-nil}
use Prim.Native.Nat.{ℕ, ◌+◌, ◌-◌, ◌≤◌, ◌<◌}
use native.Mathlib.Omega.{arith}
use lib.Dec.{leb}
use lib.ListN.{length, get_or, drop}
use lib.Seq.{slice, slice_empty, length-slice}
use borrow.Author.Tests.{le-leb, lt-leb}
use Rattle.aut68.specs.Language.{aut68}
use Rattle.aut68.specs.Sizes.{name_limit}
use Rattle.aut68.specs.Bytes.{Bytes, name_byte, same_bytes, reserved, word_type, word_pn, word_eb}
use Rattle.aut68.specs.Procedure.Answer.{done, stop, malformed}
use Rattle.aut68.specs.Procedure.Parse.{spaces, word_of, after_word, word_ahead, name_fits, a_name}
use Rattle.kinds.specs.Kinds.{KindsTable, kind_of, name_of_kind, kind_of_name}
use Rattle.symbols.specs.Symbols.{PastSpaces, WordEnd, NameAt}
use Rattle.symbols.proofs.SymbolLaws.{step, ended, slice_more}

-- ---- words

cons_word : (b : ℕ) (bs : Bytes) → name_byte b ≡ true → word_of (b ∷ bs) ≡ b ∷ word_of bs
unfolding word_of
cons_word b bs e = rw (e, word_of)

cons_after : (b : ℕ) (bs : Bytes) → name_byte b ≡ true → after_word (b ∷ bs) ≡ after_word bs
unfolding after_word
cons_after b bs e = rw (e, after_word)

cons_no_word : (b : ℕ) (bs : Bytes) → name_byte b ≡ false → word_of (b ∷ bs) ≡ []
unfolding word_of
cons_no_word b bs e = rw (e, word_of)

cons_no_after : (b : ℕ) (bs : Bytes) → name_byte b ≡ false → after_word (b ∷ bs) ≡ b ∷ bs
unfolding after_word
cons_no_after b bs e = rw (e, after_word)

nil_word : (word_of [] ≡ []) × (after_word [] ≡ [])
unfolding word_of after_word
nil_word = (refl, refl)

no_name : (b : ℕ) → kind_of b ≢ 1 → name_byte b ≡ false
no_name b n = split (name_byte b) refl
  where
    split : (t : Bool) → name_byte b ≡ t → name_byte b ≡ false
    split false e = e
    split true e = absurd (n (kind_of_name b e))

-- the word so far, from `at` up to i
pub record WordSoFar (ks s : Bytes) (at i : ℕ) : Type 0 where
  pub from : at ≤ i
  pub within : at ≤ length s → i ≤ length s
  pub word : KindsTable ks → at ≤ length s → word_of (drop at s) ≡ slice at i s ++ word_of (drop i s)
  pub rest : KindsTable ks → after_word (drop at s) ≡ after_word (drop i s)

pub word_start : (ks s : Bytes) (at : ℕ) → WordSoFar ks s at at
word_start ks s at =
    record { from = omega arith; within = λ l. l; word = λ t l. rw (slice_empty at s) refl; rest = λ t. refl }

module _ {ks s : Bytes} {at i : ℕ} (h : WordSoFar ks s at i) where
  pub word_more : i < length s → (KindsTable ks → kind_of (get_or s i 0) ≡ 1) → WordSoFar ks s at (i + 1)
  word_more l n =
      record {
        from = omega (arith, h.from);
        within = λ b. omega arith;
        word = λ t b.
            h.word t b
            ∙ ap (λ x. slice at i s ++ x) (ap word_of (step s i l) ∙ cons_word (get_or s i 0) (drop (i + 1) s) (name_of_kind _ (n t)))
            ∙ sym (append_assoc (slice at i s) (get_or s i 0 ∷ []) (word_of (drop (i + 1) s)))
            ∙ ap (λ x. x ++ word_of (drop (i + 1) s)) (sym (slice_more s at i h.from l));
        rest = λ t. h.rest t ∙ ap after_word (step s i l) ∙ cons_after (get_or s i 0) (drop (i + 1) s) (name_of_kind _ (n t));
      }

  pub word_stop : i < length s → (KindsTable ks → kind_of (get_or s i 0) ≢ 1) → WordEnd ks s at i
  word_stop l n =
      record {
        from = h.from;
        within = h.within;
        word = λ t b.
            sym (h.word t b
            ∙ ap (λ x. slice at i s ++ x) (ap word_of (step s i l) ∙ cons_no_word (get_or s i 0) (drop (i + 1) s) (no_name _ (n t)))
            ∙ append-nil (slice at i s));
        rest = λ t. sym (h.rest t ∙ ap after_word (step s i l) ∙ cons_no_after (get_or s i 0) (drop (i + 1) s) (no_name _ (n t)) ∙ sym (step s i l));
      }

  pub word_last : {r : ℕ} → length s ≤ i → at ≤ r → length s ≤ r → (at ≤ length s → r ≤ length s) → WordEnd ks s at r
  word_last {r} l f e w =
      record {
        from = f;
        within = w;
        word = λ t b.
            let z : i ≡ r = omega (arith, h.within b, w b) in
            sym (h.word t b ∙ ap (λ x. slice at i s ++ x) (ap word_of (ended s i l) ∙ nil_word.0) ∙ append-nil (slice at i s) ∙ ap (λ j. slice at j s) z);
        rest = λ t. sym (h.rest t ∙ ap after_word (ended s i l) ∙ nil_word.1 ∙ sym (ended s r e));
      }

-- ---- the three words

pub reserved_type : (w : Bytes) → same_bytes w word_type ≡ true → reserved aut68 w ≡ true
unfolding reserved
reserved_type w e = rw e

pub reserved_pn : (w : Bytes) → same_bytes w word_type ≡ false → same_bytes w word_pn ≡ true → reserved aut68 w ≡ true
unfolding reserved
reserved_pn w e f = rw (e, f)

pub reserved_eb : (w : Bytes) → same_bytes w word_type ≡ false → same_bytes w word_pn ≡ false → reserved aut68 w ≡ same_bytes w word_eb
unfolding reserved
reserved_eb w e f = rw (e, f)

-- ---- names

fits_name : (w : Bytes) → length w ≢ 0 → length w ≤ name_limit → reserved aut68 w ≡ false → name_fits aut68 w ≡ true
unfolding name_fits
fits_name w n l e = rw (le-leb 1 (length w) (omega arith), le-leb (length w) name_limit l, e)

empty_fits_not : (w : Bytes) → length w ≡ 0 → name_fits aut68 w ≡ false
unfolding name_fits
empty_fits_not w e = rw (lt-leb 1 (length w) (omega arith))

long_fits_not : (w : Bytes) → name_limit < length w → name_fits aut68 w ≡ false
unfolding name_fits
long_fits_not w l = rw (le-leb 1 (length w) (omega arith), lt-leb (length w) name_limit l)

reserved_fits_not : (w : Bytes) → reserved aut68 w ≡ true → name_fits aut68 w ≡ false
unfolding name_fits
reserved_fits_not w e = split (leb 1 (length w)) (leb (length w) name_limit) (reserved aut68 w) e
  where
    split : (t u v : Bool) → v ≡ true → (t && u && not v) ≡ false
    split t u true e = split₂ t u
      where
        split₂ : (t u : Bool) → (t && u && false) ≡ false
        split₂ true true = refl
        split₂ true false = refl
        split₂ false u = refl
    split t u false e = absurd (mathlib.Core.Bool.false≢true e)

name_read_lem : (bs : Bytes) → name_fits aut68 (word_ahead bs) ≡ true → a_name aut68 bs ≡ done (word_ahead bs) (after_word (spaces bs))
unfolding a_name
name_read_lem bs e = rw (e, a_name)

name_missing : (bs : Bytes) → name_fits aut68 (word_ahead bs) ≡ false → a_name aut68 bs ≡ stop malformed bs
unfolding a_name
name_missing bs e = rw (e, a_name)

-- a word that starts at `start`, behind the spaces, and ends at `end`
module _ {ks s : Bytes} {at start end : ℕ} (p : PastSpaces s at start) (q : WordEnd ks s start end) (t : KindsTable ks) (b : at ≤ length s) where
  pub word_ahead_lem : word_ahead (drop at s) ≡ slice start end s
  unfolding word_ahead
  word_ahead_lem = ap word_of (sym p.rest) ∙ sym (q.word t (p.within b))

  pub past_word_lem : after_word (spaces (drop at s)) ≡ drop end s
  past_word_lem = ap after_word (sym p.rest) ∙ sym (q.rest t)

  pub word_length : length (word_ahead (drop at s)) ≡ end - start
  word_length = ap length word_ahead_lem ∙ length-slice start end s (q.within (p.within b))

  pub a_name_lem : end - start ≢ 0 → end - start ≤ name_limit → reserved aut68 (slice start end s) ≡ false
      → a_name aut68 (drop at s) ≡ done (slice start end s) (drop end s)
  a_name_lem n l r =
      name_read_lem (drop at s) (fits_name _ (λ e. n (sym word_length ∙ e)) (rw word_length l) (ap (reserved aut68) word_ahead_lem ∙ r))
      ∙ ap₂ done word_ahead_lem past_word_lem

  pub no_word : end - start ≡ 0 → a_name aut68 (drop at s) ≡ stop malformed (drop at s)
  no_word e = name_missing (drop at s) (empty_fits_not _ (word_length ∙ e))

  pub long_word : name_limit < end - start → a_name aut68 (drop at s) ≡ stop malformed (drop at s)
  long_word l = name_missing (drop at s) (long_fits_not _ (rw word_length l))

  pub reserved_word : reserved aut68 (slice start end s) ≡ true → a_name aut68 (drop at s) ≡ stop malformed (drop at s)
  reserved_word r = name_missing (drop at s) (reserved_fits_not _ (ap (reserved aut68) word_ahead_lem ∙ r))

module _ {ks s : Bytes} {at start end : ℕ} (p : PastSpaces s at start) (q : WordEnd ks s start end) where
  no_name_at : (KindsTable ks → at ≤ length s → a_name aut68 (drop at s) ≡ stop malformed (drop at s)) → NameAt ks s at start 0
  no_name_at f =
      record {
        from = p.from;
        ahead = λ b. p.rest;
        within = λ b. omega (arith, p.within b);
        outside = λ o. refl;
        read = λ t b n. absurd (n refl);
        missing = λ t b e. f t b;
      }

  pub name_empty : end - start ≡ 0 → NameAt ks s at start 0
  name_empty e = no_name_at (λ t b. no_word p q t b e)

  pub name_long : name_limit < end - start → NameAt ks s at start 0
  name_long l = no_name_at (λ t b. long_word p q t b l)

  pub name_reserved : reserved aut68 (slice start end s) ≡ true → NameAt ks s at start 0
  name_reserved r = no_name_at (λ t b. reserved_word p q t b r)

  pub name_word : at ≤ length s → end - start ≤ name_limit → reserved aut68 (slice start end s) ≡ false → NameAt ks s at start (end - start)
  name_word i l r =
      let ends : start + (end - start) ≡ end = omega (arith, q.from) in
      record {
        from = p.from;
        ahead = λ b. p.rest;
        within = λ b. omega (arith, q.within (p.within b));
        outside = λ o. absurd (omega arith);
        read = λ t b n. rw ends (a_name_lem p q t b n l r);
        missing = λ t b e. no_word p q t b e;
      }

pub name_outside : {ks s : Bytes} {at : ℕ} → length s < at → NameAt ks s at at 0
name_outside l =
    record {
      from = omega arith;
      ahead = λ b. absurd (omega arith);
      within = λ b. absurd (omega arith);
      outside = λ o. refl;
      read = λ t b n. absurd (n refl);
      missing = λ t b e. absurd (omega arith);
    }
