-- Which bytes of a line are printed, one byte after the other.
use mathlib.Core.Path.{◌≡◌, refl, sym, ap, ◌∙◌}
use mathlib.Core.Bool.{Bool, true, false, ◌&&◌, ◌||◌, not}
use mathlib.Core.List.{[], ◌∷◌}
use Prim.Native.Nat.{ℕ, suc, ◌+◌, ◌≤◌, ◌<◌}
use Rattle.std.specs.Prelude.{Option, Some, None, cond, count_by, position}
use Rattle.std.specs.List.{position_or_len}
use Rattle.std.specs.Option.{unwrap_or}
use native.Mathlib.Omega.{arith}
use Rattle.std.proofs.lemmas.List.Recursion.{is_count_by}
use lib.Dec.{eqb, ltb}
use borrow.Author.Tests.{ltb-false}
use Rattle.std.proofs.lemmas.List.Quantifiers.{position-Some}
use lib.ListN.{length, get_or, take, drop, set, drop_of_length-le}
use lib.Seq.{take_all}
use Rattle.aut68.specs.Bytes.{Bytes}
use Rattle.aut68.specs.Procedure.Run.{over}
use Rattle.aut68.specs.Pages.{without, text_of, begins_signed}
use Rattle.symbols.proofs.SymbolLaws.{step, ended}
use Rattle.page_rows.specs.Posts.{text_byte, TextLeft, TextPut}
use Rattle.page_rows.proofs.PutLaws.{PutSoFar, put_start, put_byte, put_all}

-- a byte that is printed
printed : (b : ℕ) (bs : Bytes) → text_byte b ≡ true → text_of (b ∷ bs) ≡ b ∷ text_of bs
unfolding text_of without
printed b bs h = at (eqb b 32) refl (eqb b 10) refl h
  where
    at : (t : Bool) → eqb b 32 ≡ t → (u : Bool) → eqb b 10 ≡ u → not t && not u ≡ true → text_of (b ∷ bs) ≡ b ∷ text_of bs
    at false e false f g = rw (e, without) (rw (f, without))
    at false e true f g = let y : ◌≡◌ {A = ℕ} 0 1 = cc in absurd (omega arith)
    at true e u f g = let y : ◌≡◌ {A = ℕ} 0 1 = cc in absurd (omega arith)

-- a byte that is not
unprinted : (b : ℕ) (bs : Bytes) → text_byte b ≡ false → text_of (b ∷ bs) ≡ text_of bs
unfolding text_of without
unprinted b bs h = at (eqb b 32) refl (eqb b 10) refl h
  where
    at : (t : Bool) → eqb b 32 ≡ t → (u : Bool) → eqb b 10 ≡ u → not t && not u ≡ false → text_of (b ∷ bs) ≡ text_of bs
    at true e u f g = rw (e, without)
    at false e true f g = rw (e, without) (rw (f, without))
    at false e false f g = let y : ◌≡◌ {A = ℕ} 0 1 = cc in absurd (omega arith)

module _ (line : Bytes) (i : ℕ) (l : i < length line) where
  -- the byte at i is printed
  pub printed_at : text_byte (get_or line i 0) ≡ true → text_of (drop i line) ≡ get_or line i 0 ∷ text_of (drop (i + 1) line)
  printed_at h = ap text_of (step line i l) ∙ printed (get_or line i 0) (drop (i + 1) line) h

  -- it is not
  pub unprinted_at : text_byte (get_or line i 0) ≡ false → text_of (drop i line) ≡ text_of (drop (i + 1) line)
  unprinted_at h = ap text_of (step line i l) ∙ unprinted (get_or line i 0) (drop (i + 1) line) h

-- nothing is left at the end of a line
pub no_text : (line : Bytes) (i : ℕ) → length line ≤ i → text_of (drop i line) ≡ []
unfolding text_of without
no_text line i l = ap text_of (ended line i l)

-- what is left begins at a byte that is printed
pub left_at : {line text : Bytes} {i : ℕ} → i < length line → text_byte (get_or line i 0) ≡ true → text_of (drop i line) ≡ text → TextLeft line text i
left_at {line} {text} {i} l t e = record { within = omega arith; is = e; some = λ _. t }

-- nothing is left
pub left_none : {line text : Bytes} {i : ℕ} → i ≡ length line → text_of (drop i line) ≡ text → TextLeft line text i
left_none e f = record { within = omega arith; is = f; some = λ l. absurd (omega arith) }

module _ {line text : Bytes} {i : ℕ} (h : TextLeft line text i) (l : i < length line) where
  -- the first byte that is left
  first_left : text ≡ get_or line i 0 ∷ text_of (drop (i + 1) line)
  first_left = sym h.is ∙ printed_at line i l (h.some l)

  pub some_left : 0 < length text
  some_left = omega (arith, ap length first_left)

  pub signed_left : begins_signed text ≡ eqb (get_or line i 0) 43 || eqb (get_or line i 0) 45
  unfolding begins_signed
  signed_left = ap begins_signed first_left

suc_is : (n : ℕ) → 1 + n ≡ suc n
suc_is n = omega arith

-- a line's text begins at the first byte that is printed
begins : (line : Bytes) → TextLeft line (text_of line) (position_or_len text_byte line)
begins [] = record { within = omega arith; is = refl; some = λ l. absurd (omega arith) }
begins (b ∷ bs) = at (text_byte b) refl (begins bs)
  where
    at : (t : Bool) → text_byte b ≡ t → TextLeft bs (text_of bs) (position_or_len text_byte bs)
        → TextLeft (b ∷ bs) (text_of (b ∷ bs)) (cond (not t) (1 + position_or_len text_byte bs) 0)
    at true e h = record { within = omega arith; is = refl; some = λ _. e }
    at false e h =
        rw (suc_is (position_or_len text_byte bs))
        record { within = omega (arith, h.within); is = h.is ∙ sym (unprinted b bs e); some = λ l. h.some (omega arith) }

pub text_begins : {line : Bytes} {o : Option ℕ} {r : ℕ} → o ≡ position text_byte line → r ≡ unwrap_or o (length line) → TextLeft line (text_of line) r
text_begins {line} {o} {r} e f = at (ltb (position_or_len text_byte line) (length line)) refl e
  where
    at : (t : Bool) → ltb (position_or_len text_byte line) (length line) ≡ t → o ≡ cond t (Some (position_or_len text_byte line)) None → TextLeft line (text_of line) r
    at true g h = rw (f ∙ ap (λ (q : Option ℕ). unwrap_or q (length line)) h) (begins line)
    at false g h =
        let k : r ≡ position_or_len text_byte line =
        f ∙ ap (λ (q : Option ℕ). unwrap_or q (length line)) h ∙ omega (arith, ltb-false (position_or_len text_byte line) (length line) g, (begins line).within)
        in
        rw k (begins line)

-- a first byte stands in the line
pub begins_within : (line : Bytes) (i : ℕ) → Some i ≡ position text_byte line → i < length line
begins_within line i e = (position-Some text_byte line i 0 (sym e)).0

-- how many bytes are printed
pub text_counted : (line : Bytes) → count_by text_byte line ≡ length (text_of line)
text_counted line = sym (is_count_by (λ (l : Bytes). length (text_of l)) text_byte (ap length (no_text [] 0 (omega arith))) more line)
  where
    more : (b : ℕ) (bs : Bytes) → length (text_of (b ∷ bs)) ≡ cond (text_byte b) (1 + length (text_of bs)) (length (text_of bs))
    more b bs = at (text_byte b) refl
      where
        at : (t : Bool) → text_byte b ≡ t → length (text_of (b ∷ bs)) ≡ cond t (1 + length (text_of bs)) (length (text_of bs))
        at true e = omega (arith, ap length (printed b bs e))
        at false e = ap length (unprinted b bs e)

-- no sign is left at the end of a line
pub none_left : {line text : Bytes} {i : ℕ} → TextLeft line text i → length line ≤ i → begins_signed text ≡ false
unfolding begins_signed
none_left {line} {text} {i} h l = ap begins_signed (sym h.is ∙ no_text line i l)

-- n bytes of the text of a line from `at` on are put in a part; what is left of it begins at i
pub record TextSoFar (line : Bytes) (at : ℕ) (old : Bytes) (n i : ℕ) (new : Bytes) : Type 0 where
  pub within : i ≤ length line
  pub fits : n ≤ length old
  pub sofar : PutSoFar (text_of (drop at line)) old n new (text_of (drop i line))

pub text_start : {line : Bytes} {at : ℕ} {old : Bytes} → at ≤ length line → TextSoFar line at old 0 at old
text_start l = record { within = l; fits = omega arith; sofar = put_start }

module _ {line : Bytes} {at : ℕ} {old : Bytes} {n i : ℕ} {new : Bytes} (h : TextSoFar line at old n i new) where
  -- a byte that is not printed is passed
  pub other_byte : i < length line → text_byte (get_or line i 0) ≡ false → TextSoFar line at old n (i + 1) new
  other_byte l t = record { within = omega arith; fits = h.fits; sofar = rw (unprinted_at line i l t) at h.sofar }

  module _ (l : i < length line) (t : text_byte (get_or line i 0) ≡ true) where
    -- another is put, if there is room
    pub text_byte_lem : n < length new → TextSoFar line at old (n + 1) (i + 1) (set new n (get_or line i 0))
    text_byte_lem m =
        record { within = omega arith; fits = omega (arith, h.sofar.long); sofar = put_byte (rw (printed_at line i l t) at h.sofar) m }

    -- the part is full
    pub text_full : n ≡ length new → TextPut line at old i new
    text_full e =
        let k : n ≡ length old = e ∙ h.sofar.long in
        record {
          put = h.sofar.put ∙ ap (λ j. over (take j (text_of (drop at line))) old) k;
          left = left_at l t (h.sofar.left ∙ ap (λ j. drop j (text_of (drop at line))) k);
        }

  -- all of the text is put
  pub text_ended : length line ≤ i → TextPut line at old i new
  text_ended l =
      let text = text_of (drop at line) in
      let e : text_of (drop i line) ≡ [] = no_text line i l in
      let (k, p) = put_all (rw e at h.sofar) in
      let m : length text ≤ length old = omega (arith, h.fits) in
      record {
        put = p ∙ ap (λ x. over x old) (sym (take_all (length old) text m));
        left = left_none (omega (arith, h.within)) (e ∙ sym (drop_of_length-le text m));
      }
