-- Places of a line, and what reading one byte or one symbol there gives.
use mathlib.Core.Path.{◌≡◌, refl, sym, ap, ◌∙◌}
use mathlib.Core.Logic.{◌≢◌}
use mathlib.Core.List.{[], ◌∷◌, ◌++◌}
use Prim.Native.Nat.{ℕ, zero, suc, ◌+◌, ◌-◌, ◌≤◌, ◌<◌}
use native.Mathlib.Numerals.{add-one}
use native.Mathlib.Omega.{arith}
use lib.ListN.{length, get_or, take, drop, drop_of_length-le}
use lib.Seq.{drop-cons, take-suc, drop-append-le, slice, length-take-le, take-nil}
use borrow.Author.Tests.{eq-eqb, ne_eqb, eqb-true, ltb-true, ltb-false}
use mathlib.Core.Bool.{Bool, true, false, not}
use lib.Dec.{eqb, ltb}
use Rattle.std.specs.Prelude.{Option, Some, None, cond, position}
use Rattle.std.specs.List.{position_or_len}
use Rattle.std.specs.Option.{unwrap_or}
use Rattle.std.proofs.Common.{drop-drop}
use Rattle.std.proofs.lemmas.Bool.{eqb-false}
use Rattle.std.proofs.lemmas.List.{length-drop, take_all}
use Rattle.std.proofs.lemmas.List.Sums.{prefix_len-le-length}
use Rattle.std.proofs.lemmas.List.{get_or_default}
use Rattle.aut68.specs.Bytes.{Bytes}
use Rattle.aut68.specs.Procedure.Answer.{done, stop, malformed}
use Rattle.aut68.specs.Procedure.Parse.{spaces, byte, symbol}
use Rattle.kinds.specs.Kinds.{KindsTable, kind_of, one_of_kind}
use Rattle.symbols.specs.Symbols.{first_kind, PastSpaces, KindAt, PastSymbol}

pub step : (s : Bytes) (i : ℕ) → i < length s → drop i s ≡ get_or s i 0 ∷ drop (i + 1) s
step s i l = rw (add-one, drop-cons s i 0)

pub ended : (s : Bytes) (i : ℕ) → length s ≤ i → drop i s ≡ []
ended s i l = drop_of_length-le s l

-- a part that is one byte longer
pub slice_more : (s : Bytes) (from i : ℕ) → from ≤ i → i < length s → slice from (i + 1) s ≡ slice from i s ++ (get_or s i 0 ∷ [])
slice_more s from i f l =
    let n : from ≤ length (take i s) = rw (length-take-le i s (omega arith)) f in
    rw (add-one, take-suc s i 0, drop-append-le from (take i s)) refl

-- a part that is lent, `s[from..end]`
pub part : (s : Bytes) (from end : ℕ) → from ≤ end → take (end - from) (drop from s) ≡ slice from end s
part s zero end l = let e : end - 0 ≡ end = omega arith in rw e
part s (suc from) zero l = absurd (omega arith)
part [] (suc from) (suc end) l = take-nil (suc end - suc from)
part (x ∷ s) (suc from) (suc end) l = let e : suc end - suc from ≡ end - from = omega arith in rw e (part s from end (omega arith))

-- the byte that a test of the place gives
pub got : (s : Bytes) (i : ℕ) {b : ℕ} → true ≡ ltb i (length s) → b ≡ get_or s i b → (i < length s) × (b ≡ get_or s i 0)
got s i {b} e f = let l = ltb-true i (length s) (sym e) in (l, f ∙ get_or_default s i b 0 l)

pub got_none : (s : Bytes) (i : ℕ) → false ≡ ltb i (length s) → length s ≤ i
got_none s i e = ltb-false i (length s) (sym e)

-- ---- spaces

cons_space : (b : ℕ) (bs : Bytes) → b ≡ 32 → spaces (b ∷ bs) ≡ spaces bs
unfolding spaces
cons_space b bs e = rw (eq-eqb b 32 e, spaces)

cons_other : (b : ℕ) (bs : Bytes) → b ≢ 32 → spaces (b ∷ bs) ≡ b ∷ bs
unfolding spaces
cons_other b bs n = rw (ne_eqb b 32 n, spaces)

no_spaces : spaces [] ≡ []
unfolding spaces
no_spaces = refl

-- all bytes from `at` up to i are spaces
pub record SpacesSoFar (s : Bytes) (at i : ℕ) : Type 0 where
  pub from : at ≤ i
  pub within : at ≤ length s → i ≤ length s
  pub rest : spaces (drop at s) ≡ spaces (drop i s)

pub spaces_start : (s : Bytes) (at : ℕ) → SpacesSoFar s at at
spaces_start s at = record { from = omega arith; within = λ l. l; rest = refl }

module _ {s : Bytes} {at i : ℕ} (h : SpacesSoFar s at i) where
  pub spaces_more : i < length s → get_or s i 0 ≡ 32 → SpacesSoFar s at (i + 1)
  spaces_more l e =
      record {
        from = omega (arith, h.from);
        within = λ b. omega arith;
        rest = h.rest ∙ ap spaces (step s i l) ∙ cons_space (get_or s i 0) (drop (i + 1) s) e;
      }

  pub spaces_stop : i < length s → get_or s i 0 ≢ 32 → PastSpaces s at i
  spaces_stop l n =
      record {
        from = h.from;
        within = h.within;
        rest = sym (h.rest ∙ ap spaces (step s i l) ∙ cons_other (get_or s i 0) (drop (i + 1) s) n ∙ sym (step s i l));
      }

  pub spaces_last : {r : ℕ} → length s ≤ i → at ≤ r → length s ≤ r → (at ≤ length s → r ≤ length s) → PastSpaces s at r
  spaces_last {r} l f e w =
      record {
        from = f;
        within = w;
        rest = sym (h.rest ∙ ap spaces (ended s i l) ∙ no_spaces ∙ sym (ended s r e));
      }

-- the first byte that is no space
skipped : (s : Bytes) → drop (position_or_len (λ b. not (eqb b 32)) s) s ≡ spaces s
skipped [] = sym no_spaces
skipped (b ∷ bs) = at (eqb b 32) refl (skipped bs)
  where
    suc_is : (n : ℕ) → 1 + n ≡ suc n
    suc_is n = omega arith

    at : (t : Bool) → eqb b 32 ≡ t → drop (position_or_len (λ c. not (eqb c 32)) bs) bs ≡ spaces bs
        → drop (cond (not (not t)) (1 + position_or_len (λ c. not (eqb c 32)) bs) 0) (b ∷ bs) ≡ spaces (b ∷ bs)
    at true e h = rw (suc_is (position_or_len (λ c. not (eqb c 32)) bs)) (h ∙ sym (cons_space b bs (eqb-true b 32 e)))
    at false e h = sym (cons_other b bs (eqb-false b 32 e))

pub spaces_found : {s rest : Bytes} {at : ℕ} {o : Option ℕ} → at ≤ length s → rest ≡ drop at s → o ≡ position (λ b. not (eqb b 32)) rest
    → PastSpaces s at (at + unwrap_or o (length rest))
spaces_found {s} {rest} {at} {o} l d e = split (ltb n (length rest)) refl e
  where
    n : ℕ
    n = position_or_len (λ b. not (eqb b 32)) rest

    small : n ≤ length rest
    small = prefix_len-le-length (λ b. not (not (eqb b 32))) rest

    long : length rest ≡ length s - at
    long = ap length d ∙ length-drop at s

    found : {r : ℕ} → r ≡ n → PastSpaces s at (at + r)
    found k =
        rw k record {
          from = omega arith;
          within = λ b. omega (arith, small, long);
          rest = sym (drop-drop n at s) ∙ ap (drop n) (sym d) ∙ skipped rest ∙ ap spaces d;
        }

    split : (t : Bool) → ltb n (length rest) ≡ t → o ≡ cond t (Some n) None → PastSpaces s at (at + unwrap_or o (length rest))
    split true g h = found (ap (λ (q : Option ℕ). unwrap_or q (length rest)) h)
    split false g h = found (ap (λ (q : Option ℕ). unwrap_or q (length rest)) h ∙ omega (arith, ltb-false n (length rest) g, small))

-- what is lent from a place on
pub lent_rest : (s : Bytes) (at : ℕ) → take (length s - at) (drop at s) ≡ drop at s
lent_rest s at = take_all (length s - at) (drop at s) (omega (arith, length-drop at s))

-- ---- kinds

cons_kind : (b : ℕ) (bs : Bytes) → first_kind (b ∷ bs) ≡ kind_of b
unfolding first_kind
cons_kind b bs = refl

no_kind : first_kind [] ≡ 0
unfolding first_kind
no_kind = refl

pub kind_here : {ks s : Bytes} {at k : ℕ} → at < length s → (KindsTable ks → k ≡ kind_of (get_or s at 0)) → KindAt ks s at k
kind_here {ks} {s} {at} l e =
    record {
      inside = λ n. l;
      kind = λ t. e t ∙ sym (ap first_kind (step s at l) ∙ cons_kind (get_or s at 0) (drop (at + 1) s));
    }

pub kind_end : {ks s : Bytes} {at : ℕ} → length s ≤ at → KindAt ks s at 0
kind_end {ks} {s} {at} l =
    record { inside = λ n. absurd (n refl); kind = λ t. sym (ap first_kind (ended s at l) ∙ no_kind) }

-- ---- symbols

cons_symbol : (c b : ℕ) (bs : Bytes) → b ≡ c → byte c (b ∷ bs) ≡ done tt bs
unfolding byte
cons_symbol c b bs e = rw (eq-eqb b c e, byte)

cons_missing : (c b : ℕ) (bs : Bytes) → b ≢ c → byte c (b ∷ bs) ≡ stop malformed (b ∷ bs)
unfolding byte
cons_missing c b bs n = rw (ne_eqb b c n, byte)

no_symbol : (c : ℕ) → byte c [] ≡ stop malformed []
unfolding byte
no_symbol c = refl

pub byte_here : (s : Bytes) (c i : ℕ) → i < length s → get_or s i 0 ≡ c → byte c (drop i s) ≡ done tt (drop (i + 1) s)
byte_here s c i l e = rw (step s i l) (cons_symbol c (get_or s i 0) (drop (i + 1) s) e)

pub byte_missing : (s : Bytes) (c i : ℕ) → i < length s → get_or s i 0 ≢ c → byte c (drop i s) ≡ stop malformed (drop i s)
byte_missing s c i l n = rw (step s i l) (cons_missing c (get_or s i 0) (drop (i + 1) s) n)

pub byte_end : (s : Bytes) (c i : ℕ) → length s ≤ i → byte c (drop i s) ≡ stop malformed (drop i s)
byte_end s c i l = rw (ended s i l) (no_symbol c)

symbol_byte : {s : Bytes} {at i : ℕ} → PastSpaces s at i → (c : ℕ) → symbol c (drop at s) ≡ byte c (drop i s)
unfolding symbol
symbol_byte p c = ap (byte c) (sym p.rest)

module _ {ks s : Bytes} {at i k : ℕ} (p : PastSpaces s at i) where
  -- the byte at i has kind k
  pub symbol_here : i < length s → (KindsTable ks → kind_of (get_or s i 0) ≡ k) → PastSymbol ks s at k (i + 1)
  symbol_here l e =
      record {
        from = λ b. omega (arith, p.from);
        within = λ b. omega arith;
        read = λ t c q m n. symbol_byte p c ∙ byte_here s c i l (one_of_kind (get_or s i 0) c (rw q m) (e t ∙ sym q));
        missing = λ t c q m n. absurd (omega arith);
      }

  -- it has another, or none is there
  pub symbol_other : i < length s → (KindsTable ks → kind_of (get_or s i 0) ≢ k) → PastSymbol ks s at k (length s + 1)
  symbol_other l n =
      record {
        from = λ b. omega arith;
        within = λ b. omega arith;
        read = λ t c q m o. absurd (omega arith);
        missing = λ t c q m o. symbol_byte p c ∙ byte_missing s c i l (λ e. n t (ap kind_of e ∙ q)) ∙ ap (stop malformed) p.rest;
      }

  pub symbol_end : length s ≤ i → PastSymbol ks s at k (length s + 1)
  symbol_end l =
      record {
        from = λ b. omega arith;
        within = λ b. omega arith;
        read = λ t c q m o. absurd (omega arith);
        missing = λ t c q m o. symbol_byte p c ∙ byte_end s c i l ∙ ap (stop malformed) p.rest;
      }
