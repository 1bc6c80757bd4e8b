-- A name where it is used, with the paragraph's name and a point before it, if any.
use mathlib.Core.Path.{◌≡◌, refl, sym, ap, ◌∙◌}
use mathlib.Core.Logic.{◌≢◌}
use mathlib.Core.Bool.{Bool, true, false}
use mathlib.Core.List.{[], ◌∷◌}
use Prim.Native.Nat.{ℕ, ◌+◌, ◌≤◌, ◌<◌}
use native.Mathlib.Decide.{ℕ_discrete}
use native.Mathlib.Omega.{arith}
use lib.Dec.{leb}
use lib.ListN.{length, drop}
use lib.Seq.{slice, slice_empty, length-slice}
use borrow.Author.Tests.{eq-eqb, ne_eqb, leb-true, leb-false}
use Rattle.aut68.specs.Language.{aut68}
use Rattle.aut68.specs.Bytes.{Bytes, name_byte}
use Rattle.aut68.specs.Source.{plain, inside}
use Rattle.aut68.specs.Procedure.Answer.{done, stop, malformed, and_then, Refusal}
use Rattle.aut68.specs.Procedure.Parse.{symbol, a_name, point_if_any, a_used}
use Rattle.kinds.specs.Kinds.{KindsTable, kind_of, place_or0}
use Rattle.symbols.specs.Symbols.{PastSymbol, NameAt, used_in, used_by, UsedAt}
use Rattle.symbols.proofs.NextLaws.{after_stop, after_done, symbol_starts, symbol_starts_not}

module _ (s : Bytes) (title size start len : ℕ) where
  pub used_plain : size ≡ 0 → used_in s title size start len ≡ plain (slice start (start + len) s)
  unfolding used_in
  used_plain e = rw (eq-eqb size 0 e, used_in)

  pub used_inside : size ≢ 0 → used_in s title size start len ≡ inside (slice title (title + size) s) (slice start (start + len) s)
  unfolding used_in
  used_inside n = rw (ne_eqb size 0 n, used_in)

  -- the same by its bytes
  pub used_by_lem : title + size ≤ length s → used_in s title size start len ≡ used_by (slice title (title + size) s) (slice start (start + len) s)
  unfolding used_by
  used_by_lem l = at (ℕ_discrete size 0)
    where
      empty : {t w : Bytes} → t ≡ [] → used_by t w ≡ plain w
      empty {w = w} e = ap (λ t. used_by t w) e

      titled : (t : Bytes) {w : Bytes} → length t ≢ 0 → used_by t w ≡ inside t w
      titled [] n = absurd (n refl)
      titled (c ∷ cs) n = refl

      at : Dec (size ≡ 0) → used_in s title size start len ≡ used_by (slice title (title + size) s) (slice start (start + len) s)
      at (yes e) = let z : title + size ≡ title = omega arith in used_plain e ∙ sym (empty (ap (λ n. slice title n s) z ∙ slice_empty title s))
      at (no n) = used_inside n ∙ sym (titled (slice title (title + size) s) (λ e. n (omega (arith, e, length-slice title (title + size) s l))))

-- ---- the point

point_kind : kind_of 46 ≡ 14
unfolding kind_of place_or0 name_byte
point_kind = refl

module _ (w bs : Bytes) where
  no_point_lem : {r : Refusal} {rest : Bytes} → symbol 46 bs ≡ stop r rest → point_if_any aut68 w bs ≡ done (plain w) bs
  unfolding point_if_any
  no_point_lem e = rw (symbol_starts_not 46 bs e, point_if_any)

  a_point : {behind a rest : Bytes} → symbol 46 bs ≡ done tt behind → a_name aut68 behind ≡ done a rest → point_if_any aut68 w bs ≡ done (inside w a) rest
  unfolding point_if_any and_then
  a_point e f = rw (symbol_starts 46 bs e, point_if_any, e, f) refl

  a_lone_point : {behind rest : Bytes} {r : Refusal} → symbol 46 bs ≡ done tt behind → a_name aut68 behind ≡ stop r rest → point_if_any aut68 w bs ≡ stop r rest
  unfolding point_if_any and_then
  a_lone_point e f = rw (symbol_starts 46 bs e, point_if_any, e, f) refl

-- ---- the name

no_used : {ks s : Bytes} {at : ℕ} → (KindsTable ks → at ≤ length s → (rest : Bytes) × (a_used aut68 (drop at s) ≡ stop malformed rest)) → UsedAt ks s at 0 0 at 0
no_used f =
    record {
      from = omega arith;
      titled = λ b. omega arith;
      within = λ b. omega arith;
      read = λ t b n. absurd (n refl);
      missing = λ t b e. f t b;
    }

pub used_missing : {ks s : Bytes} {at start : ℕ} → NameAt ks s at start 0 → UsedAt ks s at 0 0 at 0
unfolding a_used
used_missing n = no_used (λ t b. (_, after_stop _ (n.missing t b refl)))

module _ {ks s : Bytes} {at start len : ℕ} (n : NameAt ks s at start len) where
  -- a name stands inside the line
  pub name_inside : len ≢ 0 → at ≤ length s
  name_inside m = split (leb at (length s)) refl
    where
      split : (t : Bool) → leb at (length s) ≡ t → at ≤ length s
      split true q = leb-true at (length s) q
      split false q = absurd (m (n.outside (leb-false at (length s) q)))

  module _ (m : len ≢ 0) {point : ℕ} (p : PastSymbol ks s (start + len) 14 point) where
    pub used_alone : length s < point → UsedAt ks s at 0 0 start len
    unfolding a_used
    used_alone l =
        record {
          from = n.from;
          titled = λ b. omega arith;
          within = n.within;
          read = λ t b z.
              after_done _ (n.read t b m) ∙ no_point_lem _ (drop (start + len) s) (p.missing t 46 point_kind (omega arith) l)
              ∙ ap (λ u. done u (drop (start + len) s)) (sym (used_plain s 0 0 start len refl));
          missing = λ t b z. absurd (m z);
        }

    pub used_pointed : {first size : ℕ} → at ≤ length s → point ≤ length s → NameAt ks s point first size → UsedAt ks s at start len first size
    unfolding a_used
    used_pointed {first} {size} b l q =
        record {
          from = omega (arith, n.from, p.from (n.within b), q.from);
          titled = n.within;
          within = λ b. q.within l;
          read = λ t b z.
              after_done _ (n.read t b m) ∙ a_point _ (drop (start + len) s) (p.read t 46 point_kind (omega arith) l) (q.read t l z)
              ∙ ap (λ u. done u (drop (first + size) s)) (sym (used_inside s start len first size m));
          missing = λ t b z. (_, after_done _ (n.read t b m) ∙ a_lone_point _ (drop (start + len) s) (p.read t 46 point_kind (omega arith) l) (q.missing t l z));
        }

    pub used_lone_point : {first : ℕ} → point ≤ length s → NameAt ks s point first 0 → UsedAt ks s at 0 0 at 0
    unfolding a_used
    used_lone_point l q =
        no_used (λ t b. (_, after_done _ (n.read t b m) ∙ a_lone_point _ (drop (start + len) s) (p.read t 46 point_kind (omega arith) l) (q.missing t l refl)))
