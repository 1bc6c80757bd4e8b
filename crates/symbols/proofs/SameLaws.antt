-- Equal bytes: one at once, and four at once as a number.
use mathlib.Core.Path.{◌≡◌, refl, sym, ap, ap₂, ◌∙◌, subst}
use mathlib.Core.Logic.{◌≢◌}
use mathlib.Core.Bool.{Bool, true, false}
use mathlib.Core.List.{[], ◌∷◌}
use Prim.Native.Nat.{ℕ, zero, suc, ◌+◌, ◌-◌, ◌*◌, ◌≤◌, ◌<◌}
use native.Mathlib.Omega.{arith}
use lib.Dec.{eqb, leb}
use lib.ListN.{length, get_or, drop, get_or-eq_default}
use borrow.Author.Tests.{eq-eqb, ne_eqb, eqb-true, eqb-false, leb-true, leb-false}
use Rattle.aut68.specs.Bytes.{Bytes, same_bytes}
use Rattle.lookup.specs.SameBytes.{same_true}
use Rattle.symbols.specs.Symbols.{four_at}
use Rattle.symbols.proofs.SymbolLaws.{step, ended}

cons_same : (x y : ℕ) (xs ys : Bytes) → x ≡ y → same_bytes (x ∷ xs) (y ∷ ys) ≡ same_bytes xs ys
unfolding same_bytes
cons_same x y xs ys e = rw (eq-eqb x y e, same_bytes)

cons_differ : (x y : ℕ) (xs ys : Bytes) → x ≢ y → same_bytes (x ∷ xs) (y ∷ ys) ≡ false
unfolding same_bytes
cons_differ x y xs ys n = rw (ne_eqb x y n, same_bytes)

nil_same : same_bytes [] [] ≡ true
unfolding same_bytes
nil_same = refl

-- the bytes below i are the same
pub record SameSoFar (a b : Bytes) (i : ℕ) : Type 0 where
  pub lengths : length a ≡ length b
  pub rest : same_bytes a b ≡ same_bytes (drop i a) (drop i b)

pub same_start : {a b : Bytes} → length a ≡ length b → SameSoFar a b 0
same_start e = record { lengths = e; rest = refl }

-- ---- one byte; behind the end both have 0, and are the same

module _ {a b : Bytes} {i : ℕ} (h : SameSoFar a b i) where
  pub same_more : {j : ℕ} → j ≡ i + 1 → get_or a i 0 ≡ get_or b i 0 → SameSoFar a b j
  same_more {j} q e = subst (SameSoFar a b) (sym q) (record { lengths = h.lengths; rest = h.rest ∙ split (leb (length a) i) refl })
    where
      split : (t : Bool) → leb (length a) i ≡ t → same_bytes (drop i a) (drop i b) ≡ same_bytes (drop (i + 1) a) (drop (i + 1) b)
      split true q =
          let l = leb-true (length a) i q in
          let m : length b ≤ i = omega (arith, h.lengths) in
          ap₂ same_bytes (ended a i l ∙ sym (ended a (i + 1) (omega arith))) (ended b i m ∙ sym (ended b (i + 1) (omega arith)))
      split false q =
          let l = leb-false (length a) i q in
          let m : i < length b = omega (arith, h.lengths) in
          ap₂ same_bytes (step a i l) (step b i m) ∙ cons_same (get_or a i 0) (get_or b i 0) _ _ e

  pub same_stop : get_or a i 0 ≢ get_or b i 0 → same_bytes a b ≡ false
  same_stop n = split (leb (length a) i) refl
    where
      split : (t : Bool) → leb (length a) i ≡ t → same_bytes a b ≡ false
      split true q =
          let l = leb-true (length a) i q in
          let m : length b ≤ i = omega (arith, h.lengths) in
          absurd (n (get_or-eq_default a 0 l ∙ sym (get_or-eq_default b 0 m)))
      split false q =
          let l = leb-false (length a) i q in
          let m : i < length b = omega (arith, h.lengths) in
          h.rest ∙ ap₂ same_bytes (step a i l) (step b i m) ∙ cons_differ (get_or a i 0) (get_or b i 0) _ _ n

  pub same_last : length a ≤ i → same_bytes a b ≡ true
  same_last l =
      let m : length b ≤ i = omega (arith, h.lengths) in
      h.rest ∙ ap₂ same_bytes (ended a i l) (ended b i m) ∙ nil_same

  same_unless : (get_or a i 0 ≡ get_or b i 0 → same_bytes a b ≡ false) → same_bytes a b ≡ false
  same_unless f = split (eqb (get_or a i 0) (get_or b i 0)) refl
    where
      split : (t : Bool) → eqb (get_or a i 0) (get_or b i 0) ≡ t → same_bytes a b ≡ false
      split true q = f (eqb-true _ _ q)
      split false q = same_stop (eqb-false _ _ q)

-- ---- four bytes: those of equal numbers are equal

digits : {x₀ x₁ x₂ x₃ y₀ y₁ y₂ y₃ : ℕ} → x₀ < 256 → x₁ < 256 → x₂ < 256 → x₃ < 256 → y₀ < 256 → y₁ < 256 → y₂ < 256 → y₃ < 256
    → x₀ + 256 * x₁ + 65536 * x₂ + 16777216 * x₃ ≡ y₀ + 256 * y₁ + 65536 * y₂ + 16777216 * y₃ → (x₀ ≡ y₀) × (x₁ ≡ y₁) × (x₂ ≡ y₂) × (x₃ ≡ y₃)
digits a b c d e f g h q = (omega arith, omega arith, omega arith, omega arith)

-- where fewer than four bytes are left
pub four_short : (s : Bytes) (i : ℕ) {x y z : ℕ} → length s ≤ i + 3 → x ≡ get_or s i 0 → y ≡ get_or s (i + 1) 0 → z ≡ get_or s (i + 2) 0
    → x + 256 * y + 65536 * z ≡ four_at s i
unfolding four_at
four_short s i l ex ey ez = let e = get_or-eq_default s 0 {n = i + 3} l in omega arith

module _ {a b : Bytes} {i : ℕ} (h : SameSoFar a b i) where
  pub same_four_more : ((j : ℕ) → get_or a j 0 < 256) → ((j : ℕ) → get_or b j 0 < 256) → four_at a i ≡ four_at b i → SameSoFar a b (i + 4)
  unfolding four_at
  same_four_more p q e =
      let (e₀, e₁, e₂, e₃) = digits (p i) (p (i + 1)) (p (i + 2)) (p (i + 3)) (q i) (q (i + 1)) (q (i + 2)) (q (i + 3)) e in
      same_more (same_more (same_more (same_more h refl e₀) (omega arith) e₁) (omega arith) e₂) (omega arith) e₃

  pub same_four_stop : four_at a i ≢ four_at b i → same_bytes a b ≡ false
  unfolding four_at
  same_four_stop n =
      same_unless h λ e₀.
      let h₁ : SameSoFar a b (i + 1) = same_more h refl e₀ in
      same_unless h₁ λ e₁.
      let h₂ : SameSoFar a b (i + 2) = same_more h₁ (omega arith) e₁ in
      same_unless h₂ λ e₂.
      let h₃ : SameSoFar a b (i + 3) = same_more h₂ (omega arith) e₂ in
      same_unless h₃ λ e₃. absurd (n (omega arith))

-- the last four bytes, of which some may be known to be the same
module _ {a b : Bytes} (p : (j : ℕ) → get_or a j 0 < 256) (q : (j : ℕ) → get_or b j 0 < 256) {i last : ℕ} (h : SameSoFar a b i) (m : last ≤ i) (l : length a ≤ last + 4) where
  last_same : four_at a last ≡ four_at b last → same_bytes a b ≡ true
  unfolding four_at
  last_same e =
      let (e₀, e₁, e₂, e₃) = digits (p last) (p (last + 1)) (p (last + 2)) (p (last + 3)) (q last) (q (last + 1)) (q (last + 2)) (q (last + 3)) e in
      let byte : (k : ℕ) → get_or a (last + k) 0 ≡ get_or b (last + k) 0 = λ k. among e₀ e₁ e₂ e₃ k in
      let next : (j : ℕ) → i ≤ j → get_or a j 0 ≡ get_or b j 0 = λ j n. let z : last + (j - last) ≡ j = omega arith in subst (λ x. get_or a x 0 ≡ get_or b x 0) z (byte (j - last)) in
      let h₁ : SameSoFar a b (i + 1) = same_more h refl (next i (omega arith)) in
      let h₂ : SameSoFar a b (i + 2) = same_more h₁ (omega arith) (next (i + 1) (omega arith)) in
      let h₃ : SameSoFar a b (i + 3) = same_more h₂ (omega arith) (next (i + 2) (omega arith)) in
      let h₄ : SameSoFar a b (i + 4) = same_more h₃ (omega arith) (next (i + 3) (omega arith)) in
      same_last h₄ (omega arith)
    where
      among : get_or a last 0 ≡ get_or b last 0 → get_or a (last + 1) 0 ≡ get_or b (last + 1) 0 → get_or a (last + 2) 0 ≡ get_or b (last + 2) 0 → get_or a (last + 3) 0 ≡ get_or b (last + 3) 0
          → (k : ℕ) → get_or a (last + k) 0 ≡ get_or b (last + k) 0
      among e₀ e₁ e₂ e₃ zero = let z : last + 0 ≡ last = omega arith in subst (λ x. get_or a x 0 ≡ get_or b x 0) (sym z) e₀
      among e₀ e₁ e₂ e₃ (suc zero) = e₁
      among e₀ e₁ e₂ e₃ (suc (suc zero)) = e₂
      among e₀ e₁ e₂ e₃ (suc (suc (suc zero))) = e₃
      among e₀ e₁ e₂ e₃ (suc (suc (suc (suc k)))) =
          let n : length b ≤ last + suc (suc (suc (suc k))) = omega (arith, h.lengths) in
          get_or-eq_default a 0 (omega arith) ∙ sym (get_or-eq_default b 0 n)

  pub same_four_last : {x y : ℕ} → x ≡ four_at a last → y ≡ four_at b last → eqb x y ≡ same_bytes a b
  same_four_last {x} {y} ex ey = split (eqb x y) refl (same_bytes a b) refl
    where
      split : (t : Bool) → eqb x y ≡ t → (u : Bool) → same_bytes a b ≡ u → t ≡ u
      split true e u d = sym (last_same (sym ex ∙ eqb-true x y e ∙ ey)) ∙ d
      split false e true d = absurd (eqb-false x y e (ex ∙ ap (λ s. four_at s last) (same_true a b d) ∙ sym ey))
      split false e false d = refl

-- ---- other lengths

pub lengths_differ : (a b : Bytes) → length a ≢ length b → same_bytes a b ≡ false
unfolding same_bytes
lengths_differ [] [] n = absurd (n refl)
lengths_differ [] (y ∷ ys) n = refl
lengths_differ (x ∷ xs) [] n = refl
lengths_differ (x ∷ xs) (y ∷ ys) n = split (eqb x y) (lengths_differ xs ys (λ e. n (ap suc e)))
  where
    split : (t : Bool) → same_bytes xs ys ≡ false → elim t as (λ _. Bool) [ true ↦ same_bytes xs ys | false ↦ false ] ≡ false
    split true e = e
    split false e = refl
