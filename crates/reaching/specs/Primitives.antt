-- The marked `PN` lines, as the rows say.
use Rattle.std.specs.Prelude.{◌≡◌, Bool, ◌&&◌, List, [], ◌∷◌}
use Rattle.std.proofs.Math.Path.{refl, subst, ap}
use Rattle.std.proofs.Common.{sym, ap₂, ◌∙◌, ⊎_elim}
use Rattle.std.proofs.Math.Bool.{true, false}
use Rattle.std.proofs.lemmas.Bool.{false≢true}
use Prim.Native.Nat.{ℕ, zero, suc, ◌+◌, ◌≤◌, ◌<◌}
use Rattle.std.proofs.Math.Decide.{ℕ_discrete}
use native.Mathlib.Omega.{arith}
use Rattle.std.proofs.Math.Dec.{eqb}
use Rattle.std.proofs.Math.ListN.{length}
use Rattle.aut68.specs.Sizes.{at_kind}
use Rattle.aut68.specs.Lines.{row_cell}
use Rattle.aut68.specs.Rules.Names.{Member, here, there}
use Rattle.aut68.specs.Rules.Following.{Ascends, none}
use Rattle.lookup.specs.Ascending.{ascends_cons}
use Rattle.lookup.specs.Lists.{member_cases, no_member}
use Rattle.marks.specs.Marks.{marked}

unfoldable pub is_marked_primitive : List ℕ → List ℕ → ℕ → Bool
is_marked_primitive tb w v = marked w v && eqb (row_cell tb v at_kind) 1

-- those among the n lines after line v, ascending
unfoldable pub marked_primitives : List ℕ → List ℕ → ℕ → ℕ → List ℕ
marked_primitives tb w v zero = []
marked_primitives tb w v (suc n) =
    elim (is_marked_primitive tb w (suc v)) [ true ↦ suc v ∷ marked_primitives tb w (suc v) n | false ↦ marked_primitives tb w (suc v) n ]

unfoldable pub one_if : Bool → ℕ
one_if true = 1
one_if false = 0

module _ (tb w : List ℕ) (v : ℕ) where
  pub marked_kind : {k : ℕ} → marked w v ≡ true → k ≡ row_cell tb v at_kind → is_marked_primitive tb w v ≡ eqb k 1
  unfolding is_marked_primitive
  marked_kind {k} e f = rw (e, is_marked_primitive) (ap (λ (n : ℕ). eqb n 1) (sym f))

  pub unmarked_primitive : marked w v ≡ false → is_marked_primitive tb w v ≡ false
  unfolding is_marked_primitive
  unmarked_primitive e = rw (e, is_marked_primitive)

-- ---- by the next line

module _ (tb w : List ℕ) (v n : ℕ) where
  pub primitives_yes : is_marked_primitive tb w (suc v) ≡ true → marked_primitives tb w v (suc n) ≡ suc v ∷ marked_primitives tb w (suc v) n
  unfolding marked_primitives
  primitives_yes e = rw (e, marked_primitives)

  pub primitives_no : is_marked_primitive tb w (suc v) ≡ false → marked_primitives tb w v (suc n) ≡ marked_primitives tb w (suc v) n
  unfolding marked_primitives
  primitives_no e = rw (e, marked_primitives)

  pub primitives_length : length (marked_primitives tb w v (suc n)) ≡ one_if (is_marked_primitive tb w (suc v)) + length (marked_primitives tb w (suc v) n)
  unfolding one_if
  primitives_length = at (is_marked_primitive tb w (suc v)) refl
    where
      at : (t : Bool) → is_marked_primitive tb w (suc v) ≡ t
          → length (marked_primitives tb w v (suc n)) ≡ one_if (is_marked_primitive tb w (suc v)) + length (marked_primitives tb w (suc v) n)
      at true e = let k = ap one_if e in omega (arith, ap length (primitives_yes e))
      at false e = let k = ap one_if e in omega (arith, ap length (primitives_no e))

-- ---- which they are

module _ (tb w : List ℕ) where
  pub primitive_within : (v n : ℕ) {u : ℕ} → Member u (marked_primitives tb w v n) → (v < u) × (u ≤ v + n) × (is_marked_primitive tb w u ≡ true)
  unfolding marked_primitives
  primitive_within v zero m = absurd (no_member m)
  primitive_within v (suc n) {u} m = at (is_marked_primitive tb w (suc v)) refl (primitive_within (suc v) n)
    where
      later : (suc v < u) × (u ≤ suc v + n) × (is_marked_primitive tb w u ≡ true) → (v < u) × (u ≤ v + suc n) × (is_marked_primitive tb w u ≡ true)
      later (a, b, c) = (omega arith, omega arith, c)

      at : (t : Bool) → is_marked_primitive tb w (suc v) ≡ t
          → (Member u (marked_primitives tb w (suc v) n) → (suc v < u) × (u ≤ suc v + n) × (is_marked_primitive tb w u ≡ true))
          → (v < u) × (u ≤ v + suc n) × (is_marked_primitive tb w u ≡ true)
      at true e f = ⊎_elim (λ q. (omega arith, omega arith, ap (is_marked_primitive tb w) q ∙ e)) (λ k. later (f k)) (member_cases (subst (Member u) (primitives_yes tb w v n e) m))
      at false e f = later (f (subst (Member u) (primitives_no tb w v n e) m))

  pub primitive_member : (v n : ℕ) {u : ℕ} → v < u → u ≤ v + n → is_marked_primitive tb w u ≡ true → Member u (marked_primitives tb w v n)
  primitive_member v zero h k p = absurd (omega arith)
  primitive_member v (suc n) {u} h k p = at (is_marked_primitive tb w (suc v)) refl (ℕ_discrete u (suc v)) (λ l. primitive_member (suc v) n l (omega arith) p)
    where
      at : (t : Bool) → is_marked_primitive tb w (suc v) ≡ t → Dec (u ≡ suc v) → (suc v < u → Member u (marked_primitives tb w (suc v) n)) → Member u (marked_primitives tb w v (suc n))
      at true e (yes q) f = subst (Member u) (sym (primitives_yes tb w v n e)) (subst (λ x. Member u (x ∷ marked_primitives tb w (suc v) n)) q here)
      at true e (no q) f = subst (Member u) (sym (primitives_yes tb w v n e)) (there (f (omega arith)))
      at false e (yes q) f = absurd (false≢true (sym e ∙ ap (is_marked_primitive tb w) (sym q) ∙ p))
      at false e (no q) f = subst (Member u) (sym (primitives_no tb w v n e)) (f (omega arith))

  pub primitives_ascend : (v n : ℕ) → Ascends (marked_primitives tb w v n)
  unfolding marked_primitives
  primitives_ascend v zero = none
  primitives_ascend v (suc n) = at (is_marked_primitive tb w (suc v)) refl (primitives_ascend (suc v) n)
    where
      at : (t : Bool) → is_marked_primitive tb w (suc v) ≡ t → Ascends (marked_primitives tb w (suc v) n) → Ascends (marked_primitives tb w v (suc n))
      at true e a = subst Ascends (sym (primitives_yes tb w v n e)) (ascends_cons (λ u m. (primitive_within (suc v) n m).0) a)
      at false e a = subst Ascends (sym (primitives_no tb w v n e)) a

-- they depend on the marks behind line v
pub primitives_same : (tb w w' : List ℕ) (v n : ℕ) → ((u : ℕ) → v < u → marked w' u ≡ marked w u) → marked_primitives tb w' v n ≡ marked_primitives tb w v n
unfolding marked_primitives is_marked_primitive
primitives_same tb w w' v zero h = refl
primitives_same tb w w' v (suc n) h =
    ap₂ (λ (t : Bool) (xs : List ℕ). elim t as (λ _. List ℕ) [ true ↦ suc v ∷ xs | false ↦ xs ])
    (ap (λ (t : Bool). t && eqb (row_cell tb (suc v) at_kind) 1) (h (suc v) (omega arith)))
    (primitives_same tb w w' (suc v) n (λ u k. h u (omega arith)))
