-- The budget only falls; so one pass more than there are steps left is enough, and the sides at one depth obey their equation
-- without a count of passes.
use Rattle.std.proofs.Math.Path.{◌≡◌, refl}
use Rattle.std.specs.Prelude.{Bool, true, false, eqb, leb}
use Prim.Native.Nat.{ℕ, zero, suc, ◌≤◌, ◌<◌}
use native.Mathlib.Omega.{arith}
use Rattle.aut68.specs.Language.{aut68}
use Rattle.aut68.specs.Procedure.Answer.{Act, Answer, done, stop, rest_in, and_then, refuse, mismatch, too_large}
use Rattle.aut68.specs.Expr.{Expr, Exprs, nil, cons, size, first_cell, parts}
use Rattle.aut68.specs.Lines.{Lines}
use Rattle.aut68.specs.Procedure.Compare.{Next, same, by_parts, step_left, step_right, next, Comparison, each, has_surplus, compare_parts}
use Rattle.aut68.specs.Procedure.PartsFirst.{differs, unless_equal, step_to, pass, passes, sides_first, parts_first_at}

-- a comparison never leaves more of the budget than there was
abbrev pub Spends : Comparison → Type 0
Spends c = (l r : Expr) (b : ℕ) → rest_in (c l r b) ≤ b

then_spends : (f : Unit {0} → Act ℕ (Unit {0})) (b : ℕ) (m : Answer ℕ (Unit {0}))
    → rest_in m ≤ b → ((u : Unit {0}) (s : ℕ) → rest_in (f u s) ≤ s) → rest_in (and_then f m) ≤ b
unfolding and_then rest_in
then_spends f b (done u s) h k = let q = k u s in omega arith
then_spends f b (stop r s) h k = h

each_spends : (deeper : Comparison) → Spends deeper → (xs ys : Exprs) (b : ℕ) → rest_in (each deeper xs ys b) ≤ b
unfolding each rest_in
each_spends deeper d nil nil b = omega arith
each_spends deeper d nil (cons y ys) b = omega arith
each_spends deeper d (cons x xs) nil b = omega arith
each_spends deeper d (cons x xs) (cons y ys) b = then_spends (λ _. each deeper xs ys) b (deeper x y b) (d x y b) (λ _ s. each_spends deeper d xs ys s)

pub parts_spend : (deeper : Comparison) → Spends deeper → Spends (compare_parts aut68 deeper)
unfolding compare_parts has_surplus rest_in
parts_spend deeper d l r b = go (eqb (first_cell l) (first_cell r))
  where
    go : (t : Bool) → rest_in ((elim t as (λ _. Act ℕ (Unit {0})) [ true ↦ each deeper (parts l) (parts r) | false ↦ refuse mismatch ]) b) ≤ b
    go true = each_spends deeper d (parts l) (parts r) b
    go false = omega arith

unless_spends : (go : Act ℕ (Unit {0})) (b : ℕ) (m : Answer ℕ (Unit {0})) → rest_in m ≤ b → ((s : ℕ) → rest_in (go s) ≤ s) → rest_in (unless_equal go m) ≤ b
unfolding unless_equal rest_in
unless_spends go b (done u s) h k = h
unless_spends go b (stop r s) h k = at (differs r)
  where
    at : (t : Bool) → rest_in {A = Unit {0}} (elim t [ true ↦ go s | false ↦ stop r s ]) ≤ b
    at true = let q = k s in omega arith
    at false = h

step_spends : (L : ℕ) (e : Expr) (go : Act ℕ (Unit {0})) → ((s : ℕ) → rest_in (go s) ≤ s) → (s : ℕ) → rest_in (step_to L e go s) ≤ s
unfolding step_to rest_in
step_spends L e go k zero = omega arith
step_spends L e go k (suc s) = at (leb (size e) L)
  where
    at : (t : Bool) → rest_in {A = Unit {0}} (elim t [ true ↦ go s | false ↦ stop too_large (suc s) ]) ≤ suc s
    at true = let q = k s in omega arith
    at false = omega arith

module _ (ls : Lines) (L : ℕ) where
  pass_spends : (deeper again : Comparison) → Spends deeper → Spends again → Spends (pass ls L deeper again)
  unfolding pass rest_in
  pass_spends deeper again d s l r b = go (next ls l r)
    where
      go : (x : Next)
          → rest_in {A = Unit {0}} (elim x [
            | same ↦ done tt b
            | by_parts ↦ compare_parts aut68 deeper l r b
            | step_left l' ↦ unless_equal (step_to L l' (again l' r)) (compare_parts aut68 deeper l r b)
            | step_right r' ↦ unless_equal (step_to L r' (again l r')) (compare_parts aut68 deeper l r b)
          ]) ≤ b
      go same = omega arith
      go by_parts = parts_spend deeper d l r b
      go (step_left l') = unless_spends _ b _ (parts_spend deeper d l r b) (step_spends L l' _ (s l' r))
      go (step_right r') = unless_spends _ b _ (parts_spend deeper d l r b) (step_spends L r' _ (s l r'))

  passes_spend : (deeper : Comparison) → Spends deeper → (n : ℕ) → Spends (passes ls L deeper n)
  unfolding passes rest_in
  passes_spend deeper d zero l r b = omega arith
  passes_spend deeper d (suc n) l r b = pass_spends deeper (passes ls L deeper n) d (passes_spend deeper d n) l r b

  pub parts_first_at_spends : (d : ℕ) → Spends (parts_first_at ls L d)
  unfolding parts_first_at sides_first rest_in
  parts_first_at_spends zero l r b = omega arith
  parts_first_at_spends (suc d) l r b = passes_spend (parts_first_at ls L d) (parts_first_at_spends d) (suc b) l r b

-- two ways to go on that are one for what can be left
unless_same : (go go' : Act ℕ (Unit {0})) (b : ℕ) (m : Answer ℕ (Unit {0})) → rest_in m ≤ b → ((s : ℕ) → s ≤ b → go s ≡ go' s) → unless_equal go m ≡ unless_equal go' m
unfolding unless_equal rest_in
unless_same go go' b (done u s) h k = refl
unless_same go go' b (stop r s) h k = at (differs r)
  where
    at : (t : Bool) → ◌≡◌ {A = Answer ℕ (Unit {0})} (elim t [ true ↦ go s | false ↦ stop r s ]) (elim t [ true ↦ go' s | false ↦ stop r s ])
    at true = k s h
    at false = refl

step_same : (L : ℕ) (e : Expr) (go go' : Act ℕ (Unit {0})) (s : ℕ) → ((t : ℕ) → t < s → go t ≡ go' t) → step_to L e go s ≡ step_to L e go' s
unfolding step_to
step_same L e go go' zero k = refl
step_same L e go go' (suc s) k = at (leb (size e) L)
  where
    at : (t : Bool) → ◌≡◌ {A = Answer ℕ (Unit {0})} (elim t [ true ↦ go s | false ↦ stop too_large (suc s) ]) (elim t [ true ↦ go' s | false ↦ stop too_large (suc s) ])
    at true = k s (omega arith)
    at false = refl

module _ (ls : Lines) (L : ℕ) (deeper : Comparison) (d : Spends deeper) where
  -- a pass asks `again` only for smaller budgets
  pub pass_same : (again again' : Comparison) (l r : Expr) (b : ℕ) → ((l r : Expr) (c : ℕ) → c < b → again l r c ≡ again' l r c)
      → pass ls L deeper again l r b ≡ pass ls L deeper again' l r b
  unfolding pass
  pass_same again again' l r b k = go (next ls l r)
    where
      go : (x : Next)
          → ◌≡◌ {A = Answer ℕ (Unit {0})}
          (elim x [
            | same ↦ done tt b
            | by_parts ↦ compare_parts aut68 deeper l r b
            | step_left l' ↦ unless_equal (step_to L l' (again l' r)) (compare_parts aut68 deeper l r b)
            | step_right r' ↦ unless_equal (step_to L r' (again l r')) (compare_parts aut68 deeper l r b)
          ])
          (elim x [
            | same ↦ done tt b
            | by_parts ↦ compare_parts aut68 deeper l r b
            | step_left l' ↦ unless_equal (step_to L l' (again' l' r)) (compare_parts aut68 deeper l r b)
            | step_right r' ↦ unless_equal (step_to L r' (again' l r')) (compare_parts aut68 deeper l r b)
          ])
      go same = refl
      go by_parts = refl
      go (step_left l') = unless_same _ _ b _ (parts_spend deeper d l r b) (λ s h. step_same L l' _ _ s (λ t g. k l' r t (omega arith)))
      go (step_right r') = unless_same _ _ b _ (parts_spend deeper d l r b) (λ s h. step_same L r' _ _ s (λ t g. k l r' t (omega arith)))

  -- more passes than there are steps left: as many as one likes
  pub enough_passes : (m n : ℕ) (l r : Expr) (b : ℕ) → b < m → b < n → passes ls L deeper m l r b ≡ passes ls L deeper n l r b
  unfolding passes
  enough_passes zero n l r b p q = absurd (omega arith)
  enough_passes (suc m) zero l r b p q = absurd (omega arith)
  enough_passes (suc m) (suc n) l r b p q =
      pass_same (passes ls L deeper m) (passes ls L deeper n) l r b (λ l r c h. enough_passes m n l r c (omega arith) (omega arith))

  -- the loop, as the paper has it
  pub sides_first_loop : (l r : Expr) (b : ℕ) → sides_first ls L deeper l r b ≡ pass ls L deeper (sides_first ls L deeper) l r b
  unfolding sides_first passes
  sides_first_loop l r b = pass_same (passes ls L deeper b) (sides_first ls L deeper) l r b (λ l r c h. enough_passes b (suc c) l r c h (omega arith))

pub parts_first_loop : (ls : Lines) (L d : ℕ) (l r : Expr) (b : ℕ)
    → parts_first_at ls L (suc d) l r b ≡ pass ls L (parts_first_at ls L d) (parts_first_at ls L (suc d)) l r b
unfolding parts_first_at
parts_first_loop ls L d l r b = sides_first_loop ls L (parts_first_at ls L d) (parts_first_at_spends ls L d) l r b
