-- What stands for a leaf of an expression that is lifted or substituted in.
use Prim.Native.Nat.{ℕ, ◌+◌, ◌*◌, ◌-◌, ◌≤◌, ◌<◌, ◌%◌, ◌/◌}
use mathlib.Core.Path.{◌≡◌, ap}
use mathlib.Core.List.{List, [], ◌∷◌}
use native.Mathlib.Omega.{arith}
use native.Mathlib.Numerals.{sub-one}
use borrow.Author.Tests.{le-leb, lt-leb, eq-eqb, ne_eqb}
use Rattle.aut68.specs.Sizes.{cell_factor}
use Rattle.aut68.specs.Expr.{Expr, bound, first_cell, cells}
use Rattle.aut68.specs.Substitution.{lift, substitute_bound, substitute}
use Rattle.lookup.specs.Lifting.{lift_below, lift_above}
use Rattle.cells.specs.Cells.{Below}
use Rattle.terms.specs.Kinds.{of_leaf, of_bound_lem}
use Rattle.terms.specs.declared.leaves.Change.{Change}
use Rattle.terms.specs.declared.leaves.Change.TheVariants.{Lift, Substitute}
use Rattle.terms.specs.Grafts.{Choice, graft, Stands, raises, substitutes_one, Put}

-- ---- substitution

-- what stands for the bound variable i, seen from under c bindings
substitute_low : (y : Expr) (c i : ℕ) → i < c → substitute_bound y c i ≡ bound i
unfolding substitute_bound
substitute_low y c i h =
    let n : i ≡ c → ⊥ = λ z. omega arith in
    rw (ne_eqb i c n, substitute_bound, lt-leb c i h)

substitute_high : (y : Expr) (c i : ℕ) → c < i → substitute_bound y c i ≡ bound (i - 1)
unfolding substitute_bound
substitute_high y c i h =
    let n : i ≡ c → ⊥ = λ z. omega arith in
    let l : c ≤ i = omega arith in
    rw (ne_eqb i c n, substitute_bound, le-leb c i l, sub-one)

substitute_here : (y : Expr) (c i : ℕ) → i ≡ c → substitute_bound y c i ≡ lift c 0 y
unfolding substitute_bound
substitute_here y c i h = rw (eq-eqb i c h, substitute_bound)

-- ---- the leaf x, lifted or with an expression put in

-- by how much
same_lift : {change : Change} {d n : ℕ} → change ≡ Lift d → change ≡ Lift n → d ≡ n
same_lift p q = cc

no_lift : {change : Change} {d n : ℕ} {A : Type 0} → change ≡ Lift d → change ≡ Substitute n → A
no_lift p q = let z : ◌≡◌ {A = ℕ} 0 1 = cc in absurd (omega arith)

-- which expression
same_number : {change : Change} {d n : ℕ} → change ≡ Substitute d → change ≡ Substitute n → d ≡ n
same_number p q = cc

module _ {tb : List ℕ} {change : Change} {low : List ℕ} (cut x : ℕ) where
  -- `type` and variables stay
  pub other_stays : {k : Choice} → x % cell_factor < 3 → (x % cell_factor ≡ 2 → ⊥) → Stands tb change low k → (e : Expr) → first_cell e ≡ x
      → cells (graft k cut e) ≡ x ∷ []
  unfolding graft lift substitute cells first_cell
  other_stays l ne (raises {d} _) e xe =
      of_leaf (λ e. first_cell e ≡ x → cells (lift d cut e) ≡ x ∷ []) (λ q. ap (λ (c : ℕ). c ∷ []) q) (λ v q. ap (λ (c : ℕ). c ∷ []) q)
      (λ i q. absurd (ne (omega arith))) e (rw xe l) xe
  other_stays l ne (substitutes_one {y} _ _ _) e xe =
      of_leaf (λ e. first_cell e ≡ x → cells (substitute y cut e) ≡ x ∷ []) (λ q. ap (λ (c : ℕ). c ∷ []) q) (λ v q. ap (λ (c : ℕ). c ∷ []) q)
      (λ i q. absurd (ne (omega arith))) e (rw xe l) xe

  -- and variables bound inside
  pub low_stays : {k : Choice} → x % cell_factor ≡ 2 → x / cell_factor < cut → Stands tb change low k → (e : Expr) → first_cell e ≡ x
      → cells (graft k cut e) ≡ x ∷ []
  unfolding graft lift substitute cells first_cell
  low_stays is2 l (raises {d} _) e xe =
      of_bound_lem (λ e. first_cell e ≡ x → cells (lift d cut e) ≡ x ∷ [])
      (λ i q. let j : i < cut = omega arith in rw (lift_below d cut i j) (ap (λ (c : ℕ). c ∷ []) q)) e (rw xe is2) xe
  low_stays is2 l (substitutes_one {y} _ _ _) e xe =
      of_bound_lem (λ e. first_cell e ≡ x → cells (substitute y cut e) ≡ x ∷ [])
      (λ i q. let j : i < cut = omega arith in rw (substitute_low y cut i j) (ap (λ (c : ℕ). c ∷ []) q))
      e (rw xe is2) xe

  module _ {by : ℕ} (is : change ≡ Lift by) (is2 : x % cell_factor ≡ 2) (l : cut ≤ x / cell_factor) where
    -- a bound variable is lifted
    pub lift_high : {k : Choice} → Stands tb change low k → (e : Expr) → first_cell e ≡ x → cells (graft k cut e) ≡ (x + cell_factor * by) ∷ []
    unfolding graft lift cells first_cell
    lift_high (raises {d} q) e xe =
        let same : d ≡ by = same_lift q is in
        of_bound_lem (λ e. first_cell e ≡ x → cells (lift d cut e) ≡ (x + cell_factor * by) ∷ [])
        (λ i q. let j : cut ≤ i = omega arith in rw (lift_above d cut i j) (ap (λ (c : ℕ). c ∷ []) (omega arith))) e (rw xe is2) xe
    lift_high (substitutes_one q _ _) e xe = no_lift is q

    pub lift_too_high : {top : ℕ} {k : Choice} → top ≤ x + cell_factor * by → Stands tb change low k → (e : Expr) → first_cell e ≡ x
        → Below top (cells (graft k cut e)) → ⊥
    unfolding Below
    lift_too_high {top} h r e xe b =
        let b' : Below top ((x + cell_factor * by) ∷ []) = rw (lift_high r e xe) at b in
        omega (arith, b'.0)

  module _ {number : ℕ} (is : change ≡ Substitute number) (is2 : x % cell_factor ≡ 2) where
    -- one bound outside the binding that goes
    pub bound_high : {k : Choice} → cut < x / cell_factor → Stands tb change low k → (e : Expr) → first_cell e ≡ x
        → cells (graft k cut e) ≡ (x - cell_factor) ∷ []
    unfolding graft substitute cells first_cell
    bound_high l (raises q) e xe = no_lift q is
    bound_high l (substitutes_one {number = n} {y} _ _ _) e xe =
        of_bound_lem (λ e. first_cell e ≡ x → cells (substitute y cut e) ≡ (x - cell_factor) ∷ [])
        (λ i q. let j : cut < i = omega arith in rw (substitute_high y cut i j) (ap (λ (c : ℕ). c ∷ []) (omega arith)))
        e (rw xe is2) xe

    -- the variable of that binding: what is put in, moved under the bindings between
    pub bound_here : {k : Choice} → x / cell_factor ≡ cut → Stands tb change low k → (e : Expr) → first_cell e ≡ x → Put tb low number cut (graft k cut e)
    unfolding graft substitute first_cell
    bound_here here (raises q) e xe = no_lift q is
    bound_here here (substitutes_one {number = n} {y} {ry} q wy lies) e xe = record {
      whole = y;
      rest = ry;
      formed = wy;
      lies = rw (same_number q is) at lies;
      is = of_bound_lem (λ e. first_cell e ≡ x → substitute y cut e ≡ lift cut 0 y) (λ j q. substitute_here y cut j (omega arith)) e (rw xe is2) xe;
    }
