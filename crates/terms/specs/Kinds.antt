-- Which expression a first cell tells, by its kind.
use Rattle.std.specs.Prelude.{◌≡◌, refl, ℕ, ◌%◌, ◌≤◌, ◌<◌}
use Rattle.std.proofs.Common.{arith}
use Rattle.aut68.specs.Sizes.{cell_factor}
use Rattle.aut68.specs.Expr.{Expr, Exprs, type, prop, var, bound, const, app, abs, first_cell}

module _ (G : Expr → Type 0) where
  pub of_variable_lem : ((v : ℕ) → G (var v)) → (e : Expr) → first_cell e % cell_factor ≡ 1 → G e
  unfolding first_cell
  of_variable_lem g type h = absurd (omega arith)
  of_variable_lem g prop h = absurd (omega arith)
  of_variable_lem g (var v) h = g v
  of_variable_lem g (bound i) h = absurd (omega arith)
  of_variable_lem g (const v xs) h = absurd (omega arith)
  of_variable_lem g (app a b) h = absurd (omega arith)
  of_variable_lem g (abs p t) h = absurd (omega arith)

  pub of_bound_lem : ((i : ℕ) → G (bound i)) → (e : Expr) → first_cell e % cell_factor ≡ 2 → G e
  unfolding first_cell
  of_bound_lem g type h = absurd (omega arith)
  of_bound_lem g prop h = absurd (omega arith)
  of_bound_lem g (var v) h = absurd (omega arith)
  of_bound_lem g (bound i) h = g i
  of_bound_lem g (const v xs) h = absurd (omega arith)
  of_bound_lem g (app a b) h = absurd (omega arith)
  of_bound_lem g (abs p t) h = absurd (omega arith)

  pub of_abstraction_lem : ((p t : Expr) → G (abs p t)) → (e : Expr) → first_cell e % cell_factor ≡ 5 → G e
  unfolding first_cell
  of_abstraction_lem g type h = absurd (omega arith)
  of_abstraction_lem g prop h = absurd (omega arith)
  of_abstraction_lem g (var v) h = absurd (omega arith)
  of_abstraction_lem g (bound i) h = absurd (omega arith)
  of_abstraction_lem g (const v xs) h = absurd (omega arith)
  of_abstraction_lem g (app a b) h = absurd (omega arith)
  of_abstraction_lem g (abs p t) h = g p t

  -- a leaf: `type`, a variable, a bound variable
  pub of_leaf : G type → ((v : ℕ) → G (var v)) → ((i : ℕ) → G (bound i)) → (e : Expr) → first_cell e % cell_factor < 3 → G e
  unfolding first_cell
  of_leaf g₀ g₁ g₂ type h = g₀
  of_leaf g₀ g₁ g₂ prop h = absurd (omega arith)
  of_leaf g₀ g₁ g₂ (var v) h = g₁ v
  of_leaf g₀ g₁ g₂ (bound i) h = g₂ i
  of_leaf g₀ g₁ g₂ (const v xs) h = absurd (omega arith)
  of_leaf g₀ g₁ g₂ (app a b) h = absurd (omega arith)
  of_leaf g₀ g₁ g₂ (abs p t) h = absurd (omega arith)

  -- `prop`, a constant or an application: a cell that stays as it is, before its parts
  pub of_branch : G prop → ((v : ℕ) (xs : Exprs) → G (const v xs)) → ((a b : Expr) → G (app a b)) → (e : Expr) → 3 ≤ first_cell e % cell_factor
      → (first_cell e % cell_factor ≡ 5 → ⊥) → G e
  unfolding first_cell
  of_branch g₆ g₃ g₄ type h n = absurd (omega arith)
  of_branch g₆ g₃ g₄ prop h n = g₆
  of_branch g₆ g₃ g₄ (var v) h n = absurd (omega arith)
  of_branch g₆ g₃ g₄ (bound i) h n = absurd (omega arith)
  of_branch g₆ g₃ g₄ (const v xs) h n = g₃ v xs
  of_branch g₆ g₃ g₄ (app a b) h n = g₄ a b
  of_branch g₆ g₃ g₄ (abs p t) h n = absurd (n refl)
