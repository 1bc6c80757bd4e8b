-- What stands for a cell of an expression with arguments put in, outside every binding.
use Prim.Native.Nat.{ℕ, ◌+◌, ◌-◌, ◌%◌, ◌/◌, ◌≤◌, ◌<◌}
use mathlib.Core.Path.{◌≡◌, refl, sym, ap, ap₂, ◌∙◌}
use mathlib.Core.List.{List, [], ◌∷◌, ◌++◌, append-nil}
use native.Mathlib.Numerals.{add-one}
use native.Mathlib.Omega.{arith}
use lib.ListN.{length, get_or, take, drop}
use Rattle.aut68.specs.Lines.{row_cell}
use Rattle.aut68.specs.Sizes.{cell_factor, cell_values, at_context}
use Rattle.aut68.specs.Expr.{Expr, Exprs, type, prop, var, bound, const, app, abs, nil, size, first_cell, parts, cells, cellss}
use Rattle.aut68.specs.Substitution.{instantiate, instantiates}
use Rattle.calculus.specs.Cutoffs.{lift_0_0}
use Rattle.terms.specs.Made.{start_of}
use Rattle.terms.specs.Starts.{start_next, Split, split, argument_within, argument_taken}
use Rattle.terms.specs.Kinds.{of_variable_lem}
use Rattle.terms.specs.Grafts.{instantiating, Fit}
use Rattle.matching.specs.Runs.{Stays, Replaced}
use Rattle.terms.proofs.VariableLaws.{no_argument_cells, argument_put}

-- a cell that is neither a variable's nor an abstraction's stays
other_cells : (vs : List ℕ) (xs : Exprs) (x : ℕ) → (x % cell_factor ≡ 1 → ⊥) → (x % cell_factor ≡ 5 → ⊥) → (e : Expr) → first_cell e ≡ x
    → cells (instantiate vs xs 0 e) ≡ x ∷ cellss (instantiates vs xs 0 (parts e))
unfolding instantiate instantiates parts cells cellss first_cell
other_cells vs xs x n₁ n₅ type q = ap (λ (c : ℕ). c ∷ []) q
other_cells vs xs x n₁ n₅ prop q = ap (λ (c : ℕ). c ∷ []) q
other_cells vs xs x n₁ n₅ (var v) q = absurd (n₁ (omega arith))
other_cells vs xs x n₁ n₅ (bound i) q = ap (λ (c : ℕ). c ∷ []) q
other_cells vs xs x n₁ n₅ (const v bs) q = ap (λ (c : ℕ). c ∷ cellss (instantiates vs xs 0 bs)) q
other_cells vs xs x n₁ n₅ (app a b) q =
    ap₂ (λ (c : ℕ) (l : List ℕ). c ∷ cells (instantiate vs xs 0 a) ++ l) q (sym (append-nil (cells (instantiate vs xs 0 b))))
other_cells vs xs x n₁ n₅ (abs p t) q = absurd (n₅ (omega arith))

variable_parts : (x : ℕ) → x % cell_factor ≡ 1 → (e : Expr) → first_cell e ≡ x → parts e ≡ nil
unfolding parts
variable_parts x is1 e q = of_variable_lem (λ e. parts e ≡ nil) (λ v. refl) e (rw q is1)

module _ (tb : List ℕ) (x count : ℕ) where
  pub run_other : (x % cell_factor ≡ 1 → ⊥) → Stays tb x count
  run_other n₁ = record { is = λ n₅ vs xs c e q f. other_cells vs xs x n₁ n₅ e q }

  pub run_itself : x % cell_factor ≡ 1 → count ≤ row_cell tb (x / cell_factor) at_context → Stays tb x count
  unfolding instantiates cellss
  run_itself is1 h = record {
    is = λ n₅ vs xs c e q f.
        no_argument_cells tb 0 x vs xs is1 (rw c h) e q f
        ∙ ap (λ (es : Exprs). x ∷ cellss (instantiates vs xs 0 es)) (sym (variable_parts x is1 e q));
  }

  pub run_argument : (starts : List ℕ) (i : ℕ) {first next : ℕ} → x % cell_factor ≡ 1 → i ≡ row_cell tb (x / cell_factor) at_context → i < count → i < 63
      → first ≡ get_or starts i 0 → next ≡ get_or starts (i + 1) 0
      → first < cell_values → first < next → Replaced tb x count starts first (next - first)
  run_argument starts i {first} {next} is1 n l k a b s p = record {
    short = s;
    is = λ vs xs c S e q f.
        let r = split xs i (omega (arith, c)) in
        put vs xs e q f r (a ∙ S.place i (omega (arith, c)) (omega arith))
        (b ∙ S.place (i + 1) (omega (arith, c)) (omega arith) ∙ ap (start_of xs) (add-one i) ∙ start_next xs i r.argument r.found);
  }
    where
      put : (vs : List ℕ) (xs : Exprs) (e : Expr) → first_cell e ≡ x → Fit tb (instantiating vs xs) e → (r : Split xs i) → first ≡ start_of xs i
          → next ≡ start_of xs i + size r.argument
          → (parts e ≡ nil) × (first + (next - first) ≤ length (cellss xs)) × (cells (instantiate vs xs 0 e) ≡ take (next - first) (drop first (cellss xs)))
      put vs xs e q f r starts-at ends_at =
          let len : next - first ≡ size r.argument = omega arith in (
            variable_parts x is1 e q,
            omega (arith, argument_within r),
            ap cells (argument_put tb 0 x vs xs is1 (sym n) r e q f ∙ lift_0_0 r.argument)
                ∙ sym (argument_taken r)
                ∙ ap₂ (λ (k j : ℕ). take k (drop j (cellss xs))) (sym len) (sym starts-at),
          )
