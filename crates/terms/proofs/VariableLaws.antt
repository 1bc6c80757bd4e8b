-- What instantiation leaves of a context variable.
use Prim.Native.Nat.{ℕ, zero, suc, ◌≤◌, ◌%◌, ◌/◌}
use mathlib.Core.Path.{◌≡◌, refl, sym, ap, ◌∙◌}
use mathlib.Core.Option.{none, some}
use mathlib.Core.List.{List, [], ◌∷◌}
use native.Mathlib.Omega.{arith}
use Rattle.aut68.specs.Lines.{row_cell}
use Rattle.aut68.specs.Sizes.{cell_factor, at_context}
use Rattle.aut68.specs.Expr.{Expr, Exprs, nil, cons, first_cell, cells, count_exprs}
use Rattle.aut68.specs.Substitution.{lift, argument_for, instantiate_variable, instantiate}
use Rattle.cells.specs.Cells.{Formed, RightCount}
use Rattle.terms.specs.Made.{argument_at, Numbered}
use Rattle.terms.specs.Starts.{Split}
use Rattle.terms.specs.Kinds.{of_variable_lem}
use Rattle.terms.specs.Grafts.{instantiating, Fit}

no_argument : (xs : Exprs) (i : ℕ) → count_exprs xs ≤ i → argument_at xs i ≡ none
unfolding count_exprs argument_at
no_argument nil i h = refl
no_argument (cons a xs) zero h = absurd (omega arith)
no_argument (cons a xs) (suc i) h = no_argument xs i (omega arith)

-- what instantiation leaves of a context variable: itself where there are too few arguments, or its argument, lifted
pub no_argument_cells : (tb : List ℕ) (cut x : ℕ) (vs : List ℕ) (xs : Exprs) → x % cell_factor ≡ 1 → count_exprs xs ≤ row_cell tb (x / cell_factor) at_context → (e : Expr) → first_cell e ≡ x
    → Fit tb (instantiating vs xs) e → cells (instantiate vs xs cut e) ≡ x ∷ []
unfolding instantiate cells first_cell Formed instantiate_variable
no_argument_cells tb cut x vs xs is1 l e xe f =
    of_variable_lem (λ e. first_cell e ≡ x → Formed (Numbered tb vs xs) (RightCount tb) e → cells (instantiate vs xs cut e) ≡ x ∷ [])
    (λ v q n.
    let h : x / cell_factor ≡ v = omega arith in
    let m : count_exprs xs ≤ row_cell tb v at_context = rw h at l in
    rw (n, no_argument xs (row_cell tb v at_context) m) (ap (λ (c : ℕ). c ∷ []) q))
    e (rw xe is1) xe f

pub argument_put : (tb : List ℕ) (cut x : ℕ) (vs : List ℕ) (xs : Exprs) → x % cell_factor ≡ 1 → {i : ℕ} → row_cell tb (x / cell_factor) at_context ≡ i → (r : Split xs i) → (e : Expr)
    → first_cell e ≡ x → Fit tb (instantiating vs xs) e → instantiate vs xs cut e ≡ lift cut 0 r.argument
unfolding instantiate first_cell Formed instantiate_variable
argument_put tb cut x vs xs is1 row r e xe f =
    of_variable_lem (λ e. first_cell e ≡ x → Formed (Numbered tb vs xs) (RightCount tb) e → instantiate vs xs cut e ≡ lift cut 0 r.argument)
    (λ v q n.
    let h : x / cell_factor ≡ v = omega arith in
    let m : argument_for v vs xs ≡ some r.argument = n ∙ ap (λ (u : ℕ). argument_at xs (row_cell tb u at_context)) (sym h) ∙ ap (argument_at xs) row ∙ r.found in
    rw m)
    e (rw xe is1) xe f
