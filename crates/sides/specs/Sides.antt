-- Two expressions in one store: their cells are the same exactly where they are identical.
use Rattle.std.specs.Prelude.{◌≡◌, refl, Bool, true, false, List, ℕ, ◌+◌, ◌*◌}
use Rattle.std.proofs.Common.{sym, ap, subst, ◌∙◌, arith, eq-eqb}
use Rattle.aut68.specs.Sizes.{cell_factor}
use Rattle.aut68.specs.Expr.{Expr, Exprs, type, prop, var, bound, const, app, abs, nil, cons, size, cells, first_cell, parts, first_part, second_part, identical, identicals}
use Rattle.calculus.specs.Shapes.{identical_same}
use Rattle.cells.specs.Cells.{At, Wf, same_cells}
use Rattle.cells.specs.SameCells.{same_cells_same, same_cells_differ}

both : {a b : Bool} → a ≡ true → b ≡ true → elim a as (λ _. Bool) [ true ↦ b | false ↦ false ] ≡ true
both {a} {b} p q = subst (λ t. elim t as (λ _. Bool) [ true ↦ b | false ↦ false ] ≡ true) (sym p) q

mutual
  unfolding identical first_cell parts first_part second_part

  pub identical_self : (e : Expr) → identical e e ≡ true
  identical_self type = refl
  identical_self prop = refl
  identical_self (var v) = eq-eqb (cell_factor * v + 1) (cell_factor * v + 1) refl
  identical_self (bound i) = eq-eqb (cell_factor * i + 2) (cell_factor * i + 2) refl
  identical_self (const v xs) = both (eq-eqb (cell_factor * v + 3) (cell_factor * v + 3) refl) (identicals_self xs)
  identical_self (app a b) = both (identical_self a) (identical_self b)
  identical_self (abs p t) = both (identical_self p) (identical_self t)

  identicals_self : (es : Exprs) → identicals es es ≡ true
  identicals_self nil = refl
  identicals_self (cons a xs) = both (identical_self a) (identicals_self xs)

differ : {e f : Expr} → identical e f ≡ false → e ≡ f → ⊥
differ {e} {f} q r =
    let h : true ≡ false = sym (identical_self e) ∙ ap (identical e) r ∙ q in
    let z : ◌≡◌ {A = ℕ} 0 1 = cc in
    omega arith

pub same_cells_identical : (tb : List ℕ) {w : List ℕ} {a b : ℕ} (e f : Expr) {n : ℕ} {ra rb : List ℕ} → Wf tb e → Wf tb f → size e ≡ n → size f ≡ n
    → At w a (cells e) ra → At w b (cells f) rb → same_cells w a b n ≡ identical e f
same_cells_identical tb {w} {a} {b} e f {n} we wf se sf pa pb = go (identical e f) refl
  where
    go : (t : Bool) → identical e f ≡ t → same_cells w a b n ≡ identical e f
    go true q = same_cells_same tb e f we wf se sf pa pb (identical_same e f q) ∙ sym q
    go false q = same_cells_differ tb e f we wf se sf pa pb (λ r. differ q r) ∙ sym q
