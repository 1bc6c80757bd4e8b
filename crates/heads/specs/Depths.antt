-- How deep abstractions nest in an expression, and that its cells are numbers of a width, by how many lines there are.
use Rattle.std.specs.Prelude.{ℕ, suc, ◌+◌, ◌-◌, ◌*◌, ◌≤◌, ◌<◌, length}
use native.Mathlib.Omega.{arith}
use Rattle.aut68.specs.Sizes.{cell_factor}
use Rattle.aut68.specs.Expr.{Expr, Exprs, type, prop, var, bound, const, app, abs, nil, cons, size, sizes, cells, cellss}
use Rattle.aut68.specs.Lines.{Lines}
use Rattle.aut68.specs.Rules.Resolved.{Scoped, AllScoped, ConstantOf, VariableLine}
use Rattle.lookup.specs.LineNumbers.{line_within}
use Rattle.calculus.specs.Scoped.{ScopedCategory}
use Rattle.calculus.specs.Resolved.{KnownCategory}
use Rattle.cells.specs.Cells.{Below}
use Rattle.cells.specs.Widths.{below_append}
use Rattle.cells.specs.Forests.{size_positive}

-- abstractions nest at most d deep
unfoldable mutual
  pub Deep : ℕ → Expr → Type 0
  Deep d type = Unit {0}
  Deep d prop = Unit {0}
  Deep d (var v) = Unit {0}
  Deep d (bound i) = Unit {0}
  Deep d (const v xs) = AllDeep d xs
  Deep d (app a b) = Deep d a × Deep d b
  Deep d (abs p t) = Deep d p × (1 ≤ d) × Deep (d - 1) t

  pub AllDeep : ℕ → Exprs → Type 0
  AllDeep d nil = Unit {0}
  AllDeep d (cons a xs) = Deep d a × AllDeep d xs

mutual
  unfolding Deep

  pub deep_more : {c d : ℕ} → c ≤ d → (e : Expr) → Deep c e → Deep d e
  deep_more l type h = tt
  deep_more l prop h = tt
  deep_more l (var v) h = tt
  deep_more l (bound i) h = tt
  deep_more l (const v xs) h = all_deep_more l xs h
  deep_more l (app a b) h = (deep_more l a h.0, deep_more l b h.1)
  deep_more l (abs p t) h = (deep_more l p h.0, omega arith, deep_more (omega arith) t h.2)

  pub all_deep_more : {c d : ℕ} → c ≤ d → (es : Exprs) → AllDeep c es → AllDeep d es
  all_deep_more l nil h = tt
  all_deep_more l (cons a xs) h = (deep_more l a h.0, all_deep_more l xs h.1)

-- an abstraction has two cells besides its body's
mutual
  unfolding Deep size

  pub deep_size : (d : ℕ) (e : Expr) → size e ≤ 2 * d + 1 → Deep d e
  deep_size d type h = tt
  deep_size d prop h = tt
  deep_size d (var v) h = tt
  deep_size d (bound i) h = tt
  deep_size d (const v xs) h = all_deep_size d xs (omega arith)
  deep_size d (app a b) h = (deep_size d a (omega arith), deep_size d b (omega arith))
  deep_size d (abs p t) h = (
    deep_size d p (omega arith),
    omega (arith, size_positive p, size_positive t),
    deep_size (d - 1) t (omega (arith, size_positive p, size_positive t)),
  )

  pub all_deep_size : (d : ℕ) (es : Exprs) → sizes es ≤ 2 * d + 1 → AllDeep d es
  all_deep_size d nil h = tt
  all_deep_size d (cons a xs) h = (deep_size d a (omega arith), all_deep_size d xs (omega arith))

-- ---- the cells

-- under k bindings and d deep, with the numbers of lines below n
module _ (X : ℕ → Type 0) (C : ℕ → ℕ → Type 0) (n : ℕ) (f : (v : ℕ) → X v → v < n) (g : (v m : ℕ) → C v m → v < n) (pos : 1 ≤ n) where
  mutual
    unfolding Scoped Deep cells Below

    pub deep_below : (k d : ℕ) (e : Expr) → Scoped X C k e → Deep d e → k + d ≤ n → Below (cell_factor * n) (cells e)
    deep_below k d type w h l = absurd w
    deep_below k d prop w h l = absurd w
    deep_below k d (var v) w h l = let m = f v w in (omega arith, tt)
    deep_below k d (bound i) w h l = (omega arith, tt)
    deep_below k d (const v xs) w h l = let m = g v _ w.0 in (omega arith, all_deep_below k d xs w.1 h l)
    deep_below k d (app a b) w h l =
        let q = below_append (cell_factor * n) (cells a) (cells b) (deep_below k d a w.0 h.0 l) (deep_below k d b w.1 h.1 l) in
        (omega arith, q)
    deep_below k d (abs p t) w h l =
        let q = below_append (cell_factor * n) (cells p) (cells t) (deep_below k d p w.0 h.0 l) (deep_below (suc k) (d - 1) t w.1 h.2 (omega arith)) in
        (omega arith, q)

    all_deep_below : (k d : ℕ) (es : Exprs) → AllScoped X C k es → AllDeep d es → k + d ≤ n → Below (cell_factor * n) (cellss es)
    all_deep_below k d nil w h l = tt
    all_deep_below k d (cons a xs) w h l =
        below_append (cell_factor * n) (cells a) (cellss xs) (deep_below k d a w.0 h.0 l) (all_deep_below k d xs w.1 h.1 l)

  pub category_below : (k d : ℕ) (e : Expr) → ScopedCategory X C k e → Deep d e → k + d ≤ n → Below (cell_factor * n) (cells e)
  unfolding Scoped ScopedCategory Deep cells Below
  category_below k d type w h l = (omega arith, tt)
  category_below k d prop w h l = (omega arith, tt)
  category_below k d (var v) w h l = deep_below k d (var v) w h l
  category_below k d (bound i) w h l = deep_below k d (bound i) w h l
  category_below k d (const v xs) w h l = deep_below k d (const v xs) w h l
  category_below k d (app a b) w h l = deep_below k d (app a b) w h l
  category_below k d (abs p t) w h l =
      let q = below_append (cell_factor * n) (cells p) (cells t) (deep_below k d p w.0 h.0 l) (category_below (suc k) (d - 1) t w.1 h.2 (omega arith)) in
      (omega arith, q)

-- ---- fewer than n lines, whatever the width of a cell

pub lines_below : (ls : Lines) (n : ℕ) → length ls < n → (k d : ℕ) (e : Expr) → KnownCategory ls k e → Deep d e → k + d ≤ n → Below (cell_factor * n) (cells e)
lines_below ls n few =
    category_below (VariableLine ls) (ConstantOf ls) n (λ v x. small v (line_within x.is_line)) (λ v m x. small v (line_within x.is_line)) (omega arith)
  where
    small : (v : ℕ) → v ≤ length ls → v < n
    small v r = omega arith
