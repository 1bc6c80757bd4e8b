-- Which cells name a line, and which lines: those of variables and constants.
use Rattle.std.specs.Prelude.{◌≡◌, refl, ◌⊎◌, ◌≢◌, Bool, true, false, ◌||◌, List, [], ◌∷◌, ◌++◌, ℕ, ◌+◌, ◌*◌, ◌/◌, ◌%◌, ◌<◌, eqb}
use Rattle.std.proofs.Common.{ap, ap₂, ◌∙◌, inl, inr, arith, ne_eqb}
use Rattle.aut68.specs.Sizes.{cell_factor}
use Rattle.aut68.specs.Expr.{Expr, Exprs, type, prop, var, bound, const, app, abs, nil, cons, cells, cellss}
use Rattle.aut68.specs.Lines.{Line, Kind, variable, primitive, abbreviation, kind_cells, line_cells}
use Rattle.aut68.specs.Index.{mentioned, mentioned_in, mentioned_in_middle}

-- a variable or a constant
unfoldable pub names_line : ℕ → Bool
names_line x = eqb (x % cell_factor) 1 || eqb (x % cell_factor) 3

-- the lines that cells name, from the left
unfoldable pub numbers_in : List ℕ → List ℕ
numbers_in [] = []
numbers_in (x ∷ xs) = elim (names_line x) [ true ↦ (x / cell_factor) ∷ numbers_in xs | false ↦ numbers_in xs ]

-- ---- the cells of an expression name the lines that it mentions

pub numbers_append : (xs ys : List ℕ) → numbers_in (xs ++ ys) ≡ numbers_in xs ++ numbers_in ys
unfolding numbers_in
numbers_append [] ys = refl
numbers_append (x ∷ xs) ys = at (names_line x) (numbers_append xs ys)
  where
    at : (t : Bool) → numbers_in (xs ++ ys) ≡ numbers_in xs ++ numbers_in ys
        → elim t as (λ _. List ℕ) [ true ↦ (x / cell_factor) ∷ numbers_in (xs ++ ys) | false ↦ numbers_in (xs ++ ys) ]
        ≡ elim t as (λ _. List ℕ) [ true ↦ (x / cell_factor) ∷ numbers_in xs | false ↦ numbers_in xs ] ++ numbers_in ys
    at true h = ap (◌∷◌ (x / cell_factor)) h
    at false h = h

-- a cell 8 × v + k
number_one : (x v : ℕ) (xs : List ℕ) → names_line x ≡ true → x / cell_factor ≡ v → numbers_in (x ∷ xs) ≡ v ∷ numbers_in xs
unfolding numbers_in
number_one x v xs t e = rw (t, numbers_in) (ap (λ (y : ℕ). y ∷ numbers_in xs) e)

number_none : (x : ℕ) (xs : List ℕ) → names_line x ≡ false → numbers_in (x ∷ xs) ≡ numbers_in xs
unfolding numbers_in
number_none x xs t = rw (t, numbers_in)

kind_is_lem : (v k : ℕ) → k < 8 → (cell_factor * v + k) % cell_factor ≡ k
kind_is_lem v k h = omega arith

variable_names : (v : ℕ) → names_line (cell_factor * v + 1) ≡ true
unfolding names_line
variable_names v = rw (kind_is_lem v 1 (omega arith), names_line)

constant_names : (v : ℕ) → names_line (cell_factor * v + 3) ≡ true
unfolding names_line
constant_names v = rw (kind_is_lem v 3 (omega arith), names_line)

bound_names_lem : (i : ℕ) → names_line (cell_factor * i + 2) ≡ false
unfolding names_line
bound_names_lem i = rw (kind_is_lem i 2 (omega arith), names_line)

mutual
  unfolding mentioned cells numbers_in names_line

  numbers_cells : (e : Expr) → numbers_in (cells e) ≡ mentioned e
  numbers_cells type = refl
  numbers_cells prop = refl
  numbers_cells (var v) = number_one (cell_factor * v + 1) v [] (variable_names v) (omega arith)
  numbers_cells (bound i) = number_none (cell_factor * i + 2) [] (bound_names_lem i)
  numbers_cells (const v xs) = number_one (cell_factor * v + 3) v (cellss xs) (constant_names v) (omega arith) ∙ ap (◌∷◌ v) (numbers_cellss xs)
  numbers_cells (app a b) = numbers_append (cells a) (cells b) ∙ ap₂ ◌++◌ (numbers_cells a) (numbers_cells b)
  numbers_cells (abs p t) = numbers_append (cells p) (cells t) ∙ ap₂ ◌++◌ (numbers_cells p) (numbers_cells t)

  numbers_cellss : (xs : Exprs) → numbers_in (cellss xs) ≡ mentioned_in xs
  numbers_cellss nil = refl
  numbers_cellss (cons a xs) = numbers_append (cells a) (cellss xs) ∙ ap₂ ◌++◌ (numbers_cells a) (numbers_cellss xs)

numbers_kind : (k : Kind) → numbers_in (kind_cells k) ≡ mentioned_in_middle k
unfolding kind_cells mentioned_in_middle numbers_in
numbers_kind variable = refl
numbers_kind primitive = refl
numbers_kind (abbreviation m) = numbers_cells m

-- the cells of a line name what its middle and its category mention
pub numbers_line : (l : Line) → numbers_in (line_cells l) ≡ mentioned_in_middle l.kind ++ mentioned l.category
unfolding line_cells
numbers_line l = numbers_append (kind_cells l.kind) (cells l.category) ∙ ap₂ ◌++◌ (numbers_kind l.kind) (numbers_cells l.category)

-- ---- by the kind of a cell

pub kind_names : (x : ℕ) → (x % cell_factor ≡ 1) ⊎ (x % cell_factor ≡ 3) → true ≡ names_line x
unfolding names_line
kind_names x (inl e) = rw (e, names_line)
kind_names x (inr e) = rw (e, names_line)

pub kind_names_not : (x : ℕ) → x % cell_factor ≢ 1 → x % cell_factor ≢ 3 → false ≡ names_line x
unfolding names_line
kind_names_not x a b = rw (ne_eqb (x % cell_factor) 1 a, ne_eqb (x % cell_factor) 3 b, names_line)
