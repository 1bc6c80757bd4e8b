-- Expressions in a store of cells: where one lies, what a function leaves of the store.
use Rattle.std.specs.Prelude.{◌≡◌, ◌⊎◌, Bool, true, false, ◌&&◌, ◌||◌, List, [], ◌∷◌, ◌++◌, ℕ, ◌+◌, ◌/◌, ◌%◌, ◌≤◌, ◌<◌, eqb, leb, length, get_or, take, drop}
use Rattle.std.proofs.lemmas.List.Edits.{sets}
use Rattle.aut68.specs.Sizes.{cell_factor, at_context}
use Rattle.aut68.specs.Bytes.{same_bytes}
use Rattle.aut68.specs.Lines.{row_cell}
use Rattle.aut68.specs.Expr.{Expr, Exprs, type, prop, var, bound, const, app, abs, nil, cons, count_exprs}

-- ---- rows and parts

-- how many expressions follow the cell x as its parts: for a constant, the context length on its row
unfoldable pub parts_after : List ℕ → ℕ → ℕ
parts_after tb x =
    elim (eqb (x % cell_factor) 3) [
      | true ↦ row_cell tb (x / cell_factor) at_context
      | false ↦ elim (eqb (x % cell_factor) 4) [ true ↦ 2 | false ↦ elim (eqb (x % cell_factor) 5) [ true ↦ 2 | false ↦ 0 ] ]
    ]

-- X of each context variable, and C of each constant and the count of its arguments; `type` may stand anywhere
unfoldable mutual
  pub Formed : (ℕ → Type 0) → (ℕ → ℕ → Type 0) → Expr → Type 0
  Formed X C type = Unit {0}
  Formed X C prop = Unit {0}
  Formed X C (var v) = X v
  Formed X C (bound i) = Unit {0}
  Formed X C (const v xs) = C v (count_exprs xs) × AllFormed X C xs
  Formed X C (app a b) = Formed X C a × Formed X C b
  Formed X C (abs p t) = Formed X C p × Formed X C t

  pub AllFormed : (ℕ → Type 0) → (ℕ → ℕ → Type 0) → Exprs → Type 0
  AllFormed X C nil = Unit {0}
  AllFormed X C (cons a xs) = Formed X C a × AllFormed X C xs

-- each constant has as many arguments as its row has context variables
abbrev pub AnyVariable : ℕ → Type 0
AnyVariable v = Unit {0}

abbrev pub RightCount : List ℕ → ℕ → ℕ → Type 0
RightCount tb v n = n ≡ row_cell tb v at_context

abbrev pub Wf : List ℕ → Expr → Type 0
Wf tb = Formed AnyVariable (RightCount tb)

abbrev pub Wfs : List ℕ → Exprs → Type 0
Wfs tb = AllFormed AnyVariable (RightCount tb)

-- ---- where an expression lies

-- from index i on the store has the cells xs, and then rest
pub record At (s : List ℕ) (i : ℕ) (xs rest : List ℕ) : Type 0 where
  pub is : drop i s ≡ xs ++ rest

-- every number of the list is below n: n is 2 to the width of a cell
unfoldable pub Below : ℕ → List ℕ → Type 0
Below n [] = Unit {0}
Below n (c ∷ cs) = (c < n) × Below n cs

-- ---- what a function leaves of a store

-- w' is w with the cells vs from index `to` on, up to index `at`
pub record Wrote (w w' : List ℕ) (to at : ℕ) (vs : List ℕ) : Type 0 where
  pub is : w' ≡ sets w to vs
  pub ends : at ≡ to + length vs
  pub room : at ≤ length w

-- every cell outside from..end is as it was
pub record Outside (from end : ℕ) (w w' : List ℕ) : Type 0 where
  pub long : length w' ≡ length w
  pub same : (i : ℕ) → (i < from) ⊎ (end ≤ i) → get_or w' i 0 ≡ get_or w i 0

-- the n cells of s from index `from` on, in w from index `to` on; w as it was where either part is not whole
unfoldable pub copy_cells : List ℕ → ℕ → ℕ → List ℕ → ℕ → List ℕ
copy_cells s from n w to =
    elim (leb (from + n) (length s) && leb (to + n) (length w)) [ true ↦ sets w to (take n (drop from s)) | false ↦ w ]

-- the same within one store, the lowest cell first; w as it was where `to` lies inside the part that is copied
unfoldable pub move_cells : List ℕ → ℕ → ℕ → ℕ → List ℕ
move_cells w from n to = elim (leb to from || leb (from + n) to) [ true ↦ copy_cells w from n w to | false ↦ w ]

-- the n cells of s from index a on are those of f from index b on, and both runs are whole
unfoldable pub same_run : List ℕ → ℕ → List ℕ → ℕ → ℕ → Bool
same_run s a f b n =
    leb (a + n) (length s) && leb (b + n) (length f) && same_bytes (take n (drop a s)) (take n (drop b f))

-- the same within one store
abbrev pub same_cells : List ℕ → ℕ → ℕ → ℕ → Bool
same_cells w a b n = same_run w a w b n
