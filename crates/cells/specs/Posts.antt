-- What the functions on cells and rows leave.
use Rattle.std.specs.Prelude.{◌≡◌, List, ℕ, ◌+◌, ◌≤◌, ◌<◌, true, false, leb, length, set, replicate}
use Rattle.aut68.specs.Sizes.{nesting}
use Rattle.aut68.specs.Procedure.Run.{over}
use Rattle.cells.specs.declared.scope.Scope.{Scope}
use Rattle.aut68.specs.Expr.{Expr, Exprs, size, cells, cellss, count_exprs}
use Rattle.cells.specs.Cells.{At, Wf, Wfs}

-- r is the end of n expressions from index `from` of s on
pub record Skipped (tb s : List ℕ) (from n r : ℕ) : Type 0 where
  -- inside the store, whatever lies there
  pub within : from ≤ length s → (from ≤ r) × (r ≤ length s)
  -- past at least one cell
  pub onward : 1 ≤ n → from < length s → from < r
  -- no expression, or `from` past the end
  pub none : n ≡ 0 → r ≡ from
  pub past : 1 ≤ n → length s ≤ from → r ≡ length s
  -- past the cells of any n expressions that lie there
  pub ends : (es : Exprs) (rest : List ℕ) → count_exprs es ≡ n → Wfs tb es → At s from (cellss es) rest → r ≡ from + length (cellss es)

-- r is the size of the expression at index `at` of s
pub record Extent (tb s : List ℕ) (at r : ℕ) : Type 0 where
  pub within : r ≤ length s
  pub is : (e : Expr) (rest : List ℕ) → Wf tb e → At s at (cells e) rest → r ≡ size e

-- zeros in the first n cells; w as it was where it has fewer
unfoldable pub cleared : ℕ → List ℕ → List ℕ
cleared n w = elim (leb n (length w)) [ true ↦ over (replicate n 0) w | false ↦ w ]

-- r is the scope one nesting level deeper
pub record Nested (scope r : Scope) : Type 0 where
  pub bound_is : r.bound ≡ scope.bound
  pub starts_are : r.starts ≡ scope.starts
  pub lens_are : r.lens ≡ scope.lens
  pub deeper : scope.depth < nesting → r.depth ≡ scope.depth + 1

-- there is room for a binding of `len` from `start` on
pub record Bindable (scope : Scope) (start len : ℕ) : Type 0 where
  pub shallow : scope.depth < nesting
  pub few : scope.bound < nesting
  pub start_fits : start < 4294967296
  pub len_fits : len < 4294967296

-- r is the scope one nesting level deeper, with one binding more if there is room
pub record Bound (scope : Scope) (start len : ℕ) (r : Scope) : Type 0 where
  pub deeper : scope.depth < nesting → r.depth ≡ scope.depth + 1
  pub more : Bindable scope start len → r.bound ≡ scope.bound + 1
  pub starts_are : Bindable scope start len → r.starts ≡ set scope.starts scope.bound start
  pub lens_are : Bindable scope start len → r.lens ≡ set scope.lens scope.bound len
  pub shallow : scope.depth ≤ nesting → r.depth ≤ nesting
