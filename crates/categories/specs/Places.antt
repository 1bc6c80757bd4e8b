-- The expressions of the line at hand: where they lie in the term store, and what is known of them.
use Rattle.std.specs.Prelude.{◌≡◌, List, ℕ, suc, ◌+◌, ◌-◌, ◌≤◌, ◌<◌, length, drop}
use Rattle.aut68.specs.Sizes.{nesting}
use Rattle.aut68.specs.Language.{aut68}
use Rattle.aut68.specs.Expr.{Expr, Exprs, size, sizes, cells, cellss, levels, levelss}
use Rattle.aut68.specs.Lines.{Line, Lines, abbreviation, kind_cells}
use Rattle.aut68.specs.Rules.Serving.{Supertype, IsType}
use Rattle.aut68.specs.Rules.Resolved.{Known}
use Rattle.calculus.specs.Resolved.{AllKnown, KnownScope, KnownCategory}
use Rattle.cells.specs.Cells.{At}
use Rattle.cells.specs.declared.scope.Scope.{Scope}
use Rattle.levels.specs.Places.{ScopeHolds}

-- x lies at the start of e, the rest of the term store from there on, and stands under bindings whose domains the scope has
pub record Expression (ls : Lines) (ts e : List ℕ) (scope : Scope) (limit level : ℕ) (sc : List Expr) (x : Expr) : Type 0 where
  pub part : e ≡ drop (length ts - length e) ts
  pub behind : List ℕ
  pub at : At e 0 (cells x) behind
  pub holds : ScopeHolds ts limit scope sc
  pub known_scope : KnownScope ls sc
  pub known : Known ls (length sc) x
  pub small : size x ≤ limit
  pub shallow : levels x + level ≤ nesting
  pub under : levels x + length sc ≤ nesting

-- the same of an argument string, each argument of which is looked at one level deeper
pub record Arguments (ls : Lines) (ts s : List ℕ) (scope : Scope) (limit level : ℕ) (sc : List Expr) (xs : Exprs) : Type 0 where
  pub part : s ≡ drop (length ts - length s) ts
  pub behind : List ℕ
  pub at : At s 0 (cellss xs) behind
  pub holds : ScopeHolds ts limit scope sc
  pub known_scope : KnownScope ls sc
  pub known : AllKnown ls (length sc) xs
  pub small : sizes xs ≤ limit
  pub shallow : levelss xs + suc level ≤ nesting
  pub under : levelss xs + length sc ≤ nesting

-- The line l, whose cells are the last of the term store: the middle's from `start` on, the category's from `at` on.
pub record LineCells (ls : Lines) (ts : List ℕ) (limit start at : ℕ) (l : Line) : Type 0 where
  pub short : length ts < 4294967296
  pub cells_are : At ts start (kind_cells l.kind) (cells l.category)
  pub ends : at ≡ start + length (kind_cells l.kind)
  pub middle : (m : Expr) → l.kind ≡ abbreviation m → Known ls 0 m
  pub middle_small : (m : Expr) → l.kind ≡ abbreviation m → (size m ≤ limit) × (levels m ≤ nesting)
  pub category : KnownCategory ls 0 l.category
  -- only `type` ends in `type`: so a line is written in AUT-68
  pub ends_only : Supertype l.category → IsType aut68 l.category
  pub category_small : (size l.category ≤ limit) × (levels l.category ≤ nesting)
