-- Where categories, arguments and domains lie while the category of an expression is found.
use Rattle.std.specs.Prelude.{◌≡◌, List, ℕ, suc, ◌+◌, ◌-◌, ◌≤◌, ◌<◌, length, get_or}
use Rattle.aut68.specs.Sizes.{nesting}
use Rattle.aut68.specs.Expr.{Expr, Exprs, abs, size, sizes, cells, cellss, count_exprs}
use Rattle.aut68.specs.Lines.{Line, Lines}
use Rattle.aut68.specs.Rules.Categories.{DomainAt}
use Rattle.aut68.specs.Rules.Names.{IsLine, Member}
use Rattle.aut68.specs.Procedure.Category.{Function}
use Rattle.calculus.specs.Resolved.{AllKnown}
use Rattle.cells.specs.Cells.{At}
use Rattle.cells.specs.Layout.{unit_at, level_unit, result_unit}
use Rattle.cells.specs.declared.scope.Scope.{Scope}
use Rattle.terms.specs.Made.{Started}

-- ---- in the working store

-- the cells of c lie at the start of a level's unit
pub record Lies (w : List ℕ) (limit level : ℕ) (c : Expr) : Type 0 where
  pub small : size c ≤ limit
  pub behind : List ℕ
  pub at : At w (unit_at limit (level_unit level)) (cells c) behind

-- a category was found at a level, of n cells
pub record FoundAt (w : List ℕ) (limit level n : ℕ) (c : Expr) : Type 0 where
  pub sized : n ≡ size c
  pub lies : Lies w limit level c

-- an argument string lies at the start of a level's unit, each argument where starts says
pub record LieAll (w : List ℕ) (limit level : ℕ) (starts : List ℕ) (xs : Exprs) : Type 0 where
  pub small : sizes xs ≤ limit
  pub started : Started xs starts
  pub behind : List ℕ
  pub at : At w (unit_at limit (level_unit level)) (cellss xs) behind

-- the arguments `earlier` of a constant of line v, which is l, lie in a level's unit, as base, count and starts say; `wanted` is a
-- variable of l's context
pub record Awaits (ls : Lines) (w : List ℕ) (limit level k base count : ℕ) (starts : List ℕ) (wanted v : ℕ) (l : Line) (earlier : Exprs) : Type 0 where
  pub is_line : IsLine ls v l
  pub in_context : Member wanted l.context
  pub base_is : base ≡ unit_at limit (level_unit level)
  pub counted : count_exprs earlier ≡ count
  pub few : k ≤ nesting
  pub known : AllKnown ls k earlier
  pub lie : LieAll w limit level starts earlier

-- an abstraction lies in a level's unit, its domain and its body from the given indices on
pub record FunctionIn (w : List ℕ) (limit level domain body : ℕ) (f : Function) : Type 0 where
  pub small : size (abs f.domain f.body) ≤ limit
  pub domain_in : domain + size f.domain ≤ unit_at limit (level_unit level) + limit
  pub body_in : body + size f.body ≤ unit_at limit (level_unit level) + limit
  pub behind_domain : List ℕ
  pub domain_at : At w domain (cells f.domain) behind_domain
  pub behind_body : List ℕ
  pub body_at : At w body (cells f.body) behind_body

-- the result unit has e, of n cells; where e has more than `limit` cells, n is more than `limit`
pub record Held (w : List ℕ) (limit n : ℕ) (e : Expr) : Type 0 where
  pub fits : size e ≤ limit → n ≡ size e
  pub large : limit < size e → limit < n
  pub behind : List ℕ
  pub at : size e ≤ limit → At w (unit_at limit result_unit) (cells e) behind

-- ---- in the term store

-- entry j of the scope is where p lies
pub record DomainCells (ts : List ℕ) (limit : ℕ) (scope : Scope) (j : ℕ) (p : Expr) : Type 0 where
  pub small : size p ≤ limit
  pub sized : get_or scope.lens j 0 ≡ size p
  pub behind : List ℕ
  pub at : At ts (get_or scope.starts j 0) (cells p) behind

-- the scope has the domains sc, the outermost first; every index of the term store fits it
pub record ScopeHolds (ts : List ℕ) (limit : ℕ) (scope : Scope) (sc : List Expr) : Type 0 where
  pub short : length ts < 4294967296
  pub counted : scope.bound ≡ length sc
  pub deep : scope.depth ≡ length sc
  pub few : length sc ≤ nesting
  pub starts_long : length scope.starts ≡ nesting
  pub lens_long : length scope.lens ≡ nesting
  pub domain : {p : Expr} {i : ℕ} → DomainAt p sc i → DomainCells ts limit scope (length sc - suc i) p
