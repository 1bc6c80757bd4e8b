-- What the functions of this crate leave, in the words of the crates `levels` and `typing`.
use Rattle.std.specs.Prelude.{◌≡◌, List, ℕ, ◌*◌, ◌≤◌, ◌<◌, length}
use Rattle.aut68.specs.Expr as Expr
use Rattle.aut68.specs.Sizes.{work_units, nesting}
use Rattle.aut68.specs.Language.{aut68}
use Rattle.aut68.specs.Procedure.Answer.{◌>>=◌}
use Rattle.aut68.specs.Expr.{Expr, Exprs, app, abs, nil, size, cells, count_exprs, levels}
use Rattle.aut68.specs.Rules.Serving.{Supertype, IsType}
use Rattle.aut68.specs.Lines.{Line, Lines}
use Rattle.aut68.specs.Rules.Names.{IsLine}
use Rattle.aut68.specs.Procedure.CheckLine.{check_written, check_middle}
use Rattle.calculus.specs.Resolved.{KnownCategory}
use Rattle.cells.specs.Cells.{At}
use Rattle.cells.specs.Results.{Result}
use Rattle.cells.specs.declared.scope.Scope.{Scope}
use Rattle.heads.specs.Book.{Book}
use Rattle.levels.specs.FoundPosts.{Frame, Finds, Passes}
use Rattle.levels.specs.ArgumentPosts.{Kept}
use Rattle.categories.specs.AnyDepth.{category68, arguments68}
use Rattle.categories.specs.Places.{Expression, Arguments, LineCells}

-- ---- categories and argument strings

-- the answer is the category of x, and how many cells x has
pub record Categorises (tb ts e : List ℕ) (scope : Scope) (w : List ℕ) (limit budget level : ℕ) (w' : List ℕ) (code size extent rest : ℕ) (x : Expr) : Type 0 where
  pub finds : {ls : Lines} {sc : List Expr} → Book ls limit tb ts → work_units * limit ≤ length w → Expression ls ts e scope limit level sc x
      → Finds w' limit level code size rest (category68 ls limit sc x budget)
  pub spans : {ls : Lines} {sc : List Expr} → Book ls limit tb ts → work_units * limit ≤ length w → Expression ls ts e scope limit level sc x
      → code ≡ 0 → extent ≡ Expr.size x

-- for whatever expression lies at the start of e, the rest of the term store from there on
pub record CategoryPost (tb ts e : List ℕ) (scope : Scope) (w : List ℕ) (limit budget level : ℕ) (w' : List ℕ) (code size extent rest : ℕ) : Type 0 where
  pub frame : Frame limit level w w'
  pub within : extent ≤ length e
  pub means : (x : Expr) → Categorises tb ts e scope w limit budget level w' code size extent rest x

-- for `<A>B`
pub record ApplicationPost (tb ts e : List ℕ) (scope : Scope) (w : List ℕ) (limit budget level : ℕ) (w' : List ℕ) (code size extent rest : ℕ) : Type 0 where
  pub frame : Frame limit level w w'
  pub within : extent ≤ length e
  pub means : (a b : Expr) → Categorises tb ts e scope w limit budget level w' code size extent rest (app a b)

-- for `[x,P]T`
pub record AbstractionPost (tb ts e : List ℕ) (scope : Scope) (w : List ℕ) (limit budget level : ℕ) (w' : List ℕ) (code size extent rest : ℕ) : Type 0 where
  pub frame : Frame limit level w w'
  pub within : extent ≤ length e
  pub means : (p t : Expr) → Categorises tb ts e scope w limit budget level w' code size extent rest (abs p t)

-- the arguments at the start of s of the constant of line v, and a copy of them in the level's unit
pub record ArgumentsPost (tb ts s : List ℕ) (scope : Scope) (w : List ℕ) (limit budget level v : ℕ) (w' : List ℕ) (code extent : ℕ) (starts : List ℕ) (rest : ℕ) : Type 0 where
  pub frame : Frame limit level w w'
  pub within : extent ≤ length s
  pub means : {ls : Lines} {l : Line} {sc : List Expr} {xs : Exprs} → Book ls limit tb ts → work_units * limit ≤ length w → IsLine ls v l
      → count_exprs xs ≡ length l.context → Arguments ls ts s scope limit level sc xs
      → Result (λ _. Kept w' limit level extent starts xs) code rest (arguments68 ls limit sc xs l.context l.context nil budget)

-- ---- the line at hand

-- the written category, at index `at`
pub record CheckWrittenPost (tb ts : List ℕ) (at : ℕ) (w : List ℕ) (limit budget : ℕ) (w' : List ℕ) (code rest : ℕ) : Type 0 where
  pub frame : Frame limit 0 w w'
  pub means : {ls : Lines} {c : Expr} {behind : List ℕ} → Book ls limit tb ts → work_units * limit ≤ length w → length ts < 4294967296 → At ts at (cells c) behind
      → KnownCategory ls 0 c → (Supertype c → IsType aut68 c) → size c ≤ limit → levels c ≤ nesting → Passes code rest (check_written aut68 ls limit c budget)

-- the middle, in the cells start..at, against the category behind it
pub record CheckMiddlePost (tb ts : List ℕ) (start at : ℕ) (w : List ℕ) (limit budget : ℕ) (w' : List ℕ) (code rest : ℕ) : Type 0 where
  pub frame : Frame limit 0 w w'
  pub means : {ls : Lines} {l : Line} → Book ls limit tb ts → work_units * limit ≤ length w → LineCells ls ts limit start at l
      → Passes code rest (check_middle aut68 ls limit l.kind l.category budget)

-- both, for the line whose cells are the last of the term store
pub record CheckCellsPost (tb ts : List ℕ) (start at : ℕ) (w : List ℕ) (limit budget : ℕ) (w' : List ℕ) (code rest : ℕ) : Type 0 where
  pub frame : Frame limit 0 w w'
  pub means : {ls : Lines} {l : Line} → Book ls limit tb ts → work_units * limit ≤ length w → LineCells ls ts limit start at l
      → Passes code rest ((check_written aut68 ls limit l.category >>= λ _. check_middle aut68 ls limit l.kind l.category) budget)
