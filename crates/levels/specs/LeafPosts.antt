-- The category on a line, and that of a bound variable.
use Rattle.std.specs.Prelude.{List, ℕ, ◌*◌, ◌≤◌, suc, length}
use Rattle.aut68.specs.Sizes.{work_units}
use Rattle.aut68.specs.Expr.{Expr}
use Rattle.aut68.specs.Lines.{Line, Lines}
use Rattle.aut68.specs.Rules.Names.{IsLine}
use Rattle.aut68.specs.Procedure.Category.{made}
use Rattle.aut68.specs.Rules.Categories.{DomainAt}
use Rattle.aut68.specs.Substitution.{lift}
use Rattle.calculus.specs.Resolved.{KnownScope}
use Rattle.cells.specs.declared.scope.Scope.{Scope}
use Rattle.heads.specs.Book.{Book}
use Rattle.levels.specs.Places.{ScopeHolds}
use Rattle.levels.specs.FoundPosts.{Frame, Finds, Spans}

-- the category on line v
pub record StoredPost (tb ts w : List ℕ) (limit budget level v : ℕ) (w' : List ℕ) (code size extent rest : ℕ) : Type 0 where
  pub frame : Frame limit level w w'
  pub spans : Spans code extent 1
  pub means : {ls : Lines} {l : Line} → Book ls limit tb ts → work_units * limit ≤ length w → IsLine ls v l
      → Finds w' limit level code size rest (made limit l.category budget)

-- the category of the bound variable with i bindings between: its domain, moved under them and its own
pub record BoundPost (tb ts : List ℕ) (scope : Scope) (w : List ℕ) (limit budget level i : ℕ) (w' : List ℕ) (code size extent rest : ℕ) : Type 0 where
  pub frame : Frame limit level w w'
  pub spans : Spans code extent 1
  pub means : {ls : Lines} {sc : List Expr} {p : Expr} → Book ls limit tb ts → work_units * limit ≤ length w → ScopeHolds ts limit scope sc → KnownScope ls sc
      → DomainAt p sc i → Finds w' limit level code size rest (made limit (lift (suc i) 0 p) budget)
