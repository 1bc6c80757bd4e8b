-- What is found at a level, as every record of this crate and of crate `typing` says it: tb is the table, ts the term store, w the
-- working store as it was and w' as it is left; `frame` says which of its cells are as they were, whatever lies there; `means` says
-- which part of the procedure the code and the budget that is left answer, for every expression that lies where the arguments point.
use Rattle.std.specs.Prelude.{◌≡◌, Bool, List, ℕ, ◌*◌, ◌≤◌, length}
use Rattle.aut68.specs.Sizes.{largest_limit, work_units}
use Rattle.aut68.specs.Procedure.Answer.{Answer, and_then, ensure, not_type}
use Rattle.aut68.specs.Expr.{Expr, abs, is_type}
use Rattle.aut68.specs.Lines.{Lines}
use Rattle.aut68.specs.Procedure.Category.{Function, made}
use Rattle.calculus.specs.Resolved.{KnownCategory}
use Rattle.cells.specs.Cells.{Outside}
use Rattle.cells.specs.Layout.{unit_at, level_unit}
use Rattle.cells.specs.Results.{Result}
use Rattle.levels.specs.Places.{Lies, FoundAt, FunctionIn, Held}

-- what lies below a level's unit is as it was
abbrev pub Frame : ℕ → ℕ → List ℕ → List ℕ → Type 0
Frame limit level w w' = limit ≤ largest_limit → Outside (unit_at limit (level_unit level)) (length w) w w'

-- an answer to what the category is, and to whether something passes
abbrev pub Finds : List ℕ → ℕ → ℕ → ℕ → ℕ → ℕ → Answer ℕ Expr → Type 0
Finds w limit level code n rest m = Result (FoundAt w limit level n) code rest m

abbrev pub Passes : ℕ → ℕ → Answer ℕ (Unit {0}) → Type 0
Passes code rest m = Result (λ _. Unit {0}) code rest m

-- the same, of a category that is known under k bindings
abbrev pub FindsKnown : Lines → ℕ → List ℕ → ℕ → ℕ → ℕ → ℕ → ℕ → Answer ℕ Expr → Type 0
FindsKnown ls k w limit level code n rest m = Result (λ c. FoundAt w limit level n c × KnownCategory ls k c) code rest m

-- the function f that a category reaches, known under k bindings, in a level's unit
abbrev pub FunctionKnown : Lines → ℕ → List ℕ → ℕ → ℕ → ℕ → ℕ → Function → Type 0
FunctionKnown ls k w limit level domain body f = FunctionIn w limit level domain body f × KnownCategory ls k (abs f.domain f.body)

-- code 0 comes with the count of cells that the expression has; every other code with no more
pub record Spans (code extent whole : ℕ) : Type 0 where
  pub is : code ≡ 0 → extent ≡ whole
  pub within : extent ≤ whole

-- what the result unit holds, as the category found at a level, of an expression of `whole` cells; 10 where it has more than
-- `limit` cells
pub record MadePost (w : List ℕ) (limit budget level n whole : ℕ) (w' : List ℕ) (code size extent rest : ℕ) : Type 0 where
  pub frame : Frame limit level w w'
  pub spans : Spans code extent whole
  pub means : {e : Expr} → limit ≤ largest_limit → work_units * limit ≤ length w → Held w limit n e → Finds w' limit level code size rest (made limit e budget)

-- is it `type`?
pub record IsTypePost (w : List ℕ) (limit level : ℕ) (r : Bool) : Type 0 where
  pub means : {c : Expr} → limit ≤ largest_limit → Lies w limit level c → r ≡ is_type c

-- what was found must be `type`; `found`, `size` and `budget` are the answer of the search before it
pub record FoundTypePost (w : List ℕ) (limit level found size budget code rest : ℕ) : Type 0 where
  pub means : {m : Answer ℕ Expr} → limit ≤ largest_limit → Finds w limit level found size budget m
      → Passes code rest (and_then (λ k. ensure (is_type k) not_type) m)
