-- The comparison of what was found at two levels.
use Rattle.std.specs.Prelude.{List, ℕ, ◌*◌, ◌≤◌, length}
use Rattle.aut68.specs.Sizes.{largest_limit, work_units, nesting}
use Rattle.aut68.specs.Language.{aut68}
use Rattle.aut68.specs.Expr.{Expr}
use Rattle.aut68.specs.Lines.{Lines}
use Rattle.aut68.specs.Procedure.Compare.{compare}
use Rattle.calculus.specs.Resolved.{KnownCategory}
use Rattle.cells.specs.Cells.{Outside}
use Rattle.cells.specs.Layout.{unit_at, side_unit}
use Rattle.heads.specs.Book.{Book}
use Rattle.levels.specs.Places.{Lies}
use Rattle.levels.specs.FoundPosts.{Passes}

-- what was found at level l on the left, what was found at level r on the right
pub record ComparePost (tb ts w : List ℕ) (limit budget l r : ℕ) (w' : List ℕ) (code rest : ℕ) : Type 0 where
  pub frame : limit ≤ largest_limit → Outside (unit_at limit (side_unit nesting)) (length w) w w'
  pub means : {ls : Lines} {k : ℕ} {x y : Expr} → Book ls limit tb ts → work_units * limit ≤ length w → k ≤ nesting → KnownCategory ls k x → KnownCategory ls k y
      → Lies w limit l x → Lies w limit r y → Passes code rest (compare aut68 ls limit x y budget)
