-- The function that a category reaches, and what is found for `[x,P]T`, from what was found for T.
use Rattle.std.specs.Prelude.{◌≡◌, List, ◌∷◌, ℕ, ◌+◌, ◌*◌, ◌≤◌, length}
use Rattle.aut68.specs.Expr as Expr
use Rattle.aut68.specs.Sizes.{largest_limit, work_units, nesting}
use Rattle.aut68.specs.Language.{aut68}
use Rattle.aut68.specs.Procedure.Answer.{Answer, and_then}
use Rattle.aut68.specs.Expr.{Expr, cells, over_binding}
use Rattle.aut68.specs.Lines.{Lines}
use Rattle.aut68.specs.Procedure.Category.{made, to_function}
use Rattle.cells.specs.Cells.{At}
use Rattle.cells.specs.Results.{Result}
use Rattle.heads.specs.Book.{Book}
use Rattle.levels.specs.FoundPosts.{Frame, Finds, FindsKnown, FunctionKnown, Spans}

-- the function that what was found reaches by head steps, with where its domain and its body lie
pub record FunctionOfPost (tb ts w : List ℕ) (limit found size budget level : ℕ) (w' : List ℕ) (code domain body rest : ℕ) : Type 0 where
  pub frame : Frame limit level w w'
  pub means : {ls : Lines} {k : ℕ} {m : Answer ℕ Expr} → Book ls limit tb ts → work_units * limit ≤ length w → k ≤ nesting
      → FindsKnown ls k w limit level found size budget m
      → Result (FunctionKnown ls k w' limit level domain body) code rest (and_then (to_function ls limit) m)

-- `[x,P]`, the first t cells of e, before what was found for a T of `extent` cells, unless that is `type`
pub record OverBindingPost (e : List ℕ) (t : ℕ) (w : List ℕ) (limit level found size extent budget : ℕ) (w' : List ℕ) (code n whole rest : ℕ) : Type 0 where
  pub frame : Frame limit level w w'
  pub spans : Spans code whole (t + extent)
  pub means : (p : Expr) {m : Answer ℕ Expr} {behind : List ℕ} → limit ≤ largest_limit → work_units * limit ≤ length w → At e 0 (5 ∷ cells p) behind → t ≡ 1 + Expr.size p
      → Finds w limit level found size budget m → Finds w' limit level code n rest (and_then (λ c. made limit (over_binding aut68 p c)) m)
