-- What is found for `<A>B`, from what was found for its parts.
use Rattle.std.specs.Prelude.{◌≡◌, List, ℕ, ◌+◌, ◌*◌, ◌≤◌, length}
use Rattle.aut68.specs.Expr as Expr
use Rattle.aut68.specs.Sizes.{work_units, nesting}
use Rattle.aut68.specs.Language.{aut68}
use Rattle.aut68.specs.Procedure.Answer.{Act, Answer, and_then, ◌>>=◌}
use Rattle.aut68.specs.Expr.{Expr, cells}
use Rattle.aut68.specs.Substitution.{substitute}
use Rattle.aut68.specs.Lines.{Lines}
use Rattle.aut68.specs.Procedure.Compare.{compare}
use Rattle.aut68.specs.Procedure.Category.{Function, made}
use Rattle.aut68.specs.Rules.Resolved.{Known}
use Rattle.cells.specs.Cells.{At}
use Rattle.heads.specs.Book.{Book}
use Rattle.levels.specs.FoundPosts.{Frame, Finds, FindsKnown, FunctionKnown, Spans}

-- what is left to do for `<A>B`, once A's category was found: its comparison with the domain, and A put into the body
unfoldable pub applying : Lines → ℕ → Expr → Function → Expr → Act ℕ Expr
applying ls L a f found = compare aut68 ls L found f.domain >>= λ _. made L (substitute a 0 f.body)

-- `<A>B` at the start of e, with B, of `extent` cells, at index b: the function lies at this level, what was found for A one
-- level deeper
pub record AppliedPost (tb ts e : List ℕ) (b extent : ℕ) (w : List ℕ) (limit level domain body found size budget : ℕ) (w' : List ℕ) (code n whole rest : ℕ) : Type 0 where
  pub frame : Frame limit level w w'
  pub spans : Spans code whole (b + extent)
  pub means : {ls : Lines} {k : ℕ} (a : Expr) {f : Function} {m : Answer ℕ Expr} {behind : List ℕ} → Book ls limit tb ts → work_units * limit ≤ length w → k ≤ nesting
      → Known ls k a → Expr.size a ≤ limit → At e 1 (cells a) behind → b ≡ 1 + Expr.size a → FunctionKnown ls k w limit level domain body f
      → FindsKnown ls k w limit (level + 1) found size budget m
      → Finds w' limit level code n rest (and_then (applying ls limit a f) m)
