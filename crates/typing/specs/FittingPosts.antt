-- An argument of a constant: its category against the wanted one.
use Rattle.std.specs.Prelude.{List, ℕ, ◌+◌, ◌*◌, ◌≤◌, length}
use Rattle.aut68.specs.Sizes.{work_units}
use Rattle.aut68.specs.Language.{aut68}
use Rattle.aut68.specs.Procedure.Answer.{Act, Answer, and_then, ◌>>=◌}
use Rattle.aut68.specs.Expr.{Expr, Exprs}
use Rattle.aut68.specs.Substitution.{instantiate}
use Rattle.aut68.specs.Lines.{Line, Lines}
use Rattle.aut68.specs.Rules.Names.{IsLine}
use Rattle.aut68.specs.Procedure.Compare.{compare}
use Rattle.aut68.specs.Procedure.Category.{the_line, made}
use Rattle.calculus.specs.Resolved.{KnownCategory}
use Rattle.heads.specs.Book.{Book}
use Rattle.levels.specs.Places.{Lies, Awaits}
use Rattle.levels.specs.FoundPosts.{Frame, Passes, FindsKnown}

-- for an argument whose category was found: the wanted one, their comparison
unfoldable pub wanted_fits : Lines → ℕ → List ℕ → Exprs → ℕ → Expr → Act ℕ (Unit {0})
wanted_fits ls L context earlier v found = do
  l ← the_line ls v
  wanted ← made L (instantiate context earlier 0 l.category)
  compare aut68 ls L found wanted

-- what was found for it, one level deeper, against the wanted category
pub record WantedPost (tb ts w : List ℕ) (limit budget level wanted base count : ℕ) (starts w' : List ℕ) (code rest : ℕ) : Type 0 where
  pub frame : Frame limit (level + 2) w w'
  pub means : {ls : Lines} {k v : ℕ} {l : Line} {earlier : Exprs} {c : Expr} → Book ls limit tb ts → work_units * limit ≤ length w
      → Awaits ls w limit level k base count starts wanted v l earlier → Lies w limit (level + 1) c → KnownCategory ls k c
      → Passes code rest (wanted_fits ls limit l.context earlier wanted c budget)

-- its category is stored on line u
pub record StoredFitsPost (tb ts w : List ℕ) (limit budget level u wanted base count : ℕ) (starts w' : List ℕ) (code rest : ℕ) : Type 0 where
  pub frame : Frame limit (level + 1) w w'
  pub means : {ls : Lines} {k v : ℕ} {l d : Line} {earlier : Exprs} → Book ls limit tb ts → work_units * limit ≤ length w
      → Awaits ls w limit level k base count starts wanted v l earlier → IsLine ls u d
      → Passes code rest (and_then (wanted_fits ls limit l.context earlier wanted) (made limit d.category budget))

-- `found`, `size` and `budget` are the answer of the search for its category, one level deeper
pub record ArgumentFitsPost (tb ts w : List ℕ) (limit found size budget level wanted base count : ℕ) (starts w' : List ℕ) (code rest : ℕ) : Type 0 where
  pub frame : Frame limit (level + 1) w w'
  pub means : {ls : Lines} {k v : ℕ} {l : Line} {earlier : Exprs} {m : Answer ℕ Expr} → Book ls limit tb ts → work_units * limit ≤ length w
      → Awaits ls w limit level k base count starts wanted v l earlier → FindsKnown ls k w limit (level + 1) found size budget m
      → Passes code rest (and_then (wanted_fits ls limit l.context earlier wanted) m)
