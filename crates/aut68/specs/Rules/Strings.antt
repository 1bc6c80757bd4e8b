-- Strings of cells that a caller brings, and the expressions that they are.
use Rattle.std.specs.Prelude.{◌≡◌, ◌⊎◌, List, ℕ}
use Rattle.aut68.specs.Expr.{Expr, type, cells}
use Rattle.aut68.specs.Lines.{Lines}
use Rattle.aut68.specs.Rules.Resolved.{Known}

-- The string has the cells of e and no other. "One whole expression or `type` alone, constants and variables in the book, arguments in
-- full, no bound variable without its binding." Any `EB` line may stand free; how deep e is nested plays no part.
pub record Reads (ls : Lines) (string : List ℕ) (e : Expr) : Type 0 where
  pub cells_are : string ≡ cells e
  pub known : (e ≡ type) ⊎ Known ls 0 e

unfoldable pub Whole : Lines → List ℕ → Type 0
Whole ls string = (e : Expr) × Reads ls string e
