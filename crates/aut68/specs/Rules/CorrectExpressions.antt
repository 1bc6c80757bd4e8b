-- Correct expressions, in a context and under bindings: "an expression being correct if [the rules] give it a category". That its
-- names and counts are in force there belongs to it: `Category` does not ask whether a variable is in the context.
use Rattle.std.specs.Prelude.{List, [], ◌∷◌, ℕ, length}
use Rattle.aut68.specs.Language.{Language}
use Rattle.aut68.specs.Expr.{Expr}
use Rattle.aut68.specs.Lines.{Lines}
use Rattle.aut68.specs.Rules.Serving.{IsType}
use Rattle.aut68.specs.Rules.Categories.{Category}
use Rattle.aut68.specs.Rules.Resolved.{Resolved}

-- After the lines ls, in the context vs and under bindings whose domains are sc, innermost first.
module _ (language : Language) (ls : Lines) (vs : List ℕ) where
  -- e is correct, and c is a category of it
  pub record CorrectAs (sc : List Expr) (e c : Expr) : Type 0 where
    pub resolved : Resolved ls vs (length sc) e
    pub has_category : Category language ls sc e c

  pub record CorrectExpression (sc : List Expr) (e : Expr) : Type 0 where
    pub category : Expr
    pub correct : CorrectAs sc e category

  -- Each domain is a correct expression under the bindings outside it, and its category is `type` (`IsType`).
  pub data CorrectScope : List Expr → Type 0 where
    no_bindings : CorrectScope []
    binding : {p k : Expr} {sc : List Expr} → CorrectAs sc p k → IsType language k → CorrectScope sc → CorrectScope (p ∷ sc)
