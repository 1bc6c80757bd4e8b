-- Which lines a completed line names, and the index: "line after line from cell 0, a count and the lines the completed line names,
-- ascending, each once".
use Rattle.std.specs.Prelude.{ℕ, zero, suc, true, false, List, [], ◌∷◌, ◌++◌, length, eqb, ltb}
use Rattle.aut68.specs.Expr.{Expr, Exprs, type, prop, var, bound, const, app, abs, nil, cons}
use Rattle.aut68.specs.Lines.{Line, Lines, Kind, variable, primitive, abbreviation}

-- the lines of an expression's variables and constants, from the left
unfoldable mutual
  pub mentioned : Expr → List ℕ
  mentioned type = []
  mentioned prop = []
  mentioned (var v) = v ∷ []
  mentioned (bound i) = []
  mentioned (const v xs) = v ∷ mentioned_in xs
  mentioned (app a b) = mentioned a ++ mentioned b
  mentioned (abs p t) = mentioned p ++ mentioned t

  pub mentioned_in : Exprs → List ℕ
  mentioned_in nil = []
  mentioned_in (cons a xs) = mentioned a ++ mentioned_in xs

unfoldable pub mentioned_in_middle : Kind → List ℕ
mentioned_in_middle variable = []
mentioned_in_middle primitive = []
mentioned_in_middle (abbreviation m) = mentioned m

unfoldable pub mentioned_as_indicator : ℕ → List ℕ
mentioned_as_indicator zero = []
mentioned_as_indicator (suc v) = suc v ∷ []

-- A completed line names its indicator and the lines of the variables and constants in middle and category.
unfoldable pub mentioned_by : Line → List ℕ
mentioned_by l = mentioned_as_indicator l.indicator ++ (mentioned_in_middle l.kind ++ mentioned l.category)

-- a number put in its place in an ascending list, once
unfoldable pub insert : ℕ → List ℕ → List ℕ
insert x [] = x ∷ []
insert x (y ∷ ys) =
    elim (ltb x y) [
      | true ↦ x ∷ y ∷ ys
      | false ↦ elim (eqb x y) [ true ↦ y ∷ ys | false ↦ y ∷ insert x ys ]
    ]

-- the numbers of a list, ascending, each once
unfoldable pub ascending : List ℕ → List ℕ
ascending [] = []
ascending (x ∷ xs) = insert x (ascending xs)

unfoldable pub names_of : Line → List ℕ
names_of l = ascending (mentioned_by l)

-- what a line adds to the index
unfoldable pub entry_of : Line → List ℕ
entry_of l = length (names_of l) ∷ names_of l

unfoldable pub index_of : Lines → List ℕ
index_of [] = []
index_of (l ∷ ls) = entry_of l ++ index_of ls
