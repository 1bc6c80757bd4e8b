-- What stands for a cell of an expression with arguments put in, outside every binding.
use Rattle.std.specs.Prelude.{◌≡◌, List, ◌∷◌, ℕ, ◌+◌, ◌%◌, ◌≤◌, ◌<◌, length, take, drop, ⊤}
use Rattle.aut68.specs.Sizes.{cell_factor, cell_values}
use Rattle.aut68.specs.Expr.{Expr, Exprs, nil, first_cell, parts, cells, cellss, count_exprs}
use Rattle.aut68.specs.Substitution.{instantiate, instantiates}
use Rattle.terms.specs.Made.{Started}
use Rattle.terms.specs.Grafts.{instantiating, Fit}
use Rattle.matching.specs.declared.matching.Run.{Run}
use Rattle.matching.specs.declared.matching.Run.TheVariants.{Itself, Argument, Unknown}

-- the cell x, which is no abstraction's, stays
pub record Stays (tb : List ℕ) (x count : ℕ) : Type 0 where
  pub is : (x % cell_factor ≡ 5 → ⊥) → (vs : List ℕ) (xs : Exprs) → count_exprs xs ≡ count → (e : Expr) → first_cell e ≡ x
      → Fit tb (instantiating vs xs) e → cells (instantiate vs xs 0 e) ≡ x ∷ cellss (instantiates vs xs 0 (parts e))

-- len cells of the arguments, from index `start` on, stand for it
pub record Replaced (tb : List ℕ) (x count : ℕ) (starts : List ℕ) (start len : ℕ) : Type 0 where
  pub short : start < cell_values
  pub is : (vs : List ℕ) (xs : Exprs) → count_exprs xs ≡ count → Started xs starts → (e : Expr) → first_cell e ≡ x → Fit tb (instantiating vs xs) e
      → (parts e ≡ nil) × (start + len ≤ length (cellss xs)) × (cells (instantiate vs xs 0 e) ≡ take len (drop start (cellss xs)))

-- what the code knows of it
abbrev pub RunPost : (tb : List ℕ) (x count : ℕ) (starts : List ℕ) → Run → Type 0
RunPost tb x count starts Itself = Stays tb x count
RunPost tb x count starts (Argument start len) = Replaced tb x count starts start len
RunPost tb x count starts Unknown = ⊤
