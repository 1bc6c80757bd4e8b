-- A constant's arguments: an argument kept, whether its category is stored; the constant's category.
use Rattle.std.specs.Prelude.{◌≡◌, ◌⊎◌, Bool, true, List, ℕ, ◌+◌, ◌*◌, ◌/◌, ◌%◌, ◌≤◌, ◌<◌, length, set}
use Rattle.aut68.specs.Sizes.{cell_factor, cell_values, work_units, nesting, at_context}
use Rattle.aut68.specs.Procedure.Answer.{Answer, and_then}
use Rattle.aut68.specs.Expr.{Exprs, sizes, count_exprs}
use Rattle.aut68.specs.Substitution.{instantiate}
use Rattle.aut68.specs.Lines.{Line, Lines, row_cell}
use Rattle.aut68.specs.Rules.Names.{IsLine}
use Rattle.aut68.specs.Procedure.Category.{made}
use Rattle.calculus.specs.Resolved.{AllKnown}
use Rattle.cells.specs.Cells.{Outside, copy_cells}
use Rattle.cells.specs.Results.{Result}
use Rattle.heads.specs.Book.{Book}
use Rattle.levels.specs.Places.{LieAll}
use Rattle.levels.specs.FoundPosts.{Frame, Finds, Spans}

-- a copy of the n cells of s from `at` on, as far behind `base`
pub record KeptArgument (s : List ℕ) (at n : ℕ) (w : List ℕ) (base : ℕ) (w' : List ℕ) : Type 0 where
  pub frame : Outside (base + at) (base + at + n) w w'
  pub copied : base ≤ length w → w' ≡ copy_cells s at n w (base + at)

-- place i of starts becomes `at`, if there is such a place and the number fits
pub record NextStart (starts : List ℕ) (i at : ℕ) (starts' : List ℕ) : Type 0 where
  pub long : length starts' ≡ length starts
  pub noted : i < 64 → at < cell_values → starts' ≡ set starts i at
  pub past : 64 ≤ i → starts' ≡ starts

-- is the category of an expression that begins with the cell x stored on its line?
pub record IsStoredPost (tb : List ℕ) (x : ℕ) (r : Bool) : Type 0 where
  pub is : r ≡ true → (x % cell_factor ≡ 1) ⊎ ((x % cell_factor ≡ 3) × (row_cell tb (x / cell_factor) at_context ≡ 0))

-- the arguments xs passed: they lie in a level's unit, of `extent` cells
abbrev pub Kept : List ℕ → ℕ → ℕ → ℕ → List ℕ → Exprs → Type 0
Kept w limit level extent starts xs = LieAll w limit level starts xs × (extent ≡ sizes xs)

-- the category of the constant of line v; `passed`, `extent` and `budget` are the answer of its arguments
pub record ConstantPost (tb ts w : List ℕ) (limit passed extent : ℕ) (starts : List ℕ) (budget level v : ℕ) (w' : List ℕ) (code size whole rest : ℕ) : Type 0 where
  pub frame : Frame limit level w w'
  pub spans : Spans code whole (extent + 1)
  pub means : {ls : Lines} {l : Line} {k : ℕ} {xs : Exprs} {m : Answer ℕ (Unit {0})} → Book ls limit tb ts → work_units * limit ≤ length w → IsLine ls v l
      → count_exprs xs ≡ length l.context → k ≤ nesting → AllKnown ls k xs → Result (λ _. Kept w limit level extent starts xs) passed budget m
      → Finds w' limit level code size rest (and_then (λ _. made limit (instantiate l.context xs 0 l.category)) m)
