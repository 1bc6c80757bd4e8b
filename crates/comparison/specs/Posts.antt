-- What a comparison leaves: of a pair, and of the parts of two sides. The first and the second say it of their own procedures.
use Rattle.std.specs.Prelude.{List, ℕ, ◌+◌, ◌*◌, ◌≤◌, ◌<◌, length, take}
use Rattle.aut68.specs.Sizes.{largest_limit, work_units, nesting}
use Rattle.aut68.specs.Language.{aut68}
use Rattle.aut68.specs.Expr.{Expr}
use Rattle.aut68.specs.Lines.{Lines}
use Rattle.aut68.specs.Procedure.Compare.{Comparison, compare_parts, compare_at}
use Rattle.aut68.specs.Procedure.PartsFirst.{parts_first_at}
use Rattle.cells.specs.Cells.{Outside}
use Rattle.cells.specs.Layout.{unit_at, side_unit}
use Rattle.cells.specs.Results.{Result}
use Rattle.heads.specs.Book.{Book}
use Rattle.sides.specs.Posts.{Pair}

-- Of a pair that may go `deeper` levels deeper, for w as it was and w' as it is left: every cell below its own frame is as it was.
-- The frame is the unit of this depth's left side, and all above it; what it holds afterwards is left to the program.
abbrev pub Frame : ℕ → ℕ → List ℕ → List ℕ → Type 0
Frame limit deeper w w' = limit ≤ largest_limit → deeper ≤ nesting → Outside (unit_at limit (side_unit deeper)) (length w) w w'

-- a procedure over some lines, under a limit, that may go some levels deeper
abbrev pub Levels : Type 0
Levels = Lines → ℕ → ℕ → Comparison

-- the procedure's answer for any pair that lies at a and b, below the frame
pub record ComparesBy (procedure : Levels) (tb ts w : List ℕ) (limit budget a b deeper : ℕ) (w' : List ℕ) (code rest : ℕ) : Type 0 where
  pub frame : Frame limit deeper w w'
  pub means : (ls : Lines) (k : ℕ) (e f : Expr) → Book ls limit tb ts → k + deeper ≤ 2 * nesting → deeper ≤ nesting → work_units * limit ≤ length w
      → Pair ls limit k (take (unit_at limit (side_unit deeper)) w) a b e f
      → Result (λ _. Unit {0}) code rest (procedure ls limit deeper e f budget)

-- the parts of the sides at l and r are compared, which may go `deeper` levels deeper
pub record ComparesPartsBy (procedure : Levels) (tb ts w : List ℕ) (limit budget l r deeper : ℕ) (w' : List ℕ) (code rest : ℕ) : Type 0 where
  pub frame : Frame limit deeper w w'
  pub means : (ls : Lines) (k : ℕ) (e f : Expr) → Book ls limit tb ts → k + deeper < 2 * nesting → deeper ≤ nesting → work_units * limit ≤ length w
      → Pair ls limit k (take (unit_at limit (side_unit deeper)) w) l r e f
      → Result (λ _. Unit {0}) code rest (compare_parts aut68 (procedure ls limit deeper) e f budget)

-- ---- the first comparison

abbrev pub Compares : List ℕ → List ℕ → List ℕ → ℕ → ℕ → ℕ → ℕ → ℕ → List ℕ → ℕ → ℕ → Type 0
Compares = ComparesBy (compare_at aut68)

abbrev pub ComparesParts : List ℕ → List ℕ → List ℕ → ℕ → ℕ → ℕ → ℕ → ℕ → List ℕ → ℕ → ℕ → Type 0
ComparesParts = ComparesPartsBy (compare_at aut68)

-- ---- the second comparison

pub record ComparesFirst (tb ts w : List ℕ) (limit budget a b deeper : ℕ) (w' : List ℕ) (code rest : ℕ) : Type 0 where
  -- whatever lies at a and b, never more is left of the budget than there was
  pub spends : rest ≤ budget
  pub compares : ComparesBy parts_first_at tb ts w limit budget a b deeper w' code rest

pub record AttemptsParts (tb ts w : List ℕ) (limit budget l r deeper : ℕ) (w' : List ℕ) (code rest : ℕ) : Type 0 where
  pub spends : rest ≤ budget
  pub compares : ComparesPartsBy parts_first_at tb ts w limit budget l r deeper w' code rest
