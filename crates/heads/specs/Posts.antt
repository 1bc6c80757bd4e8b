-- What the functions that find a head step leave.
use Rattle.std.specs.Prelude.{◌≡◌, Option, None, Some, List, ℕ, ◌+◌, ◌/◌, ◌%◌}
use Rattle.aut68.specs.Sizes.{cell_factor, at_kind}
use Rattle.aut68.specs.Expr.{Expr, size, cells}
use Rattle.aut68.specs.Lines.{Lines, row_cell}
use Rattle.calculus.specs.Resolved.{KnownCategory}
use Rattle.cells.specs.Cells.{At}
use Rattle.heads.specs.Book.{Book}
use Rattle.heads.specs.Heads.{HeadIs}
use Rattle.heads.specs.declared.heads.Head.{Head}
use Rattle.heads.specs.declared.heads.HeadStep.{HeadStep}
use Rattle.heads.specs.declared.heads.HeadStep.TheVariants.{Contraction, Unfolding}

-- ---- what was found, in numbers: the kind (0 none, 1 a contraction, 2 an unfolding), and the line that is unfolded

abbrev pub kind_of : HeadStep → ℕ
kind_of Contraction = 1
kind_of (Unfolding v) = 2

abbrev pub line_of : HeadStep → ℕ
line_of Contraction = 0
line_of (Unfolding v) = v

abbrev pub kind_of_step : Option HeadStep → ℕ
kind_of_step None = 0
kind_of_step (Some s) = kind_of s

abbrev pub line_of_step : Option HeadStep → ℕ
line_of_step None = 0
line_of_step (Some s) = line_of s

abbrev pub kind_in : Option Head → ℕ
kind_in None = 0
kind_in (Some h) = kind_of h.step

abbrev pub line_in : Option Head → ℕ
line_in None = 0
line_in (Some h) = line_of h.step

-- where the redex starts, and the cells before it: where there is none, the start of the expression
abbrev pub at_in : ℕ → Option Head → ℕ
at_in start None = start
at_in start (Some h) = h.at

abbrev pub kept_in : Option Head → ℕ
kept_in None = 0
kept_in (Some h) = h.kept

-- ---- what it means

-- the head step of an expression that is no application, with the first cell x
pub record CellStep (tb : List ℕ) (x kind line : ℕ) : Type 0 where
  pub unfolds : x % cell_factor ≡ 3 → row_cell tb (x / cell_factor) at_kind ≡ 2 → (kind ≡ 2) × (line ≡ x / cell_factor)
  pub stays : (x % cell_factor ≡ 3 → row_cell tb (x / cell_factor) at_kind ≡ 2 → ⊥) → kind ≡ 0

-- the head step of the expression of n cells at index `at` of w
pub record HeadPost (tb w : List ℕ) (start n kind at kept line : ℕ) : Type 0 where
  -- whatever lies there
  pub placed : at ≡ start + kept
  pub is : {ls : Lines} {L : ℕ} {ts : List ℕ} → Book ls L tb ts → (k : ℕ) (e : Expr) {rest : List ℕ} → KnownCategory ls k e → At w start (cells e) rest
      → n ≡ size e → HeadIs ls start kind at kept line e
