-- What the functions on entries of the index leave.
use Rattle.std.specs.Prelude.{◌≡◌, List, ◌∷◌, ℕ, suc, ◌+◌, ◌*◌, ◌≤◌, ◌<◌, length, take}
use Rattle.std.proofs.Math.Seq.{slice}
use Rattle.std.proofs.lemmas.List.Edits.{sets}
use Rattle.aut68.specs.Sizes.{line_limit, smallest_limit, largest_limit, work_units}
use Rattle.aut68.specs.Lines.{Line, line_cells}
use Rattle.aut68.specs.Index.{names_of}
use Rattle.cells.specs.Cells.{At}
use Rattle.cells.specs.Layout.{names_at, line_unit}

-- the lines that l names stand ahead of the units of its cells, count of them
pub record NamesPut (l : Line) (limit count : ℕ) (w : List ℕ) : Type 0 where
  pub fits : count ≤ 2 * limit + 1
  pub are : slice (names_at limit) (names_at limit + count) w ≡ names_of l

-- The lines that a line names are put ahead of its cells, count of them; what lies ahead of them is as it was, and the two units of the
-- line's cells are.
pub record NamesPost (limit size indicator : ℕ) (w w' : List ℕ) (count : ℕ) : Type 0 where
  pub long : length w' ≡ length w
  pub ahead : take (names_at limit) w' ≡ take (names_at limit) w
  pub cells_stay : slice (line_unit * limit) (line_unit * limit + 2 * limit) w' ≡ slice (line_unit * limit) (line_unit * limit + 2 * limit) w
  pub means : (l : Line) {rest : List ℕ} → smallest_limit ≤ limit → limit ≤ largest_limit → work_units * limit ≤ length w
      → At w (line_unit * limit) (line_cells l) rest → size ≡ length (line_cells l) → size ≤ 2 * limit → indicator ≡ l.indicator → indicator < line_limit
      → NamesPut l limit count w'

-- An entry with the n cells of w from `at` on is put behind the first `used` cells of the index, where it has room.
pub record EntryPost (index : List ℕ) (used : ℕ) (w : List ℕ) (at n : ℕ) (index' : List ℕ) : Type 0 where
  pub put : used + suc n ≤ length index → at + n ≤ length w → n < 4294967296 → index' ≡ sets index used (n ∷ slice at (at + n) w)
