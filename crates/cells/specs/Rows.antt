-- What table and term store say of the lines.
use Rattle.std.specs.Prelude.{◌≡◌, List, ℕ, ◌+◌, ◌*◌, ◌≤◌, length}
use Rattle.std.proofs.Math.Seq.{slice}
use Rattle.aut68.specs.Sizes.{row_width, at_name_start, at_name_length, at_indicator, at_context, at_kind, at_middle, at_category, at_end, at_paragraph}
use Rattle.aut68.specs.Expr.{cells}
use Rattle.aut68.specs.Lines.{Line, Lines, kind_number, kind_cells, row_cell}
use Rattle.aut68.specs.Rules.Names.{IsLine}
use Rattle.cells.specs.Cells.{At}

-- the row of line v says what l is
pub record RowOf (tb : List ℕ) (v : ℕ) (l : Line) : Type 0 where
  pub whole : row_width * v ≤ length tb
  pub indicator_is : row_cell tb v at_indicator ≡ l.indicator
  pub context_is : row_cell tb v at_context ≡ length l.context
  pub kind_is : row_cell tb v at_kind ≡ kind_number l.kind
  pub paragraph_is : row_cell tb v at_paragraph ≡ l.paragraph

-- the term store has the middle and the category of l where the row of line v says
pub record CellsOf (tb ts : List ℕ) (v : ℕ) (l : Line) : Type 0 where
  pub after_middle : List ℕ
  pub middle_at : At ts (row_cell tb v at_middle) (kind_cells l.kind) after_middle
  pub middle_ends : row_cell tb v at_category ≡ row_cell tb v at_middle + length (kind_cells l.kind)
  pub after_category : List ℕ
  pub category_at : At ts (row_cell tb v at_category) (cells l.category) after_category
  pub category_ends : row_cell tb v at_end ≡ row_cell tb v at_category + length (cells l.category)

-- the row of line v points to l's identifier in the book
pub record NameOf (book tb : List ℕ) (v : ℕ) (l : Line) : Type 0 where
  pub within : row_cell tb v at_name_start + row_cell tb v at_name_length ≤ length book
  pub bytes_are : slice (row_cell tb v at_name_start) (row_cell tb v at_name_start + row_cell tb v at_name_length) book ≡ l.identifier

-- each of the lines has its row in the table
pub record Rows (ls : Lines) (tb : List ℕ) : Type 0 where
  pub row : {v : ℕ} {l : Line} → IsLine ls v l → RowOf tb v l

-- and its cells in the term store
pub record Stored (ls : Lines) (tb ts : List ℕ) : Type 0 where
  pub cells_of : {v : ℕ} {l : Line} → IsLine ls v l → CellsOf tb ts v l

-- and its name in the book
pub record Named (ls : Lines) (book tb : List ℕ) : Type 0 where
  pub name_of : {v : ℕ} {l : Line} → IsLine ls v l → NameOf book tb v l
