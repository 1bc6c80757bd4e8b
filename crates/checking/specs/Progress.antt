-- What the functions that check an ordinary line leave.
use Rattle.std.specs.Prelude.{◌≡◌, ◌≢◌, false, List, ◌∷◌, ℕ, suc, ◌+◌, ◌*◌, ◌≤◌, ◌<◌, length, get_or, take, drop, set}
use Rattle.std.proofs.Math.Seq.{slice}
use Rattle.std.proofs.lemmas.List.Edits.{sets}
use Rattle.aut68.specs.Language.{aut68}
use Rattle.aut68.specs.Sizes.{line_limit, row_width, at_name_length, smallest_limit, largest_limit, book_limit, work_units}
use Rattle.aut68.specs.Stores.{Stores, limits_of}
use Rattle.aut68.specs.Bytes.{Bytes, lines}
use Rattle.aut68.specs.Lines.{Line, Lines, line_cells, row_cell}
use Rattle.aut68.specs.Procedure.Answer.{done, stop, Refusal, code_of}
use Rattle.aut68.specs.Paragraphs.{State}
use Rattle.aut68.specs.Procedure.Parse.{signed}
use Rattle.aut68.specs.Procedure.CheckLine.{Passed, check_categories}
use Rattle.aut68.specs.Procedure.CheckPiece.{passed_line, check_piece}
use Rattle.aut68.specs.Procedure.Run.{Recorded, state_of, one_more}
use Rattle.cells.specs.Cells.{At, Below}
use Rattle.cells.specs.Layout.{line_unit, reader_units}
use Rattle.cells.specs.Results.{Result}
use Rattle.kinds.specs.Kinds.{KindsTable}
use Rattle.cells.specs.Links.{link_factor, link_row, unlinked}
use Rattle.names.specs.Hints.{line_slot}
use Rattle.notes.specs.Note.{StandsAt}
use Rattle.heads.specs.Book.{Book}
use Rattle.categories.specs.Places.{LineCells}
use Rattle.records.specs.Reached.{Reached}
use Rattle.records.specs.Indexed.{Indexed}

-- ---- a line whose cells are stored and checked

-- The line l was read after the lines ls: its cells stand in their units of the working store; in the term store there is room
-- for them behind `used` cells, and with them the store is as the categories want it.
pub record ToStore (ls : Lines) (l : Line) (limit used middle size : ℕ) (tb ts w : List ℕ) : Type 0 where
  pub size_is : size ≡ length (line_cells l)
  pub behind : List ℕ
  pub cells_at : At w (line_unit * limit) (line_cells l) behind
  pub enough : work_units * limit ≤ length w
  pub few : used + size < 4294967296
  pub book : Book ls limit tb (take (used + size) (sets ts used (line_cells l)))
  pub cells : LineCells ls (take (used + size) (sets ts used (line_cells l))) limit used (used + middle) l

-- the row and the cells of a line are written
pub record Written (l : Line) (n used : ℕ) (row tb ts tb' ts' : List ℕ) : Type 0 where
  pub table_is : suc n < line_limit → Below 4294967296 row → tb' ≡ sets tb (row_width * n) row
  pub terms_are : ts' ≡ sets ts used (line_cells l)

-- its categories were checked: it is written if they pass, and else table and term store are as they were; the hints, which lie
-- below its cells, are as they were either way
pub record StoredPost (limit n used middle size : ℕ) (row : List ℕ) (budget : ℕ) (tb ts w tb' ts' w' : List ℕ) (code left : ℕ) : Type 0 where
  pub long : length w' ≡ length w
  pub below : limit ≤ largest_limit → take (line_unit * limit) w' ≡ take (line_unit * limit) w
  pub means : {ls : Lines} {l : Line} → ToStore ls l limit used middle size tb ts w
      → Result (λ _. Written l n used row tb ts tb' ts') code left (check_categories aut68 ls limit l budget)
  pub restored : {ls : Lines} {l : Line} → ToStore ls l limit used middle size tb ts w → code ≢ 0 → (tb' ≡ tb) × (ts' ≡ ts)

-- ---- a line that is noted

-- The line whose row stands behind the first n rows is at the head of its slot's chain, and its row is linked to the former head.
pub record Noted (book tb tb' : List ℕ) (n : ℕ) (w w' : List ℕ) : Type 0 where
  pub link_is : get_or w (line_slot book tb (length w) (suc n)) 0 < line_limit → tb' ≡ link_row tb n (get_or w (line_slot book tb (length w) (suc n)) 0)
  pub head_is : w' ≡ set w (line_slot book tb (length w) (suc n)) (suc n)

-- It was noted for name lookup, which has the first 26 units of the working store.
pub record NotedLine (book tb tb' : List ℕ) (n limit : ℕ) (w w' : List ℕ) : Type 0 where
  pub long : length w' ≡ length w
  pub table_long : length tb' ≡ length tb
  pub noted : suc n < line_limit → row_width * suc n ≤ length tb → 1 ≤ limit → reader_units * limit ≤ length w → row_cell tb (suc n) at_name_length < link_factor
      → Noted book tb tb' n (take (reader_units * limit) w) (take (reader_units * limit) w')

-- ---- a line of the book

-- the limits under which a book is checked
pub record Fitting (book : Bytes) (limit : ℕ) (w : List ℕ) : Type 0 where
  pub large : smallest_limit ≤ limit
  pub small : limit ≤ largest_limit
  pub enough : work_units * limit ≤ length w
  pub short : length book ≤ book_limit

-- the state is noted in the units of name lookup, where the check stands at byte `at`, behind n lines
abbrev pub StandsIn : ℕ → State → Bytes → List ℕ → ℕ → List ℕ → ℕ → Type 0
StandsIn limit st book tb n w at = StandsAt st book tb n (take (reader_units * limit) w) at

-- the piece of the book from `at` to `next` has these bytes
pub record IsPiece (book : Bytes) (at next : ℕ) (bytes : Bytes) : Type 0 where
  pub cut : lines (drop at book) ≡ bytes ∷ lines (drop next book)
  pub next_is : next ≡ at + length bytes
  pub bytes_are : bytes ≡ slice at next book

-- The ordinary line that begins at `at`, after what is recorded in k, with the stores s lent under N and the limit: if it passes, it is
-- recorded, indexed and noted as well; if it is refused, table, term store and index are as they were. The rows are linked.
pub data LineResult (book : Bytes) (N limit : ℕ) (s : Stores) (k : Recorded) (at next : ℕ) (bytes : Bytes) (n budget : ℕ) (tb ts ix : List ℕ) (code n' used' entries' left : ℕ) (tb' ts' ix' w' : List ℕ) : Type 0 where
  passed : {p : Passed}
      → check_piece aut68 (state_of k) (limits_of N limit s) bytes budget ≡ done (passed_line p) left
      → code ≡ 0 → Reached aut68 book N limit s (one_more k at p) next n' used' (unlinked n' tb') ts' → Indexed s (one_more k at p) entries' ix' → StandsIn limit (state_of (one_more k at p)) book tb' n' w' next
      → LineResult book N limit s k at next bytes n budget tb ts ix code n' used' entries' left tb' ts' ix' w'
  refused : {r : Refusal}
      → check_piece aut68 (state_of k) (limits_of N limit s) bytes budget ≡ stop r left
      → code ≡ code_of r → n' ≡ n → tb' ≡ tb → ts' ≡ ts → ix' ≡ ix
      → LineResult book N limit s k at next bytes n budget tb ts ix code n' used' entries' left tb' ts' ix' w'

pub record LinePost (book ks : Bytes) (limit at next n used entries budget : ℕ) (tb ts ix w : List ℕ) (code at' n' used' entries' left : ℕ) (tb' ts' ix' w' : List ℕ) : Type 0 where
  -- the check goes on behind this line
  pub onward : code ≡ 0 → at' ≡ next
  pub means : {N : ℕ} {s : Stores} {k : Recorded} {bytes : Bytes} → Fitting book limit w → KindsTable ks → IsPiece book at next bytes → signed 43 bytes ≡ false → signed 45 bytes ≡ false
      → Reached aut68 book N limit s k at n used (unlinked n tb) ts → Indexed s k entries ix → StandsIn limit (state_of k) book tb n w at
      → LineResult book N limit s k at next bytes n budget tb ts ix code n' used' entries' left tb' ts' ix' w'
