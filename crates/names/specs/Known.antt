-- What a book, a table and a count of lines say of the lines.
use Rattle.std.specs.Prelude.{◌≡◌, true, false, ◌&&◌, List, ℕ, ◌+◌, ◌*◌, ◌≤◌, ◌<◌, leb, length}
use Rattle.std.specs.Borrow.{Bor}
use Rattle.std.proofs.Math.Seq.{slice}
use Rattle.aut68.specs.Bytes.{Bytes}
use Rattle.aut68.specs.Lines.{identifier_part, Line, Lines, row_cell}
use Rattle.aut68.specs.Rules.Names.{IsLine, Context}
use Rattle.aut68.specs.Sizes.{line_limit, row_width, at_name_start, at_name_length}
use Rattle.lookup.specs.Identifiers.{DistinctNames}
use Rattle.cells.specs.Rows.{Rows, Named}
use Rattle.cells.specs.Links.{unlinked}

-- the first `lines` rows of the table, linked or not, are those of the lines ls, whose names stand in the book
pub record Known (ls : Lines) (book tb : List ℕ) (lines : ℕ) : Type 0 where
  pub rows : Rows ls tb
  pub named : Named ls book (unlinked lines tb)
  pub count : length ls ≡ lines
  pub few : lines < line_limit
  pub contexts : {v : ℕ} {l : Line} → IsLine ls v l → Context ls l.indicator l.context
  pub distinct : DistinctNames ls
  pub behind : {v : ℕ} {l : Line} → IsLine ls v l → l.indicator < v

-- the part r of what s lends: the same memory, from index `start` on, with these bytes
pub record PartLent (s r : Bor (List ℕ)) (start : ℕ) (bytes : Bytes) : Type 0 where
  pub block : r.ref_ptr.0 ≡ s.ref_ptr.0
  pub place : r.ref_ptr.1 ≡ s.ref_ptr.1 + start
  pub contents : r.now ≡ bytes

-- where in the book that part starts; an empty part at the book's start where there is no identifier
unfoldable pub identifier_start : Bytes → List ℕ → ℕ → ℕ
identifier_start book tb line =
    elim (leb 1 line && leb (row_width * line) (length tb) && leb (row_cell tb line at_name_start + row_cell tb line at_name_length) (length book)) [ true ↦ row_cell tb line at_name_start | false ↦ 0 ]

-- the identifier of a line is the len bytes of the book from `start` on
pub record IdentifierPlaced (book tb : List ℕ) (line start len : ℕ) : Type 0 where
  pub start_is : start ≡ identifier_start book tb line
  pub len_is : len ≡ length (identifier_part book tb line)
  pub within : start + len ≤ length book
  pub bytes_are : slice start (start + len) book ≡ identifier_part book tb line
