-- What the functions on rows leave.
use Rattle.std.specs.Prelude.{◌≡◌, Bool, true, ◌&&◌, not, ℕ, ◌≤◌, ◌<◌, eqb, length, get_or, take, drop}
use Rattle.aut68.specs.Sizes.{text_columns}
use Rattle.aut68.specs.Bytes.{Bytes}
use Rattle.aut68.specs.Procedure.Run.{over}
use Rattle.aut68.specs.Pages.{text_of, numbered, row}

-- is it printed?
abbrev pub text_byte : ℕ → Bool
text_byte b = not (eqb b 32) && not (eqb b 10)

-- the text that is left of a line from r on; its first byte is at r, the line's end if there is none
pub record TextLeft (line text : Bytes) (r : ℕ) : Type 0 where
  pub within : r ≤ length line
  pub is : text_of (drop r line) ≡ text
  pub some : r < length line → text_byte (get_or line r 0) ≡ true

-- the text of a line from `at` on is put in a part as far as it goes; what is left begins at r
pub record TextPut (line : Bytes) (at : ℕ) (old : Bytes) (r : ℕ) (new : Bytes) : Type 0 where
  pub put : new ≡ over (take (length old) (text_of (drop at line))) old
  pub left : TextLeft line (drop (length old) (text_of (drop at line))) r

-- the next row of a line, from `at` on, with the number n; what is left begins at r
pub record RowPut (line : Bytes) (at n r : ℕ) (new : Bytes) : Type 0 where
  pub put : new ≡ row (numbered n) (take text_columns (text_of (drop at line)))
  pub left : TextLeft line (drop text_columns (text_of (drop at line))) r
