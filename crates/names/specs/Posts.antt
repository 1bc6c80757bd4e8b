-- What the functions on lines and hints leave.
use Rattle.std.specs.Prelude.{◌≡◌, List, ℕ, suc, ◌*◌, ◌≤◌, ◌<◌, length, get_or, set}
use Rattle.std.proofs.Math.Option.{Option, none, some}
use Rattle.aut68.specs.Bytes.{Bytes}
use Rattle.aut68.specs.Lines.{Lines, number_in}
use Rattle.aut68.specs.Sizes.{cell_values, line_limit, row_width}
use Rattle.cells.specs.Links.{link_factor, link_at, link_row}
use Rattle.names.specs.Known.{Known}
use Rattle.names.specs.Hints.{hash_of, slot_at, Hinted}

-- the number, or the given one where there is none
unfoldable pub number_or : ℕ → Option ℕ → ℕ
number_or n none = n
number_or n (some v) = v

-- r is the line of the paragraph q whose identifier is the word, of the hash h; 0: none
pub record LineFound (book tb : List ℕ) (lines : ℕ) (w : List ℕ) (word : Bytes) (h q r : ℕ) : Type 0 where
  pub within : r ≤ lines
  pub is : (ls : Lines) → Known ls book tb lines → Hinted book tb lines w → 1 ≤ length word → h ≡ hash_of word → r ≡ number_or 0 (number_in ls word q)

-- v is at the head of the chain of the hash h in the paragraph q; r was
pub record HeadPost (w w' : List ℕ) (h q v r : ℕ) : Type 0 where
  pub long : length w' ≡ length w
  pub was : slot_at (length w) h q < length w → v < cell_values → r ≡ get_or w (slot_at (length w) h q) 0
  pub is : slot_at (length w) h q < length w → v < cell_values → w' ≡ set w (slot_at (length w) h q) v

-- the row behind the first n rows is linked to line h
pub record LinkPost (tb tb' : List ℕ) (n h : ℕ) : Type 0 where
  pub long : length tb' ≡ length tb
  pub is : suc n < line_limit → h < line_limit → row_width * suc n ≤ length tb → get_or tb (link_at n) 0 < link_factor → tb' ≡ link_row tb n h
