-- What the functions that find arguments left out and put them in leave.
use Rattle.std.specs.Prelude.{◌≡◌, List, [], ◌∷◌, ◌++◌, ℕ, zero, suc, ◌+◌, ◌*◌, ◌≤◌, ◌<◌, length, get_or, Option, None, Some}
use Rattle.std.proofs.Math.Seq.{slice}
use Rattle.aut68.specs.Bytes.{Bytes}
use Rattle.aut68.specs.Lines.{Line, Lines, row_cell}
use Rattle.aut68.specs.Procedure.Answer.{wrong_arity}
use Rattle.aut68.specs.Procedure.Resolve.{found, refused, left_out, context_at}
use Rattle.aut68.specs.Rules.Names.{IsLine}
use Rattle.aut68.specs.Sizes.{cell_factor, line_limit, at_indicator}
use Rattle.cells.specs.Cells.{Outside}
use Rattle.names.specs.Known.{Known}
use Rattle.meanings.specs.NotedContext.{ContextNoted}

-- the cells of the variables of these lines
unfoldable pub variable_cells : List ℕ → List ℕ
variable_cells [] = []
variable_cells (v ∷ vs) = (cell_factor * v + 1) ∷ variable_cells vs

-- the line n indicators up from line c
unfoldable pub line_up : List ℕ → ℕ → ℕ → ℕ
line_up tb c zero = c
line_up tb c (suc n) = row_cell tb (line_up tb c n) at_indicator

-- r is that line
pub record LineUp (tb : List ℕ) (c n r : ℕ) : Type 0 where
  pub is : r ≡ line_up tb c n

-- r is the last variable left out where the constant of line v is written with `count` arguments, fewer than its context has; None where
-- they cannot be put in
pub record LastLeftOut (tb w : List ℕ) (indicator v count : ℕ) (r : Option ℕ) : Type 0 where
  pub none : (ls : Lines) (book : Bytes) (lines : ℕ) → Known ls book tb lines → ContextNoted ls indicator w → indicator ≤ lines
      → (l : Line) → IsLine ls v l → count < length l.context → r ≡ None
      → left_out count l.context (context_at ls indicator) tt ≡ refused wrong_arity
  pub some : (ls : Lines) (book : Bytes) (lines : ℕ) → Known ls book tb lines → ContextNoted ls indicator w → indicator ≤ lines
      → (l : Line) → IsLine ls v l → count < length l.context → (last : ℕ) → r ≡ Some last
      → (1 ≤ last) × (last ≤ lines) × (left_out count l.context (context_at ls indicator) tt ≡ found (context_at ls last))

-- the cells from `from` up to `end` stand n cells up
pub record ShiftedUp (w w' : List ℕ) (from end n : ℕ) : Type 0 where
  pub kept : Outside (from + n) (end + n) w w'
  pub moved : (i : ℕ) → from ≤ i → i < end → get_or w' (i + n) 0 ≡ get_or w i 0

-- r is the cell of the variable of line c; 0 for a number that no line has
pub record VariableCell (c r : ℕ) : Type 0 where
  pub line : c < line_limit → r ≡ cell_factor * c + 1
  pub no_line : line_limit ≤ c → r ≡ 0

-- the n cells from `from` on are those of the n lines up from `last`, that one's the last cell
pub record VariablesPut (tb w w' : List ℕ) (from n last : ℕ) : Type 0 where
  pub kept : Outside from (from + n) w w'
  pub put : (i j : ℕ) → i + suc j ≡ n → VariableCell (line_up tb last j) (get_or w' (from + i) 0)

-- the variables of the context that ends with line `last` stand in front of the cells from `from` up to `end`, all of them up to r;
-- r is past the store's end where it has no room for them
pub record PutIn (tb w w' : List ℕ) (from end last r : ℕ) : Type 0 where
  pub kept : Outside from (length w) w w'
  pub small : r ≤ length w + 1
  pub up : end ≤ length w + 1 → end ≤ r
  pub put : (ls : Lines) (book : Bytes) (lines : ℕ) → Known ls book tb lines → 1 ≤ last → last ≤ lines → from ≤ end → r ≤ length w
      → slice from r w' ≡ variable_cells (context_at ls last) ++ slice from end w
  pub over : (ls : Lines) (book : Bytes) (lines : ℕ) → Known ls book tb lines → 1 ≤ last → last ≤ lines → from ≤ end → length w < r
      → length w < end + length (context_at ls last)
