-- The variables of a line's context.
use Rattle.std.specs.Prelude.{◌≡◌, List, ℕ, ◌<◌, length, get_or}
use Rattle.aut68.specs.Sizes.{at_context}
use Rattle.aut68.specs.Lines.{Line, Lines, row_cell}
use Rattle.aut68.specs.Rules.Names.{IsLine}
use Rattle.heads.specs.Book.{Book}

-- the lines of the first 64 variables of the context of line v, the outermost being 0
pub record ContextLines (tb : List ℕ) (v : ℕ) (lines : List ℕ) : Type 0 where
  pub are : {ls : Lines} {l : Line} {L : ℕ} {ts : List ℕ} → Book ls L tb ts → IsLine ls v l → (i : ℕ) → i < 64 → i < length l.context
      → get_or lines i 0 ≡ get_or l.context i 0

-- taken from the row of line v, whose context has `count` variables
pub record ContextOf (tb : List ℕ) (v count : ℕ) (lines : List ℕ) : Type 0 where
  pub means : count ≡ row_cell tb v at_context → ContextLines tb v lines

-- r is variable i of the context of line v
pub record ContextVariable (tb : List ℕ) (v : ℕ) (lines : List ℕ) (i r : ℕ) : Type 0 where
  pub means : ContextLines tb v lines → {ls : Lines} {l : Line} {L : ℕ} {ts : List ℕ} → Book ls L tb ts → IsLine ls v l → i < length l.context
      → r ≡ get_or l.context i 0
