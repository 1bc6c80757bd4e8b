-- What the functions on strings say.
use Rattle.std.specs.Prelude.{Option, None, Some, ◌≡◌, Bool, true, List, ℕ, suc, ◌+◌, ◌<◌, length, get_or}
use Rattle.aut68.specs.Lines.{Line, Lines, kind_number}
use Rattle.aut68.specs.Rules.Names.{IsLine}
use Rattle.aut68.specs.Rules.Strings.{Whole}
use Rattle.cells.specs.Rows.{Rows}
use Rattle.strings.specs.Levels.{levels_at, RightCell}
use Rattle.strings.specs.Notes.{numbers, Notes}

-- more than n bindings stand around the cell at index i of s, or not
pub record SaysBound (tb s : List ℕ) (i n : ℕ) (answer : Bool) : Type 0 where
  pub means : 0 < length (levels_at tb s i) → (answer ≡ true → n < get_or (levels_at tb s i) 0 0) × (n < get_or (levels_at tb s i) 0 0 → answer ≡ true)

-- the same by the note at index `at` of w, which is that of the cell
pub record SaysNoted (tb s : List ℕ) (i n : ℕ) (w : List ℕ) (at : ℕ) (answer : Bool) : Type 0 where
  pub means : Notes tb s i w → at + 1 ≡ length (levels_at tb s i) → n < numbers
      → (answer ≡ true → n < get_or (levels_at tb s i) 0 0) × (n < get_or (levels_at tb s i) 0 0 → answer ≡ true)

-- the number of a kind that may be none
abbrev pub kind_in : Option ℕ → ℕ
kind_in None = 0
kind_in (Some k) = suc k

-- what line v is, or that there is none
pub data KindOf (ls : Lines) (v kind : ℕ) : Type 0 where
  no_line : ((l : Line) → ¬ IsLine ls v l) → kind ≡ 0 → KindOf ls v kind
  is_line : (l : Line) → IsLine ls v l → kind ≡ suc (kind_number l.kind) → KindOf ls v kind

pub record SaysKind (tb : List ℕ) (lines v kind : ℕ) : Type 0 where
  pub means : (ls : Lines) → Rows ls tb → length ls ≡ lines → KindOf ls v kind

-- the cell at index i of s is right where it stands, or not
pub record SaysRight (tb : List ℕ) (lines : ℕ) (s : List ℕ) (i : ℕ) (w : List ℕ) (at : ℕ) (answer : Bool) : Type 0 where
  pub means : (ls : Lines) → Rows ls tb → length ls ≡ lines → Notes tb s i w → at + 1 ≡ length (levels_at tb s i)
      → (answer ≡ true → RightCell ls (get_or (levels_at tb s i) 0 0) (get_or s i 0)) × (RightCell ls (get_or (levels_at tb s i) 0 0) (get_or s i 0) → answer ≡ true)

-- s is whole over the lines ls, or not: both ways
pub record SaysWhole (tb : List ℕ) (lines : ℕ) (s : List ℕ) (answer : Bool) : Type 0 where
  pub means : (ls : Lines) → Rows ls tb → length ls ≡ lines → (answer ≡ true → Whole ls s) × (Whole ls s → answer ≡ true)
