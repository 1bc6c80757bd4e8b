-- What the functions of a walk leave.
use Rattle.std.specs.Prelude.{◌≡◌, Bool, true, false, List, ◌++◌, ℕ, ◌+◌, ◌≤◌, ◌<◌, drop}
use Rattle.aut68.specs.Sizes.{cell_values}
use Rattle.aut68.specs.Bytes.{Bytes, lines}
use Rattle.kinds.specs.Kinds.{KindsTable}
use Rattle.names.specs.Posts.{number_or}
use Rattle.walks.specs.declared.Step.{Step}
use Rattle.walks.specs.declared.Step.TheVariants.{Found, Further}
use Rattle.walks.specs.Walk.{deep_behind, count_behind, opens_here, child_from}

-- one line further: d paragraphs are open and the book has n, and the last of them is the one sought or it is not
pub record LinePassed (ks line word : Bytes) (deep count d n : ℕ) (found : Bool) : Type 0 where
  pub shallow : d ≤ deep + 1
  pub few : n ≤ count + 1
  pub deep_is : KindsTable ks → d ≡ deep_behind line deep
  pub count_is : KindsTable ks → n ≡ count_behind line count
  pub found_is : KindsTable ks → found ≡ opens_here word deep line

abbrev pub StepPassed : Bytes → Bytes → Bytes → ℕ → ℕ → Step → Type 0
StepPassed ks line word deep count (Found n) = (1 ≤ n) × LinePassed ks line word deep count (deep + 1) n true
StepPassed ks line word deep count (Further d n) = LinePassed ks line word deep count d n false

-- r is the paragraph that a walk from byte `from` to byte `to` finds, both at the start of a line; 0: none
pub record Walked (ks book : Bytes) (from to q : ℕ) (word : Bytes) (r : ℕ) : Type 0 where
  pub is : KindsTable ks → (pieces : List Bytes) → lines (drop from book) ≡ pieces ++ lines (drop to book) → q < cell_values → r ≡ number_or 0 (child_from word 0 q pieces)
