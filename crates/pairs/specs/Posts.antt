-- What the functions leave.
use Rattle.std.specs.Prelude.{◌≡◌, List, ℕ, ◌*◌, length, drop}
use Rattle.aut68.specs.Sizes.{work_units}
use Rattle.aut68.specs.Lines.{Lines}
use Rattle.aut68.specs.Procedure.Calls.{decline_code, not_whole}
use Rattle.heads.specs.Book.{Book}
use Rattle.outcomes.specs.declared.answers.AnswerNumbers.{AnswerNumbers}
use Rattle.pairs.specs.declared.Pair.{Pair}
use Rattle.pairs.specs.Sheet.{Marked, MarkedUpTo}

-- the numbers of a string that is not whole
abbrev pub NotWhole : AnswerNumbers → Type 0
NotWhole r = (r.code ≡ decline_code not_whole) × (r.line ≡ 0) × (r.steps ≡ 0) × (r.length ≡ 0)

-- one pair, over the first `lines` lines
pub record PairPost (tb ts w : List ℕ) (limit lines : ℕ) (cells : List ℕ) (p : Pair) (place : AnswerNumbers) (w' : List ℕ) : Type 0 where
  pub means : (ls : Lines) → Book ls limit tb ts → length ls ≡ lines → Marked ls limit cells p place
  pub rest_kept : drop (work_units * limit) w' ≡ drop (work_units * limit) w

-- the first n pairs
pub record PairsPost (tb ts w : List ℕ) (limit lines : ℕ) (cells : List ℕ) (pairs : List Pair) (sheet : List AnswerNumbers) (n : ℕ) (w' : List ℕ) (sheet' : List AnswerNumbers) : Type 0 where
  pub means : (ls : Lines) → Book ls limit tb ts → length ls ≡ lines → MarkedUpTo n ls limit cells pairs sheet'
  pub rest_kept : drop (work_units * limit) w' ≡ drop (work_units * limit) w
  -- without pairs nothing is worked on
  pub untouched : n ≡ 0 → w' ≡ w
  pub places_kept : drop n sheet' ≡ drop n sheet
