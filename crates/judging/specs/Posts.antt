-- What the comparison of two strings leaves.
use Rattle.std.specs.Prelude.{◌≡◌, ◌⊎◌, Bool, true, false, List, ℕ, ◌*◌, ◌≤◌, length}
use Rattle.aut68.specs.Language.{aut68}
use Rattle.aut68.specs.Sizes.{work_units, nesting}
use Rattle.aut68.specs.Lines.{Lines}
use Rattle.aut68.specs.Procedure.Answer.{code_of, mismatch, too_large, out_of_budget}
use Rattle.aut68.specs.Procedure.Compare.{compare_at}
use Rattle.aut68.specs.Procedure.PartsFirst.{parts_first_at}
use Rattle.aut68.specs.Desk.{Judged}
use Rattle.heads.specs.Book.{Book}
use Rattle.comparison.specs.Posts.{Levels, ComparesBy}
use Rattle.judging.specs.declared.Comparison.{Comparison}
use Rattle.judging.specs.declared.Comparison.TheVariants.{First, PartsFirst}

-- is it the second?
abbrev pub second_in : Comparison → Bool
second_in First = false
second_in PartsFirst = true

-- the first comparison, or the second
unfoldable pub levels_of : Bool → Levels
levels_of false = compare_at aut68
levels_of true = parts_first_at

-- the pair at a and b, compared from depth 1 on
pub record ComparesOne (second : Bool) (tb ts w : List ℕ) (limit budget a b : ℕ) (w' : List ℕ) (code rest : ℕ) : Type 0 where
  pub compares : ComparesBy (levels_of second) tb ts w limit budget a b nesting w' code rest

-- the answer has the code that a comparison ended with
abbrev pub Named : ℕ → ℕ → Type 0
Named code answered = (code ≡ 0) ⊎ ((code ≡ code_of mismatch) ⊎ ((code ≡ code_of too_large) ⊎ (code ≡ code_of out_of_budget))) → answered ≡ code

-- two strings judged over the first `lines` lines
pub record JudgedPost (second : Bool) (tb ts w : List ℕ) (limit lines : ℕ) (left right : List ℕ) (budget code line steps count : ℕ) : Type 0 where
  pub no_line : line ≡ 0
  pub nothing_written : count ≡ 0
  pub means : (ls : Lines) → Book ls limit tb ts → length ls ≡ lines → work_units * limit ≤ length w → Judged second ls limit budget left right code steps
