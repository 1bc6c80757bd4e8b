-- What is claimed of the calls that compare two strings of cells over an accepted book (paper 9), as types. The proofs are elsewhere.
use Rattle.std.specs.Prelude.{◌≡◌, ◌⊎◌, Bool, true, false, not, List, ℕ, ◌-◌, ◌≤◌, ◌<◌, length}
use Rattle.aut68.specs.Language.{aut68}
use Rattle.aut68.specs.Stores.{Stores, limits_of}
use Rattle.aut68.specs.Bytes.{Bytes}
use Rattle.aut68.specs.Expr.{Expr}
use Rattle.aut68.specs.Lines.{Lines}
use Rattle.aut68.specs.Rules.Steps.{Equal}
use Rattle.aut68.specs.Rules.Strings.{Reads, Whole}
use Rattle.aut68.specs.Procedure.Answer.{code_in, rest_in}
use Rattle.aut68.specs.Procedure.Calls.{decline_code, not_whole, strings_differ, string_too_large}
use Rattle.aut68.specs.Procedure.Compare.{Comparison, compare}
use Rattle.aut68.specs.Procedure.PartsFirst.{parts_first}
use Rattle.aut68.specs.Procedure.Run.{run, code_at, recorded_at}
use Rattle.aut68.specs.Comparing.{Ends}
use Rattle.aut68.specs.Admission.{AdmitsFirst}

-- the first comparison; the second, parts first
unfoldable pub comparison_of : Bool → Lines → ℕ → Comparison
comparison_of false = compare aut68
comparison_of true = parts_first

-- What a call says of two strings over the lines ls, under the limit L, with the budget N of its own. Exactly one of the three: a whole
-- string is one expression (`read_once`).
pub data Judged (second : Bool) (ls : Lines) (L N : ℕ) (left right : List ℕ) (code steps : ℕ) : Type 0 where
  -- "18, left or right string not whole; both are tested before 10"
  is_not_whole : ¬ (Whole ls left × Whole ls right) → code ≡ decline_code not_whole → steps ≡ 0 → Judged second ls L N left right code steps
  -- "A whole string of more than L cells gets 10 before any step."
  is_too_large : Whole ls left → Whole ls right → (L < length left) ⊎ (L < length right) → code ≡ decline_code string_too_large → steps ≡ 0
      → Judged second ls L N left right code steps
  is_compared : (l r : Expr) → Reads ls left l → Reads ls right r → length left ≤ L → length right ≤ L
      → code ≡ code_in (comparison_of second ls L l r N) → steps ≡ N - rest_in (comparison_of second ls L l r N) → Judged second ls L N left right code steps

-- the expressions of two strings, in a relation
pub record Between (ls : Lines) (left right : List ℕ) (R : Expr → Expr → Type 0) : Type 0 where
  pub left_side : Expr
  pub right_side : Expr
  pub left_reads : Reads ls left left_side
  pub right_reads : Reads ls right right_side
  pub related : R left_side right_side

-- What the call promises, of the bytes, the budget N of the admission, the limit L, the stores at entry, the two strings, the budget of its
-- own, its outcome and the stores at exit. Each field names two wrong programs that it shuts out.
pub record ComparesStrings (second : Bool) (book : Bytes) (N L : ℕ) (s : Stores) (left right : List ℕ) (budget code line steps count : ℕ) (s' : Stores) : Type 0 where
  -- The book is admitted first; the strings are judged over its lines. Shut out: a program that compares on what the admission left of
  -- its budget; one that leaves the sides of the comparison in the working store.
  pub admits_first : AdmitsFirst aut68 book N L s code line steps count s' (Unit {0}) (λ ls. (count ≡ 0) × Judged second ls L budget left right code steps)
  -- A string is at most one expression, so what is judged is determined. Shut out: a program that reads a constant with fewer arguments
  -- than its line has; one that reads over cells behind an expression.
  pub read_once : let ls = (recorded_at (run aut68 book (limits_of N L s))).recorded in
      code_at (run aut68 book (limits_of N L s)) ≡ 0 → (string : List ℕ) (e f : Expr) → Reads ls string e → Reads ls string f → e ≡ f
  -- "'Equal' (0) is given only with a common expression". Shut out: a program that calls sides equal when its budget is spent; one that
  -- compares a string with itself.
  pub equal : let ls = (recorded_at (run aut68 book (limits_of N L s))).recorded in code ≡ 0 → Between ls left right (Equal ls)
  -- "'different' (9) only if there is none". Shut out: a program that calls sides different whose parts differ before a head step; one
  -- that calls strings different for their lengths.
  pub different : let ls = (recorded_at (run aut68 book (limits_of N L s))).recorded in
      code_at (run aut68 book (limits_of N L s)) ≡ 0 → code ≡ decline_code strings_differ → Between ls left right (λ l r. ¬ Equal ls l r)
  -- An answer is kept under larger budgets and limits, with its steps; that the admission ends alike is in `admits_first`. Shut out: a
  -- program that tests strings only as far as L goes; one that counts steps from the larger budget.
  pub kept : let ls = (recorded_at (run aut68 book (limits_of N L s))).recorded in
      code_at (run aut68 book (limits_of N L s)) ≡ 0 → Ends code → (L' budget' code' steps' : ℕ) → L ≤ L' → budget ≤ budget'
      → Judged second ls L' budget' left right code' steps' → (code' ≡ code) × (steps' ≡ steps)
  -- "On each pair for which both end without 10 or 11 they must give one answer." Shut out: a program whose second comparison calls two
  -- uses of one abbreviation different when their arguments differ; one that tests the strings in one of its two entries alone.
  pub one_answer : let ls = (recorded_at (run aut68 book (limits_of N L s))).recorded in
      code_at (run aut68 book (limits_of N L s)) ≡ 0 → Ends code → (L' budget' code' steps' : ℕ)
      → Judged (not second) ls L' budget' left right code' steps' → Ends code' → code' ≡ code
