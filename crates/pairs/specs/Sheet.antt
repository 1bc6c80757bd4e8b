-- What is claimed of the call that compares a list of pairs over an accepted book (paper 10), as types. The proofs are elsewhere.
use Rattle.std.specs.Prelude.{◌≡◌, true, false, List, [], ℕ, ◌+◌, ◌≤◌, ◌<◌, leb, length, take, drop, get_or}
use Rattle.aut68.specs.Language.{aut68}
use Rattle.aut68.specs.Stores.{Stores}
use Rattle.aut68.specs.Bytes.{Bytes}
use Rattle.aut68.specs.Lines.{Lines}
use Rattle.aut68.specs.Procedure.Calls.{decline_code, store_too_small}
use Rattle.aut68.specs.Admission.{AdmitsFirst}
use Rattle.aut68.specs.Desk.{Judged, ComparesStrings}
use Rattle.outcomes.specs.declared.answers.AnswerNumbers.{AnswerNumbers}
use Rattle.pairs.specs.declared.Pair.{Pair}

-- "Each string is a start and a length in one lent slice; past its end it is not whole": there it has no cells, and no cells are no
-- expression.
unfoldable pub string_at : List ℕ → ℕ → ℕ → List ℕ
string_at cells start count = elim (leb (start + count) (length cells)) [ true ↦ take count (drop start cells) | false ↦ [] ]

abbrev pub left_of : List ℕ → Pair → List ℕ
left_of cells p = string_at cells p.left p.left_length

abbrev pub right_of : List ℕ → Pair → List ℕ
right_of cells p = string_at cells p.right p.right_length

-- What a place of the sheet holds of a pair, for each outcome: the code and the steps of the first comparison of its strings, on its own
-- budget (`Judged`); line and length are 0.
pub record Marked (ls : Lines) (L : ℕ) (cells : List ℕ) (p : Pair) (place : AnswerNumbers) : Type 0 where
  pub judged : Judged false ls L p.budget (left_of cells p) (right_of cells p) place.code place.steps
  pub no_line : place.line ≡ 0
  pub nothing_written : place.length ≡ 0

-- the place at i holds the outcome of the pair at i
unfoldable pub MarkedAt : Lines → ℕ → List ℕ → List Pair → List AnswerNumbers → ℕ → Type 0
MarkedAt ls L cells pairs sheet i = (d : Pair) (e : AnswerNumbers) → Marked ls L cells (get_or pairs i d) (get_or sheet i e)

-- the first n places hold the outcomes of the first n pairs, in their order
unfoldable pub MarkedUpTo : ℕ → Lines → ℕ → List ℕ → List Pair → List AnswerNumbers → Type 0
MarkedUpTo n ls L cells pairs sheet = (i : ℕ) → i < n → MarkedAt ls L cells pairs sheet i

-- the number of pairs, as far as 32 bits go
unfoldable pub counted : ℕ → ℕ
counted n = elim (leb n 4294967295) [ true ↦ n | false ↦ 4294967295 ]

-- What the call says of a list of pairs and a sheet, and what it leaves there. Exactly one of the two.
pub data Sheeted (ls : Lines) (L : ℕ) (cells : List ℕ) (pairs : List Pair) (old : List AnswerNumbers) (code steps count : ℕ) (new : List AnswerNumbers) : Type 0 where
  -- "If the sheet for outcomes is shorter than the list, the call gives 15; then .. it writes none."
  too_short : length old < length pairs → code ≡ decline_code store_too_small → steps ≡ 0 → count ≡ 0 → new ≡ old → Sheeted ls L cells pairs old code steps count new
  -- "the call itself gives 0 with 0 steps"
  marked : length pairs ≤ length old → code ≡ 0 → steps ≡ 0 → count ≡ counted (length pairs) → MarkedUpTo (length pairs) ls L cells pairs new
      → drop (length pairs) new ≡ drop (length pairs) old → Sheeted ls L cells pairs old code steps count new

-- What the call promises, of the bytes, the budget N of the admission, the limit L, the stores at entry, the lent cells, the pairs, the
-- sheet at entry, its outcome, the stores and the sheet at exit. Each field names two wrong programs that it shuts out.
pub record ComparesSheet (book : Bytes) (N L : ℕ) (s : Stores) (cells : List ℕ) (pairs : List Pair) (old : List AnswerNumbers) (code line steps count : ℕ) (s' : Stores) (new : List AnswerNumbers) : Type 0 where
  -- The book is admitted first, once; a refused book, and a sheet that is too short, leave the sheet as it was. Shut out: a program that
  -- writes the outcomes that fit a short sheet; one that gives the steps of its pairs as its own.
  pub admits_first : AdmitsFirst aut68 book N L s code line steps count s' (new ≡ old) (λ ls. Sheeted ls L cells pairs old code steps count new)
  -- "The outcomes must be those of a hundred single calls in that order": each place has what the call of its pair alone promises, stores
  -- and all. Shut out: a program that hands what is left of a budget to the next pair; one that stops at a pair that gets 11.
  pub single_calls : code ≡ 0 → (i : ℕ) → i < length pairs → (d : Pair) (e : AnswerNumbers)
      → let p = get_or pairs i d in let o = get_or new i e in
      ComparesStrings false book N L s (left_of cells p) (right_of cells p) p.budget o.code o.line o.steps o.length s'
  -- "A pair that gets 10, 11 or 18 changes no other pair's outcome": whatever the call of a pair alone gives stands in its place, so the
  -- other pairs play no part. Shut out: a program that leaves out the pairs that are not whole; one that compares on cells of the pair
  -- before.
  pub own_outcome : code ≡ 0 → (i : ℕ) → i < length pairs → (d : Pair) (e : AnswerNumbers) (c l n k : ℕ) (s'' : Stores)
      → let p = get_or pairs i d in let o = get_or new i e in
      ComparesStrings false book N L s (left_of cells p) (right_of cells p) p.budget c l n k s'' → (o.code ≡ c) × (o.line ≡ l) × (o.steps ≡ n) × (o.length ≡ k)
