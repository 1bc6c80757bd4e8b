-- What a caller lends: the stores, and under which limits a book is checked.
use Rattle.std.specs.Prelude.{ℕ, ◌*◌, ◌≤◌, ◌≡◌, List, length}
use Rattle.aut68.specs.Sizes.{largest_limit, line_limit, work_units}

-- The cells of the lent stores: table, shelf (the term store), working store, index.
pub record Stores : Type 0 where
  pub table : List ℕ
  pub terms : List ℕ
  pub work : List ℕ
  pub index : List ℕ

abbrev pub stores : List ℕ → List ℕ → List ℕ → List ℕ → Stores
stores table terms work index = record { table = table; terms = terms; work = work; index = index }

-- The budget N, the limit L, how many cells each store has, and the first line number that has no room.
pub record Limits : Type 0 where
  pub budget : ℕ
  pub limit : ℕ
  pub table : ℕ
  pub terms : ℕ
  pub work : ℕ
  pub index : ℕ
  pub lines : ℕ

-- N, L, and the cells of table, shelf, working store and index, under the published line limit
abbrev pub lending : ℕ → ℕ → ℕ → ℕ → ℕ → ℕ → Limits
lending N L table terms work index =
    record { budget = N; limit = L; table = table; terms = terms; work = work; index = index; lines = line_limit }

abbrev pub limits_of : ℕ → ℕ → Stores → Limits
limits_of N L s = lending N L (length s.table) (length s.terms) (length s.work) (length s.index)

-- the same limits, but for the first line number that has no room
abbrev pub before_line : ℕ → Limits → Limits
before_line n m =
    record { budget = m.budget; limit = m.limit; table = m.table; terms = m.terms; work = m.work; index = m.index; lines = n }

-- "In the second run neither N nor L is smaller, L is at most 4,096, and the working store has at least 128 × L cells for that L";
-- the other stores are as long as before. The line limit is no smaller either.
pub record Larger (m m' : Limits) : Type 0 where
  pub budget : m.budget ≤ m'.budget
  pub limit : m.limit ≤ m'.limit
  pub permitted : m'.limit ≤ largest_limit
  pub enough : work_units * m'.limit ≤ m'.work
  pub same_table : m'.table ≡ m.table
  pub same_terms : m'.terms ≡ m.terms
  pub same_index : m'.index ≡ m.index
  pub lines : m.lines ≤ m'.lines
