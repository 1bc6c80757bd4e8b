-- Notes of the bindings around the expressions still to come.
use Rattle.std.specs.Prelude.{◌≡◌, ◌⊎◌, Bool, true, false, List, ℕ, suc, ◌+◌, ◌-◌, ◌≤◌, ◌<◌, length, get_or}
use Rattle.strings.specs.Levels.{levels_at}

-- the numbers that a cell can have: cell_values / cell_factor
abbrev pub numbers : ℕ
numbers = 536870912

-- v is a note of n bindings: the number of no bound variable tells the two apart
abbrev pub Noted : ℕ → ℕ → Type 0
Noted v n = (i : ℕ) → i < numbers → (i < v → i < n) × (i < n → i < v)

-- what is to come at index i of s, as far as w goes: the last at index 0, the next at the highest
pub record Notes (tb s : List ℕ) (i : ℕ) (w : List ℕ) : Type 0 where
  pub at : (t : ℕ) → t < length (levels_at tb s i) → t < length w → Noted (get_or w t 0) (get_or (levels_at tb s i) (length (levels_at tb s i) - 1 - t) 0)

-- w' is w with x from index `from` on, below `to`
pub record Filled (w : List ℕ) (from to x : ℕ) (w' : List ℕ) : Type 0 where
  pub long : length w' ≡ length w
  pub inside : (t : ℕ) → from ≤ t → t < to → t < length w → get_or w' t 0 ≡ x
  pub outside : (t : ℕ) → (t < from) ⊎ (to ≤ t) → get_or w' t 0 ≡ get_or w t 0

-- The last note, at index `at`, is followed by those of so many parts: all alike, but for a body, which is the last of an abstraction's.
pub record NotesParts (w : List ℕ) (at parts : ℕ) (binds : Bool) (w' : List ℕ) : Type 0 where
  pub long : length w' ≡ length w
  pub below : (t : ℕ) → t < at → get_or w' t 0 ≡ get_or w t 0
  pub alike : (t : ℕ) → at < t → t < at + parts → t < length w → get_or w' t 0 ≡ get_or w at 0
  pub last : binds ≡ false → 0 < parts → at < length w → get_or w' at 0 ≡ get_or w at 0
  pub body : binds ≡ true → at < length w → (n : ℕ) → Noted (get_or w at 0) n → Noted (get_or w' at 0) (suc n)
