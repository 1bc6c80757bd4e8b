-- Marks on numbers: bit v % cell_marks of cell v / cell_marks.
use Rattle.std.specs.Prelude.{◌≡◌, ◌≢◌, Bool, true, List, ℕ, ◌*◌, ◌/◌, ◌%◌, ◌^◌, ◌<◌, eqb, length, get_or}

-- how many marks a cell has
abbrev pub cell_marks : ℕ
cell_marks = 32

-- bit k of x
unfoldable pub bit_of : ℕ → ℕ → Bool
bit_of x k = eqb (x / 2 ^ k % 2) 1

unfoldable pub marked : List ℕ → ℕ → Bool
marked w v = bit_of (get_or w (v / cell_marks) 0) (v % cell_marks)

-- v is marked, and nothing else has changed
pub record MarkPost (w w' : List ℕ) (v : ℕ) : Type 0 where
  pub long : length w' ≡ length w
  pub here : v < cell_marks * length w → marked w' v ≡ true
  pub others : (u : ℕ) → u ≢ v → marked w' u ≡ marked w u
