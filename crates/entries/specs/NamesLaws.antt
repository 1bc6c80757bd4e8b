-- Laws: the lines that a line names, collected and sorted.
use Rattle.std.specs.Prelude.{◌≡◌, refl, ◌≢◌, ℕ, zero, suc, ◌+◌, ◌*◌, ◌≤◌, ◌<◌, length, drop}
use Rattle.std.proofs.Common.{sym, ◌∙◌, arith, length-take, length-drop}
use Rattle.std.proofs.Math.Path.{ap, ap₂}
use mathlib.Core.List.{List, [], ◌∷◌, ◌++◌}
use Rattle.std.proofs.Math.ListN.{take}
use Rattle.std.proofs.Math.Seq.{slice}
use Rattle.aut68.specs.Sizes.{line_limit, smallest_limit, largest_limit, work_units}
use Rattle.aut68.specs.Lines.{Line, line_cells}
use Rattle.aut68.specs.Index.{mentioned_as_indicator, mentioned_by, ascending, names_of}
use Rattle.lookup.specs.Ascending.{ascending_same}
use Rattle.cells.specs.Cells.{At}
use Rattle.cells.specs.Layout.{names_at, line_unit, reader_units}
use Rattle.cells.specs.Numbers.{numbers_in, numbers_line}
use Rattle.cells.specs.Slices.{run_is_slice}
use Rattle.cells.specs.Stores.{at_taken}
use Rattle.sorting.specs.Posts.{SortPost}
use Rattle.entries.specs.Collected.{Spared, Emptied, Adds}
use Rattle.entries.specs.CollectedLaws.{spared_then, spared_run, numbers_few}
use Rattle.entries.specs.Posts.{NamesPost}

pub indicator_named : (v : ℕ) → v ≢ 0 → mentioned_as_indicator v ≡ v ∷ []
unfolding mentioned_as_indicator
indicator_named zero d = absurd (d refl)
indicator_named (suc v) d = refl

-- ---- how many there are

pub first_few : (indicator : ℕ) {w w' : List ℕ} {at slots n : ℕ} → Adds w w' at 0 slots (mentioned_as_indicator indicator) n → n ≤ 1
unfolding mentioned_as_indicator
first_few zero a = omega (arith, a.few)
first_few (suc v) a = omega (arith, a.few)

pub others_few : (from size : ℕ) {w w' : List ℕ} {at n slots m : ℕ} → Adds w w' at n slots (numbers_in (slice from (from + size) w)) m → m ≤ n + size
others_few from size {w} a = omega (arith, a.few, numbers_few (slice from (from + size) w), length-drop from (take (from + size) w), length-take (from + size) w)

-- ---- nothing is written

pub names_none : (limit size indicator : ℕ) (w : List ℕ)
    → (smallest_limit ≤ limit → limit ≤ largest_limit → work_units * limit ≤ length w → size ≤ 2 * limit → indicator < line_limit → ⊥)
    → NamesPost limit size indicator w w 0
names_none limit size indicator w h = record {
  long = refl;
  ahead = refl;
  cells_stay = refl;
  means = λ l a b c p e d i k. absurd (h a b c d k);
}

-- ---- the steps, one after the other

-- the store has the units, the numbers fit, and the names, the line's cells and the slots are in their units
pub record Placed (limit size indicator : ℕ) (w : List ℕ) (at from slots : ℕ) : Type 0 where
  pub large : smallest_limit ≤ limit
  pub small : limit ≤ largest_limit
  pub room : work_units * limit ≤ length w
  pub short : size ≤ 2 * limit
  pub is_line : indicator < line_limit
  pub at_is : at ≡ names_at limit
  pub from_is : from ≡ line_unit * limit
  pub slots_is : slots ≡ reader_units * limit

module _ (limit size indicator at from slots : ℕ) {w w₁ w₂ w₃ w₄ : List ℕ} {n m r : ℕ} (placed : Placed limit size indicator w at from slots)
    (empties : Emptied w w₁ slots) (first : Adds w₁ w₂ at 0 slots (mentioned_as_indicator indicator) n)
    (others : Adds w₂ w₃ at n slots (numbers_in (slice from (from + size) w₂)) m) (sorts : SortPost w₃ w₄ at m slots r) where
  some : at + m ≤ from
  some = omega (arith, first_few indicator first, others_few from size others)

  spared_first : Spared w w₂ at from slots
  spared_first = spared_then (empties.spared at from (omega arith)) (first.spared from (omega (arith, some)))

  spared_all : Spared w w₃ at from slots
  spared_all = spared_then spared_first (others.spared from some)

  spared_sorted : Spared w₃ w₄ at (at + m) slots
  spared_sorted = record { long = sorts.long; ahead = sorts.ahead; between = sorts.between }

  cells_kept : slice from (from + 2 * limit) w₄ ≡ slice from (from + 2 * limit) w
  cells_kept = spared_run from (2 * limit) some (omega arith) spared_sorted ∙ spared_run from (2 * limit) (omega arith) (omega arith) spared_all

  named : (l : Line) {rest : List ℕ} → At w from (line_cells l) rest → size ≡ length (line_cells l) → indicator ≡ l.indicator
      → mentioned_as_indicator indicator ++ numbers_in (slice from (from + size) w₂) ≡ mentioned_by l
  unfolding mentioned_by
  named l p e i =
      ap₂ (λ (v : ℕ) (xs : List ℕ). mentioned_as_indicator v ++ numbers_in xs) i
      (spared_run from size (omega arith) (omega arith) spared_first
      ∙ run_is_slice from size w
      ∙ ap (λ (k : ℕ). take k (drop from w)) e
      ∙ at_taken p)
      ∙ ap (◌++◌ (mentioned_as_indicator l.indicator)) (numbers_line l)

  pub names_put : NamesPost limit size indicator w w₄ r
  unfolding names_of
  names_put = record {
    long = sorts.long ∙ spared_all.long;
    ahead = rw (sym placed.at_is) (sorts.ahead ∙ spared_all.ahead);
    cells_stay = rw (sym placed.from_is) cells_kept;
    means = λ l a b c p e d i k. record {
      fits = omega (arith, some, sorts.few);
      are =
          rw (sym placed.at_is)
          (sorts.sorted
          ∙ ascending_same (λ v. (others.adds (first.adds (empties.none at))).same v)
          ∙ ap ascending (named l (rw (sym placed.from_is) at p) e i));
    };
  }
