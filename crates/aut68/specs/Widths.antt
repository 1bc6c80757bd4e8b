-- Shelves in cells of another width (paper 6), and what is claimed of the calls that convert them, as types. A width is told by how many
-- values its cells have: cell_values, or narrow_values for shelves stored before.
use Rattle.std.specs.Prelude.{◌≡◌, Bool, true, false, ◌&&◌, ℕ, ◌≤◌, List, [], ◌∷◌, leb, ltb, length, take}
use Rattle.std.proofs.Math.Option.{Option, none, some}
use Rattle.aut68.specs.Procedure.Calls.{Decline, store_too_small, cell_too_large, decline_code}
use Rattle.aut68.specs.Procedure.Run.{over}

-- is each cell one of so many values?
unfoldable pub fits_width : ℕ → List ℕ → Bool
fits_width values [] = true
fits_width values (x ∷ xs) = ltb x values && fits_width values xs

-- "A target shorter than its source gets 15, looked at first"; "16, narrowing met a cell above 65,535". An answer tells its length in 32
-- bits: a source with more cells gets 15 as well.
unfoldable pub conversion : ℕ → List ℕ → List ℕ → Option Decline
conversion values source target =
    elim (leb (length source) (length target) && ltb (length source) 4294967296) [
      | false ↦ some store_too_small
      | true ↦ elim (fits_width values source) [ false ↦ some cell_too_large | true ↦ none ]
    ]

-- What a call leaves that puts the source into the target, whose cells have so many values: its numbers, and the target.
pub data Converted (source old : List ℕ) (code count : ℕ) (new : List ℕ) : Option Decline → Type 0 where
  declined : {d : Decline} → code ≡ decline_code d → count ≡ 0 → new ≡ old → Converted source old code count new (some d)
  written : code ≡ 0 → count ≡ length source → new ≡ over source old → Converted source old code count new none

-- What `widen` and `narrow` promise. Each field names two wrong programs that it shuts out.
pub record Converts (values : ℕ) (source old : List ℕ) (code line steps count : ℕ) (new : List ℕ) : Type 0 where
  -- "The target is untouched after either, and past the source's length always." Shut out: a program that keeps the low 16 bits of a
  -- cell; one that writes cells before it knows of 16.
  pub converted : Converted source old code count new (conversion values source old)
  -- It is no line's outcome and takes no step. Shut out: a program that gives the place of the large cell as a line; one that counts cells
  -- as steps.
  pub no_line : (line ≡ 0) × (steps ≡ 0)
  -- "A widened shelf narrows to the one it came from", and a narrowed one widens to it: the cells that were written fit every width
  -- that the source fits, and put into a store with room they are the source. Shut out: a program that leaves out cells 0; one that
  -- writes the cells from the last to the first.
  pub back : code ≡ 0 → (width : ℕ) (store : List ℕ) → fits_width width source ≡ true → length source ≤ length store
      → (conversion width (take count new) store ≡ none) × (over (take count new) store ≡ over source store)
