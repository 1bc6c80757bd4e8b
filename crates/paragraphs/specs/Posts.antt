-- What the functions on lines and paragraphs by their names give.
use Rattle.std.specs.Prelude.{◌≡◌, Bool, not, List, ℕ, ◌-◌, ◌≤◌, ◌<◌, length}
use Rattle.std.specs.Prelude as Prelude
use Rattle.std.proofs.Math.Option.{Option}
use Rattle.aut68.specs.Sizes.{cell_values}
use Rattle.aut68.specs.Bytes.{Bytes}
use Rattle.aut68.specs.Paragraphs.{Opened, Place, State, numbers_of, current}
use Rattle.aut68.specs.Procedure.Lookup.{seek, closed_in, number_of, unused}
use Rattle.aut68.specs.Lines.{number_in}
use Rattle.kinds.specs.Kinds.{KindsTable}
use Rattle.names.specs.Hints.{hash_of}
use Rattle.names.specs.Known.{Known}
use Rattle.names.specs.Search.{Gives}
use Rattle.names.specs.Posts.{number_or, LineFound}
use Rattle.symbols.specs.Symbols.{used_by}
use Rattle.notes.specs.Note.{numbers, PlaceNoted, StateNoted}
use Rattle.notes.specs.NoteLaws.{Outer}
use Rattle.notes.specs.Posts.{OfLevel}

-- r is the line with the name, of the hash h, in the i-th open paragraph from outside
pub record LineInLevel (book tb : List ℕ) (lines : ℕ) (w : List ℕ) (word : Bytes) (h i : ℕ) (r : Prelude.Option ℕ) : Type 0 where
  pub around : ℕ
  pub level : OfLevel numbers w i around
  pub found : Gives (LineFound book tb lines w word h around) r

-- r is what `sought` finds under the name in the i-th open paragraph from outside, the innermost of os; 0: none
pub record FoundIn (sought : Place → Bytes → ℕ → Option ℕ) (ks book w : List ℕ) (word : Bytes) (h i r : ℕ) : Type 0 where
  pub is : (st : State) (tb : List ℕ) (lines : ℕ) → KindsTable ks → StateNoted st book tb lines w → 1 ≤ length word → h ≡ hash_of word
      → (os : List Opened) → Outer book st.place w i os → r ≡ number_or 0 (sought st.place word (current os))

-- From the innermost of i paragraphs outward, outside being one of them, to what is found first: what may be found in each.
pub data Outward (found_in : ℕ → Prelude.Option ℕ → Type 0) : ℕ → Prelude.Option ℕ → Type 0 where
  nowhere : {i : ℕ} → i ≡ 0 → Outward found_in i Prelude.None
  here : {i v : ℕ} → 1 ≤ i → found_in (i - 1) (Prelude.Some v) → Outward found_in i (Prelude.Some v)
  further : {i : ℕ} {r : Prelude.Option ℕ} → 1 ≤ i → found_in (i - 1) Prelude.None → Outward found_in (i - 1) r → Outward found_in i r

-- r is the closed paragraph that the name means, sought outward; 0: none
pub record ClosedFound (ks book w : List ℕ) (word : Bytes) (r : ℕ) : Type 0 where
  pub is : (st : State) (tb : List ℕ) (lines : ℕ) → KindsTable ks → StateNoted st book tb lines w → 1 ≤ length word
      → r ≡ number_or 0 (seek (closed_in st.place word) (numbers_of st.place.opened))

-- r is the line that a plain name means; 0: none
pub record PlainFound (book tb : List ℕ) (lines : ℕ) (w : List ℕ) (word : Bytes) (r : ℕ) : Type 0 where
  pub within : r ≤ lines
  pub is : (st : State) → Known st.earlier book tb lines → StateNoted st book tb lines w → 1 ≤ length word
      → r ≡ number_or 0 (seek (number_in st.earlier word) (numbers_of st.place.opened))

-- r is the line that a used name means; 0: none
pub record UsedFound (ks book tb : List ℕ) (lines : ℕ) (w : List ℕ) (title word : Bytes) (r : ℕ) : Type 0 where
  pub within : r ≤ lines
  pub is : (st : State) → KindsTable ks → Known st.earlier book tb lines → StateNoted st book tb lines w → 1 ≤ length word
      → r ≡ number_or 0 (number_of st (used_by title word))

-- has a line or a paragraph of the innermost open paragraph the name?
pub record TakenTold (ks book tb : List ℕ) (lines : ℕ) (w : List ℕ) (word : Bytes) (r : Bool) : Type 0 where
  pub is : (st : State) → KindsTable ks → Known st.earlier book tb lines → StateNoted st book tb lines w → 1 ≤ length word → r ≡ not (unused word st)

-- r is the number of the innermost open paragraph
pub record CurrentTold (w : List ℕ) (r : ℕ) : Type 0 where
  pub small : r < cell_values
  pub is : (book : Bytes) (at : Place) → PlaceNoted book at w → r ≡ current at.opened
