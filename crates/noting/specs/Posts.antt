-- What the functions that write the note leave.
use Rattle.std.specs.Prelude.{◌≡◌, ◌≢◌, true, false, List, [], ◌∷◌, ◌++◌, ℕ, suc, ◌+◌, ◌/◌, ◌≤◌, ◌<◌, length, get_or, drop}
use Rattle.aut68.specs.Sizes.{cell_values, name_limit}
use Rattle.aut68.specs.Bytes.{Bytes, lines}
use Rattle.aut68.specs.Lines.{part_of}
use Rattle.aut68.specs.Paragraphs.{Opened, Paragraph, Place, opening, closed_to}
use Rattle.aut68.specs.Procedure.Parse.{signed}
use Rattle.cells.specs.Cells.{Outside}
use Rattle.lookup.specs.Places.{NumberedFrom, RightPlace}
use Rattle.walks.specs.Walk.{title_of}
use Rattle.notes.specs.Note.{capacity, chain_factor, heads, EntriesNoted, Levels, PlaceNoted, note_end}

-- a store of n cells has room for the note, and a cell for the numbers of two paragraphs that have an entry
pub record Holds (n : ℕ) : Type 0 where
  pub whole : note_end n ≤ n
  pub small : capacity n < chain_factor

-- x is put in the i-th cell behind the middle of a store of n cells
pub record Put (n i x : ℕ) (w w' : List ℕ) : Type 0 where
  pub long : length w' ≡ length w
  pub others : (j : ℕ) → j ≢ n / 2 + i → get_or w' j 0 ≡ get_or w j 0
  pub is : n / 2 + i < n → x < cell_values → get_or w' (n / 2 + i) 0 ≡ x

-- the entry of the next paragraph, the n-th, opened in q
pub record EntryPost (book : Bytes) (start len n q : ℕ) (w w' : List ℕ) : Type 0 where
  pub kept : Outside (length w / 2 + heads) (note_end (length w)) w w'
  pub means : (ps : List Paragraph) → Holds (length w) → NumberedFrom 0 ps → n ≡ suc (length ps) → q ≤ length ps → len ≤ name_limit → EntriesNoted book ps w
      → EntriesNoted book (ps ++ (record { name = part_of book start len; number = n; around = q } ∷ [])) w'

-- The place is noted, where the check stands at byte `upto`.
pub record PlaceStands (book : Bytes) (at : Place) (w : List ℕ) (upto : ℕ) : Type 0 where
  pub place : PlaceNoted book at w
  pub walks : Levels book at w upto at.opened 0

-- The piece b from byte `upto` to byte `next` opens a paragraph inside d others, whose name stands at `start`.
pub record OpeningPost (book : Bytes) (start len d next : ℕ) (w w' : List ℕ) : Type 0 where
  pub kept : Outside (length w / 2 + 1) (note_end (length w)) w w'
  pub means : (at : Place) (b : Bytes) (upto : ℕ) → Holds (length w) → RightPlace at → PlaceStands book at w upto → d ≡ length at.opened
      → signed 43 b ≡ true → title_of b ≡ part_of book start len → len ≤ name_limit → lines (drop upto book) ≡ b ∷ lines (drop next book) → upto ≤ next
      → PlaceStands book (opening (part_of book start len) at) w' next

-- It closes the innermost of the open paragraphs; d are left.
pub record ClosingPost (book : Bytes) (d next : ℕ) (w w' : List ℕ) : Type 0 where
  pub kept : Outside (length w / 2 + 1) (note_end (length w)) w w'
  pub means : (at : Place) (b : Bytes) (upto : ℕ) (o : Opened) (os : List Opened) → Holds (length w) → RightPlace at → PlaceStands book at w upto → at.opened ≡ o ∷ os → d ≡ length os
      → signed 43 b ≡ false → signed 45 b ≡ true → lines (drop upto book) ≡ b ∷ lines (drop next book) → upto ≤ next → next ≤ length book → next < cell_values
      → PlaceStands book (closed_to at os) w' next
