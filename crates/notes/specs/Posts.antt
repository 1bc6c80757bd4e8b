-- What the functions on the note give.
use Rattle.std.specs.Prelude.{◌≡◌, ◌≢◌, Bool, List, ℕ, ◌-◌, ◌≤◌, ◌<◌, length, get_or}
use Rattle.aut68.specs.Bytes.{Bytes}
use Rattle.aut68.specs.Sizes.{cell_values, open_limit}
use Rattle.aut68.specs.Paragraphs.{Paragraph, Place, is_open}
use Rattle.aut68.specs.Rules.Names.{Member, ParagraphIn}
use Rattle.lookup.specs.Places.{RightPlace}
use Rattle.names.specs.Hints.{hash_of}
use Rattle.notes.specs.Note.{level_at, capacity, PlaceNoted}

-- what is noted of the i-th open paragraph from outside, from the cell `base` on; 0 for i = 0
pub record OfLevel (base : ℕ) (w : List ℕ) (i r : ℕ) : Type 0 where
  pub outside : i ≡ 0 → r ≡ 0
  pub is : 1 ≤ i → i ≤ open_limit → r ≡ get_or w (level_at (length w) base (i - 1)) 0
  pub small : r < cell_values

-- r is a paragraph with the name that was opened in the paragraph q; 0: none that has an entry
pub record NotedFound (book w : List ℕ) (word : Bytes) (h q r : ℕ) : Type 0 where
  pub none : (at : Place) → PlaceNoted book at w → RightPlace at → 1 ≤ length word → h ≡ hash_of word → r ≡ 0
      → (x : Paragraph) → Member x at.paragraphs → x.number ≤ capacity (length w) → x.name ≡ word → x.around ≢ q
  pub is : (at : Place) → PlaceNoted book at w → RightPlace at → 1 ≤ length word → h ≡ hash_of word → r ≢ 0 → ParagraphIn at word q r

-- is the paragraph n open?
pub record OpenTold (w : List ℕ) (n : ℕ) (r : Bool) : Type 0 where
  pub is : (book : Bytes) (at : Place) → PlaceNoted book at w → r ≡ is_open n at.opened
