-- What the working store notes of a book's paragraphs, behind the slots of name lookup: how many are open, how many were opened, up to
-- which byte; of each open one its number and the byte behind its opening; and of the first paragraphs opened, as far as there is room,
-- the name and the paragraph around, found by chains.
use Rattle.std.specs.Prelude.{◌≡◌, Bool, true, false, ◌&&◌, List, [], ◌∷◌, ◌++◌, ℕ, suc, ◌+◌, ◌-◌, ◌*◌, ◌/◌, ◌%◌, ◌≤◌, eqb, leb, length, get_or, drop}
use Rattle.aut68.specs.Sizes.{open_limit}
use Rattle.aut68.specs.Bytes.{Bytes, same_bytes, lines}
use Rattle.aut68.specs.Lines.{part_of}
use Rattle.aut68.specs.Paragraphs.{Opened, Paragraph, Place, State}
use Rattle.aut68.specs.Rules.Names.{Member}
use Rattle.cells.specs.Layout.{reader_units}
use Rattle.lookup.specs.Identifiers.{Distinct}
use Rattle.lookup.specs.Places.{RightPlace}
use Rattle.names.specs.Chains.{Chains}
use Rattle.names.specs.Hints.{hash_of, key_at, Hinted}
use Rattle.walks.specs.Walk.{WalkIs}

-- ---- its cells, in a store of n cells

-- how many paragraphs are open, and were opened; up to which byte
abbrev pub depth_cell : ℕ → ℕ
depth_cell n = n / 2 + 1

abbrev pub count_cell : ℕ → ℕ
count_cell n = n / 2 + 2

abbrev pub upto_cell : ℕ → ℕ
upto_cell n = n / 2 + 3

-- of the open paragraph with i others around it: its number, and the byte behind its opening
abbrev pub numbers : ℕ
numbers = 4

abbrev pub froms : ℕ
froms = 36

abbrev pub level_at : ℕ → ℕ → ℕ → ℕ
level_at n base i = n / 2 + (base + i)

abbrev pub number_cell : ℕ → ℕ → ℕ
number_cell n i = level_at n numbers i

abbrev pub from_cell : ℕ → ℕ → ℕ
from_cell n i = level_at n froms i

-- how many paragraphs have an entry
abbrev pub capacity : ℕ → ℕ
capacity n = 3 * (n / reader_units) - 24

-- the head of chain i
abbrev pub heads : ℕ
heads = 68

abbrev pub head_cell : ℕ → ℕ → ℕ
head_cell n i = n / 2 + (heads + i)

-- the entry of paragraph k, from 1: where its name stands, and the paragraph around with the next of its chain
abbrev pub titles : ℕ
titles = 67

abbrev pub arounds : ℕ
arounds = 68

abbrev pub entry_at : ℕ → ℕ → ℕ → ℕ
entry_at n base k = n / 2 + (base + capacity n + 2 * k)

abbrev pub title_cell : ℕ → ℕ → ℕ
title_cell n k = entry_at n titles k

abbrev pub around_cell : ℕ → ℕ → ℕ
around_cell n k = entry_at n arounds k

-- ---- entries

-- a place in the book and a length in one cell; two numbers below 65,536 in one
abbrev pub place_factor : ℕ
place_factor = 16777216

abbrev pub chain_factor : ℕ
chain_factor = 65536

unfoldable pub title_at : Bytes → List ℕ → ℕ → Bytes
title_at book w k = part_of book (get_or w (title_cell (length w) k) 0 % place_factor) (get_or w (title_cell (length w) k) 0 / place_factor)

unfoldable pub around_at : List ℕ → ℕ → ℕ
around_at w k = get_or w (around_cell (length w) k) 0 % chain_factor

unfoldable pub next_at : List ℕ → ℕ → ℕ
next_at w k = get_or w (around_cell (length w) k) 0 / chain_factor

-- the chain of a name with the hash h, opened in the paragraph q
unfoldable pub chain_of : ℕ → ℕ → ℕ → ℕ
chain_of n h q = key_at h q % (capacity n + 1)

abbrev pub entry_chain : Bytes → List ℕ → ℕ → ℕ
entry_chain book w k = chain_of (length w) (hash_of (title_at book w k)) (around_at w k)

-- the entry k has the word as its name, and the paragraph q around
unfoldable pub entry_is : Bytes → List ℕ → Bytes → ℕ → ℕ → Bool
entry_is book w word q k = same_bytes word (title_at book w k) && eqb q (around_at w k)

-- the entry of a paragraph
pub record EntryIs (book w : List ℕ) (x : Paragraph) : Type 0 where
  pub title_is : title_at book w x.number ≡ x.name
  pub around_is : around_at w x.number ≡ x.around

-- how many of the paragraphs have one
unfoldable pub noted : ℕ → ℕ → ℕ
noted n count = elim (leb count (capacity n)) [ true ↦ count | false ↦ capacity n ]

-- the entries of these paragraphs, with their chains
pub record EntriesNoted (book : Bytes) (ps : List Paragraph) (w : List ℕ) : Type 0 where
  pub each : (x : Paragraph) → Member x ps → x.number ≤ capacity (length w) → EntryIs book w x
  pub chains : Chains (entry_chain book w) (next_at w) (λ (i : ℕ). get_or w (head_cell (length w) i) 0) (capacity (length w)) (noted (length w) (length ps))

-- ---- open paragraphs

-- From byte `from`, behind the opening of the paragraph q (0: from the book's start), a walk up to byte `upto` meets what was opened in
-- it; `inner` of the paragraphs inside it are open.
pub record Level (book : Bytes) (at : Place) (q inner from upto : ℕ) : Type 0 where
  pub pieces : List Bytes
  pub inside : from ≤ upto
  pub passed : lines (drop from book) ≡ pieces ++ lines (drop upto book)
  pub walk : WalkIs at q inner pieces

-- the same of outside and of each of the open paragraphs, with its number noted
pub data Levels (book : Bytes) (at : Place) (w : List ℕ) (upto : ℕ) : List Opened → ℕ → Type 0 where
  outermost : {inner : ℕ} → Level book at 0 inner 0 upto → Levels book at w upto [] inner
  inward : {o : Opened} {os : List Opened} {inner : ℕ} → get_or w (number_cell (length w) (length os)) 0 ≡ o.number
      → Level book at o.number inner (get_or w (from_cell (length w) (length os)) 0) upto → Levels book at w upto os (suc inner)
      → Levels book at w upto (o ∷ os) inner

-- ---- the note

pub record PlaceNoted (book : Bytes) (at : Place) (w : List ℕ) : Type 0 where
  pub depth_is : get_or w (depth_cell (length w)) 0 ≡ length at.opened
  pub count_is : get_or w (count_cell (length w)) 0 ≡ length at.paragraphs
  pub few : length at.opened ≤ open_limit
  pub within : get_or w (upto_cell (length w)) 0 ≤ length book
  pub levels : Levels book at w (get_or w (upto_cell (length w)) 0) at.opened 0
  pub entries : EntriesNoted book at.paragraphs w

-- The working store notes the state: its lines and its place.
pub record StateNoted (st : State) (book tb : List ℕ) (lines : ℕ) (w : List ℕ) : Type 0 where
  pub hinted : Hinted book tb lines w
  pub place : PlaceNoted book st.place w
  pub right : RightPlace st.place
  pub distinct : Distinct st

-- The same where the check stands at byte `at`: the walks of the open paragraphs come up to there.
pub record StandsAt (st : State) (book tb : List ℕ) (lines : ℕ) (w : List ℕ) (at : ℕ) : Type 0 where
  pub noted : StateNoted st book tb lines w
  pub walks : Levels book st.place w at st.place.opened 0

-- where the note ends
abbrev pub note_end : ℕ → ℕ
note_end n = n / 2 + 69 + 3 * capacity n
