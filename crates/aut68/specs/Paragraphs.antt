-- Paragraphs: which are open, which there are, and where a line stands.
use Rattle.std.specs.Prelude.{ℕ, suc, Bool, false, ◌||◌, List, [], ◌∷◌, ◌++◌, length, eqb}
use Rattle.aut68.specs.Bytes.{Bytes}
use Rattle.aut68.specs.Lines.{Line, Lines}

-- An open paragraph: its name, and its number in order of opening.
pub record Opened : Type 0 where
  pub name : Bytes
  pub number : ℕ

-- A paragraph of the book, open or closed: its name, its number, and the number of the paragraph that it stands in (0 outside).
pub record Paragraph : Type 0 where
  pub name : Bytes
  pub number : ℕ
  pub around : ℕ

-- A place in a book: the open paragraphs, innermost first, and all paragraphs opened so far. Those that are not open are closed.
pub record Place : Type 0 where
  pub opened : List Opened
  pub paragraphs : List Paragraph

-- Where a line stands: the lines before it, and its place.
pub record State : Type 0 where
  pub earlier : Lines
  pub place : Place

unfoldable pub outside : Place
outside = record { opened = []; paragraphs = [] }

-- nothing recorded, outside every paragraph
unfoldable pub start : State
start = record { earlier = []; place = outside }

-- one line more
abbrev pub with_line : State → Line → State
with_line st l = record { earlier = st.earlier ++ (l ∷ []); place = st.place }

-- the same lines at another place
abbrev pub with_place : State → Place → State
with_place st at = record { earlier = st.earlier; place = at }

-- the numbers of the open paragraphs, innermost first; 0 for outside
unfoldable pub numbers_of : List Opened → List ℕ
numbers_of [] = 0 ∷ []
numbers_of (o ∷ os) = o.number ∷ numbers_of os

-- that of the innermost
unfoldable pub current : List Opened → ℕ
current [] = 0
current (o ∷ os) = o.number

-- the number is that of an open paragraph
unfoldable pub is_open : ℕ → List Opened → Bool
is_open n [] = false
is_open n (o ∷ os) = eqb n o.number || is_open n os

-- the place behind `+p`
unfoldable pub opening : Bytes → Place → Place
opening p at =
    let n = suc (length at.paragraphs) in
    record {
      opened = record { name = p; number = n } ∷ at.opened;
      paragraphs = at.paragraphs ++ (record { name = p; number = n; around = current at.opened } ∷ []);
    }

-- the place behind a closing, the open paragraphs left being os
abbrev pub closed_to : Place → List Opened → Place
closed_to at os = record { opened = os; paragraphs = at.paragraphs }
