-- Printed pages, "on paper 72 columns wide": how a book is laid out in rows, and how its lines are read back from them.
use Rattle.std.specs.Prelude.{ℕ, zero, suc, ◌+◌, ◌-◌, ◌/◌, ◌%◌, Bool, true, false, not, ◌||◌, List, [], ◌∷◌, ◌++◌, map, eqb, leb, length, take, drop, replicate, get_or}
use Rattle.aut68.specs.Sizes.{number_columns, text_columns}
use Rattle.aut68.specs.Bytes.{Bytes, lines}

-- the bytes but c
unfoldable pub without : ℕ → Bytes → Bytes
without c [] = []
without c (b ∷ bs) = elim (eqb b c) [ true ↦ without c bs | false ↦ b ∷ without c bs ]

-- ---- the layout

-- "Columns 7 to 72 hold its bytes but 32 and 10"
unfoldable pub text_of : Bytes → Bytes
text_of bytes = without 10 (without 32 bytes)

-- "its number right-justified in columns 1 to 5": the digit of n in the column of the tens, hundreds and so on; a blank before the first
unfoldable pub digit : ℕ → ℕ → ℕ
digit unit n = elim (leb unit n) [ true ↦ 48 + n / unit % 10 | false ↦ 32 ]

unfoldable pub numbered : ℕ → Bytes
numbered n = digit 10000 n ∷ digit 1000 n ∷ digit 100 n ∷ digit 10 n ∷ digit 1 n ∷ []

unfoldable pub blank : Bytes
blank = replicate number_columns 32

-- A row: columns 1 to 5, "column 6 is blank", the text "padded with byte 32", "and every row ends with byte 10".
unfoldable pub row : Bytes → Bytes → Bytes
row front text = front ++ (32 ∷ (text ++ (replicate (text_columns - length text) 32 ++ (10 ∷ []))))

-- k rows of a text, "66 to a row; on its further rows the first six columns are blank"
unfoldable pub rows : ℕ → Bytes → Bytes → Bytes
rows zero front text = []
rows (suc k) front text = row front (take text_columns text) ++ rows k blank (drop text_columns text)

-- how many rows a text has: none is without a byte of it
unfoldable pub row_count : Bytes → ℕ
row_count text = (length text + (text_columns - 1)) / text_columns

-- a text whose first row begins so
unfoldable pub text_rows : Bytes → Bytes → Bytes
text_rows front text = rows (row_count text) front text

-- The text begins with `+` or `-`, as that of a paragraph line does and no other.
unfoldable pub begins_signed : Bytes → Bool
begins_signed text = eqb (get_or text 0 0) 43 || eqb (get_or text 0 0) 45

-- "A line begins a row with its number", but "a paragraph line has blank columns 1 to 5": the lines from number n on
unfoldable pub pages_from : ℕ → List Bytes → Bytes
pages_from n [] = []
pages_from n (l ∷ ls) =
    elim (begins_signed (text_of l)) [
      | true ↦ text_rows blank (text_of l) ++ pages_from n ls
      | false ↦ text_rows (numbered n) (text_of l) ++ pages_from (suc n) ls
    ]

unfoldable pub pages : Bytes → Bytes
pages book = pages_from 1 (lines book)

-- ---- reading back

-- what columns 7 to 72 of a row hold
unfoldable pub text_in : Bytes → Bytes
text_in r = take text_columns (drop (suc number_columns) r)

-- Does a line end ahead of these rows? There is none, or the first one has a number, which ends in column 5, or a sign in column 7.
unfoldable pub at_number : List Bytes → Bool
at_number [] = true
at_number (r ∷ rs) = not (eqb (get_or r (number_columns - 1) 32) 32) || begins_signed (text_in r)

-- bytes ahead of the first line
unfoldable pub ahead : Bytes → List Bytes → List Bytes
ahead t [] = t ∷ []
ahead t (l ∷ ls) = (t ++ l) ∷ ls

-- "Columns 7 to 72, read back line by line", padding included; byte 10 ends each line
unfoldable pub lines_in : List Bytes → List Bytes
lines_in [] = []
lines_in (r ∷ rs) = elim (at_number rs) [ true ↦ (text_in r ++ (10 ∷ [])) ∷ lines_in rs | false ↦ ahead (text_in r) (lines_in rs) ]

unfoldable pub read_back : Bytes → List Bytes
read_back page = lines_in (lines page)

-- the same without byte 32
abbrev pub without_spaces : List Bytes → List Bytes
without_spaces = map (without 32)
