-- The published sizes, each under one name. The code has the same numbers in crate `constants`.
use Rattle.std.specs.Prelude.{ℕ}

-- A term cell is cell_factor × number + kind, and below cell_values.
abbrev pub cell_factor : ℕ
cell_factor = 8

abbrev pub cell_values : ℕ
cell_values = 4294967296

-- a cell of a stored shelf before paper 6
abbrev pub narrow_values : ℕ
narrow_values = 65536

-- The first line number that is refused ("line 65,536 is the first to get 12").
abbrev pub line_limit : ℕ
line_limit = 65536

-- the same before paper 6: "a 16-bit cell stops at line 8,191"
abbrev pub former_line_limit : ℕ
former_line_limit = 8192

-- "L not in 16 to 4,096"
abbrev pub smallest_limit : ℕ
smallest_limit = 16

abbrev pub largest_limit : ℕ
largest_limit = 4096

-- The working store has work_units × L cells.
abbrev pub work_units : ℕ
work_units = 128

-- "nesting above 32, a lone name being 1"; a comparison goes as deep.
abbrev pub nesting : ℕ
nesting = 32

-- "A name is 1 to 32 bytes"
abbrev pub name_limit : ℕ
name_limit = 32

-- "a book of more than 16,777,215 bytes"
abbrev pub book_limit : ℕ
book_limit = 16777215

-- A line's row in the table: how many cells it has ..
abbrev pub row_width : ℕ
row_width = 9

-- .. and which is which: first byte and length of the identifier, the indicator's line, the length of the context, the kind, and
-- in the term store the starts of middle and category and the category's end, and the paragraph.
abbrev pub at_name_start : ℕ
at_name_start = 0

abbrev pub at_name_length : ℕ
at_name_length = 1

abbrev pub at_indicator : ℕ
at_indicator = 2

abbrev pub at_context : ℕ
at_context = 3

abbrev pub at_kind : ℕ
at_kind = 4

abbrev pub at_middle : ℕ
at_middle = 5

abbrev pub at_category : ℕ
at_category = 6

abbrev pub at_end : ℕ
at_end = 7

abbrev pub at_paragraph : ℕ
at_paragraph = 8

-- "More than 32 paragraphs open together is 12"
abbrev pub open_limit : ℕ
open_limit = 32

-- A printed row: columns 1 to 5 for the number, a blank one, columns 7 to 72 for the text, and byte 10.
abbrev pub number_columns : ℕ
number_columns = 5

abbrev pub text_columns : ℕ
text_columns = 66

abbrev pub page_row : ℕ
page_row = 73
