-- How many rows the lines of a book have.
use mathlib.Core.Path.{◌≡◌, refl, sym, ap, ◌∙◌}
use mathlib.Core.Logic.{◌⊎◌, inl, inr}
use mathlib.Core.Bool.{Bool, true, false}
use mathlib.Core.List.{List, [], ◌∷◌, ◌++◌}
use Prim.Native.Nat.{ℕ, zero, suc, ◌+◌, ◌-◌, ◌*◌, ◌≤◌, ◌<◌}
use native.Mathlib.Numerals.{add-one}
use native.Mathlib.Omega.{arith}
use lib.ListN.{length, take, drop, length-append, length-take, drop_of_length-le}
use Rattle.aut68.specs.Sizes.{number_columns, text_columns, page_row}
use Rattle.aut68.specs.Bytes.{Bytes, lines}
use Rattle.aut68.specs.Pages.{text_of, digit, numbered, blank, row, rows, row_count, text_rows, begins_signed, pages_from, pages}
use Rattle.headings.specs.Posts.{LineEnd}
use Rattle.page_rows.proofs.RowLaws.{row_long, numbered_long}

-- k rows are k times as long as one
rows_long : (k : ℕ) (front text : Bytes) → length front ≡ number_columns → length (rows k front text) ≡ page_row * k
unfolding rows blank
rows_long zero front text e = refl
rows_long (suc k) front text e =
    omega (
      arith,
      length-append (row front (take text_columns text)) (rows k blank (drop text_columns text)),
      row_long front text e,
      rows_long k blank (drop text_columns text) refl,
    )

-- the rows of lines
pub rows_in : List Bytes → ℕ
rows_in [] = 0
rows_in (l ∷ ls) = row_count (text_of l) + rows_in ls

-- the number that a line is printed with, and that of the next: a paragraph line has none, and none is counted
pub record Counted (line : Bytes) (n number next : ℕ) : Type 0 where
  pub few : next ≤ n + 1
  pub is : (ls : List Bytes) → pages_from n (line ∷ ls) ≡ text_rows (numbered number) (text_of line) ++ pages_from next ls

counted_none : {line : Bytes} {n : ℕ} → begins_signed (text_of line) ≡ true → Counted line n 0 n
unfolding pages_from numbered blank digit
counted_none e = record { few = omega arith; is = λ ls. rw (e, pages_from) }

counted_one : {line : Bytes} {n : ℕ} → begins_signed (text_of line) ≡ false → Counted line n n (n + 1)
unfolding pages_from
counted_one {n = n} e = record { few = omega arith; is = λ ls. rw (e, pages_from, add-one n) }

-- by which way it was counted
pub counted_either : {A B : Type 0} {line : Bytes} {n number next : ℕ} {t : Bool} → (A × (next ≡ n) × (number ≡ 0)) ⊎ (B × (next ≡ n + 1) × (number ≡ n))
    → t ≡ begins_signed (text_of line) → (A → t ≡ true) → (B → t ≡ false) → Counted line n number next
counted_either (inl (a, e, f)) d g h = rw (e, f) (counted_none (sym d ∙ g a))
counted_either (inr (b, e, f)) d g h = rw (e, f) (counted_one (sym d ∙ h b))

counted : (line : Bytes) (n : ℕ) → (number : ℕ) × (next : ℕ) × Counted line n number next
counted line n = split (begins_signed (text_of line)) refl
  where
    split : (t : Bool) → begins_signed (text_of line) ≡ t → (number : ℕ) × (next : ℕ) × Counted line n number next
    split true e = (0, n, counted_none e)
    split false e = (n, n + 1, counted_one e)

-- pages are as long, from whatever number on
pages_long : (n : ℕ) (ls : List Bytes) → length (pages_from n ls) ≡ page_row * rows_in ls
unfolding pages_from rows_in text_rows
pages_long n [] = refl
pages_long n (l ∷ ls) =
    let (number, next, h) = counted l n in
    omega (
      arith,
      ap length (h.is ls),
      length-append (text_rows (numbered number) (text_of l)) (pages_from next ls),
      rows_long (row_count (text_of l)) (numbered number) (text_of l) (numbered_long number),
      pages_long next ls,
    )

-- no line is left at the end of a book
pub no_lines_lem : (book : Bytes) (at : ℕ) → length book ≤ at → lines (drop at book) ≡ []
unfolding lines
no_lines_lem book at l = ap lines (drop_of_length-le book l)

-- the lines ahead of `at` have so many rows
pub record RowsSoFar (book : Bytes) (count at : ℕ) : Type 0 where
  pub within : at ≤ length book
  pub few : count ≤ at
  pub counted : count + rows_in (lines (drop at book)) ≡ rows_in (lines book)

pub count_start : {book : Bytes} → RowsSoFar book 0 0
count_start = record { within = omega arith; few = omega arith; counted = omega arith }

module _ {book : Bytes} {count at : ℕ} (h : RowsSoFar book count at) where
  -- a line more
  pub count_line : {r more : ℕ} → at < length book → LineEnd book at r
      → (more ≡ row_count (text_of (take (r - at) (drop at book)))) × (more ≤ length (take (r - at) (drop at book))) → RowsSoFar book (count + more) r
  unfolding rows_in
  count_line {r} {more} l e m =
      record {
        within = e.within h.within;
        few = omega (arith, h.few, m.1, length-take (r - at) (drop at book), e.from l);
        counted = omega (arith, h.counted, ap rows_in (e.is l), m.0);
      }

  -- all lines
  pub count_end : length book ≤ at → page_row * count ≡ length (pages book)
  unfolding rows_in pages
  count_end l = omega (arith, h.counted, ap rows_in (no_lines_lem book at l), pages_long 1 (lines book))
