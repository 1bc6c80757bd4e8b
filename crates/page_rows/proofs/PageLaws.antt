-- The rows of a line, and the lines of a book, put one after the other.
use mathlib.Core.Path.{◌≡◌, refl, ap, ap₂, subst, ◌∙◌}
use mathlib.Core.List.{[], ◌++◌, append-nil}
use Prim.Native.Nat.{ℕ, suc, ◌+◌, ◌-◌, ◌≤◌, ◌<◌}
use native.Mathlib.Omega.{arith}
use lib.ListN.{length, take, drop, length-drop, drop_of_length-le}
use lib.Seq.{take_all}
use Rattle.aut68.specs.Sizes.{text_columns, page_row}
use Rattle.aut68.specs.Bytes.{Bytes, lines}
use Rattle.aut68.specs.Procedure.Run.{over}
use Rattle.aut68.specs.Pages.{text_of, digit, numbered, blank, row, rows, row_count, text_rows, pages_from, pages}
use Rattle.headings.specs.Posts.{LineEnd}
use Rattle.page_rows.specs.Posts.{TextLeft, RowPut}
use Rattle.page_rows.proofs.PutLaws.{PutSoFar, put_start, put_more, put_all, put_fits}
use Rattle.page_rows.proofs.TextLaws.{no_text, some_left}
use Rattle.page_rows.proofs.RowLaws.{row_long, numbered_long}
use Rattle.page_rows.proofs.CountLaws.{Counted, no_lines_lem}

-- the rows of a line with this number
abbrev line_rows : ℕ → Bytes → Bytes
line_rows number line = text_rows (numbered number) (text_of line)

-- the first row of a text, and the further ones
abbrev first_row : ℕ → Bytes → Bytes
first_row n text = row (numbered n) (take text_columns text)

abbrev further_rows : Bytes → Bytes
further_rows text = text_rows blank (drop text_columns text)

-- ---- the rows of a line

-- an empty text has no rows
no_rows : (front : Bytes) → text_rows front [] ≡ []
unfolding text_rows row_count rows
no_rows front = refl

-- any other has a first
first_row_lem : (front text : Bytes) → 0 < length text → text_rows front text ≡ row front (take text_columns text) ++ further_rows text
unfolding text_rows row_count rows
first_row_lem front text l =
    let e : row_count text ≡ suc (row_count (drop text_columns text)) = omega (arith, length-drop text_columns text) in
    ap (λ k. rows k front text) e

-- rows of a line are put; what is left of it begins at `at`, and its next row has number n
pub record LineSoFar (line : Bytes) (number : ℕ) (old : Bytes) (at n to : ℕ) (page : Bytes) : Type 0 where
  pub begins : TextLeft line (text_of (drop at line)) at
  pub sofar : PutSoFar (line_rows number line) old to page (text_rows (numbered n) (text_of (drop at line)))

-- it is enough to know the text that is left
line_left : {line text : Bytes} {number : ℕ} {old : Bytes} {at n to : ℕ} {page : Bytes} → TextLeft line text at
    → PutSoFar (line_rows number line) old to page (text_rows (numbered n) text) → LineSoFar line number old at n to page
line_left h p = record { begins = rw h.is h; sofar = rw h.is p }

pub line_start : {line : Bytes} {number : ℕ} {old : Bytes} {at : ℕ} → TextLeft line (text_of line) at → LineSoFar line number old at number 0 old
line_start h = line_left h put_start

module _ {line : Bytes} {number : ℕ} {old : Bytes} {at n to : ℕ} {page : Bytes} (h : LineSoFar line number old at n to page) where
  -- all rows are put
  pub line_end_lem : length line ≤ at → (to ≡ length (line_rows number line)) × (page ≡ over (line_rows number line) old)
  line_end_lem l = put_all (rw (no_text line at l, no_rows) at h.sofar)

  -- behind the next row less text is left
  pub less_left : {r : ℕ} {part : Bytes} → at < length line → RowPut line at n r part → length (text_of (drop r line)) < length (text_of (drop at line))
  less_left l p = omega (arith, some_left h.begins l, ap length p.left.is, length-drop text_columns (text_of (drop at line)))

  module _ (l : at < length line) (m : length (line_rows number line) ≤ length old) where
    left : PutSoFar (line_rows number line) old to page (first_row n (text_of (drop at line)) ++ further_rows (text_of (drop at line)))
    left = rw (first_row_lem (numbered n) (text_of (drop at line)) (some_left h.begins l)) at h.sofar

    first_long : length (first_row n (text_of (drop at line))) ≡ page_row
    first_long = row_long (numbered n) (text_of (drop at line)) (numbered_long n)

    -- there is room for the next row
    pub row_fits : to + page_row ≤ length page
    row_fits = omega (arith, put_fits (first_row n (text_of (drop at line))) (further_rows (text_of (drop at line))) left m, first_long)

    -- the next row is put; the number 0 is blank
    pub line_row : {r : ℕ} {part : Bytes} → RowPut line at n r part
        → LineSoFar line number old r 0 (to + page_row) (take to page ++ (part ++ drop (to + page_row - to) (drop to page)))
    unfolding over numbered blank digit
    line_row p =
        let text = text_of (drop at line) in
        let w : to + page_row - to ≡ length (first_row n text) = omega (arith, first_long) in
        line_left p.left
        (put_more (first_row n text) (further_rows text) left (omega (arith, first_long)) (omega (arith, row_fits, h.sofar.long))
        (ap₂ (λ x j. take to page ++ (x ++ drop j (drop to page))) p.put w))

-- ---- the lines of a book

-- the rows of the lines ahead of `at` are put; the next line has number n
pub record PagesSoFar (book old : Bytes) (at n to : ℕ) (page : Bytes) : Type 0 where
  pub within : at ≤ length book
  pub few : n ≤ at + 1
  pub sofar : PutSoFar (pages book) old to page (pages_from n (lines (drop at book)))

pub pages_start : {book old : Bytes} → PagesSoFar book old 0 1 0 old
unfolding pages
pages_start = record { within = omega arith; few = omega arith; sofar = put_start }

module _ {book old : Bytes} {at n to : ℕ} {page : Bytes} (h : PagesSoFar book old at n to page) where
  -- all lines are put
  pub pages_end : length book ≤ at → page ≡ over (pages book) old
  unfolding pages_from
  pages_end l = (put_all (rw (no_lines_lem book at l) at h.sofar)).1

  module _ {r number next : ℕ} (l : at < length book) (e : LineEnd book at r) (m : length (pages book) ≤ length old)
      (d : Counted (take (r - at) (drop at book)) n number next) where
    left_lines : PutSoFar (pages book) old to page (line_rows number (take (r - at) (drop at book)) ++ pages_from next (lines (drop r book)))
    left_lines = subst (PutSoFar (pages book) old to page) (ap (pages_from n) (e.is l) ∙ d.is (lines (drop r book))) h.sofar

    -- there is room for the next line
    pub line_fits : to + length (line_rows number (take (r - at) (drop at book))) ≤ length page
    line_fits = put_fits (line_rows number (take (r - at) (drop at book))) (pages_from next (lines (drop r book))) left_lines m

    -- the next line is put
    pub pages_line : {more : ℕ} {part : Bytes}
        → (more ≡ length (line_rows number (take (r - at) (drop at book))))
        × (part ≡ over (line_rows number (take (r - at) (drop at book))) (take (length page - to) (drop to page)))
        → PagesSoFar book old r next (to + more) (take to page ++ (part ++ drop (length page - to) (drop to page)))
    pages_line {more} {part} p =
        let first = line_rows number (take (r - at) (drop at book)) in
        let k = length page - to in
        let w : length (drop to page) ≤ k = omega (arith, length-drop to page) in
        record {
          within = e.within h.within;
          few = omega (arith, h.few, d.few, e.from l);
          sofar =
              put_more first (pages_from next (lines (drop r book))) left_lines (omega (arith, p.0)) (omega (arith, line_fits, h.sofar.long, p.0))
              (ap (λ x. take to page ++ x)
              (ap₂ (λ x y. x ++ y) (p.1 ∙ ap (over first) (take_all k (drop to page) w)) (drop_of_length-le (drop to page) w) ∙ append-nil (over first (drop to page))));
        }
