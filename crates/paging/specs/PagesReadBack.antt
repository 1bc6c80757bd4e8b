-- What is read back from pages: the lines of the book, each padded to whole rows.
use Rattle.std.specs.Prelude.{◌≡◌, refl, ◌≢◌, ℕ, zero, suc, ◌+◌, ◌-◌, ◌*◌, ◌≤◌, ◌<◌, true, false, not, ◌||◌, List, [], ◌∷◌, ◌++◌, map, eqb, length, take, drop, replicate, get_or}
use Rattle.std.proofs.Common.{ap, ap₂, sym, ◌∙◌, arith, append_assoc, append-nil, length-append, length-drop, take-append-drop, take_at, length-take-le, take_all, ne_eqb, le-leb}
use Rattle.std.proofs.lemmas.Bool.{false≢true}
use Rattle.std.proofs.lemmas.List.{length-replicate}
use Rattle.std.proofs.Math.ListN.{get_or-append}
use Rattle.std.proofs.Math.Seq.{drop-append-add}
use Rattle.aut68.specs.Sizes.{number_columns, text_columns}
use Rattle.aut68.specs.Bytes.{Bytes, lines}
use Rattle.aut68.specs.Pages.{text_of, digit, numbered, blank, row, row_count, begins_signed, pages, text_in, at_number, ahead, lines_in, read_back}
use Rattle.lookup.specs.Lists.{Each}
use Rattle.reading.specs.Symbols.{if_true_lem, if_false}
use Rattle.paging.specs.SameReading.{padded}
use Rattle.paging.specs.Rows.{take_each, drop_each, drop_none, rows_of, page_rows, rows_of_sign, rows_of_line, page_lines}

-- ---- a row

-- the text columns of a row
row_text : (front text : Bytes) → length front ≡ number_columns → length text ≤ text_columns → text_in (row front text) ≡ text ++ replicate (text_columns - length text) 32
unfolding text_in row
row_text front text f t =
    let pad : Bytes = replicate (text_columns - length text) 32 in
    let whole = text ++ (pad ++ (10 ∷ [])) in
    let n : suc number_columns ≡ length front + 1 = omega arith in
    let behind : drop (suc number_columns) (front ++ (32 ∷ whole)) ≡ whole = ap (λ (k : ℕ). drop k (front ++ (32 ∷ whole))) n ∙ drop-append-add front (32 ∷ whole) 1 in
    let long : length (text ++ pad) ≡ text_columns = omega (arith, length-append text pad, length-replicate {A = ℕ} (text_columns - length text) 32) in
    ap (take text_columns) (behind ∙ sym (append_assoc text pad (10 ∷ []))) ∙ take_at (text ++ pad) (10 ∷ []) text_columns long

-- no byte is a sign
abbrev pub NoSign : Bytes → Type 0
NoSign w = Each (λ b. (b ≢ 43) × (b ≢ 45)) w

no_sign_begins : (text : Bytes) (n : ℕ) → NoSign text → begins_signed (text ++ replicate n 32) ≡ false
unfolding begins_signed
no_sign_begins [] zero h = refl
no_sign_begins [] (suc n) h = refl
no_sign_begins (b ∷ text) n h = rw (ne_eqb b 43 h.0.0, ne_eqb b 45 h.0.1) refl

no_sign : (text : Bytes) → NoSign text → begins_signed text ≡ false
no_sign text h = ap begins_signed (sym (append-nil text)) ∙ no_sign_begins text 0 h

sign_begins : (text rest : Bytes) → begins_signed text ≡ true → begins_signed (text ++ rest) ≡ true
unfolding begins_signed
sign_begins [] rest e = absurd (false≢true e)
sign_begins (b ∷ text) rest e = e

-- columns 5 and 7 tell whether a line ends ahead of a row
at_front : (front text : Bytes) (rs : List Bytes) → length front ≡ number_columns → length text ≤ text_columns
    → at_number (row front text ∷ rs) ≡ (not (eqb (get_or front (number_columns - 1) 32) 32) || begins_signed (text ++ replicate (text_columns - length text) 32))
unfolding at_number row
at_front front text rs f t =
    ap₂ (λ (b : ℕ) (x : Bytes). not (eqb b 32) || begins_signed x)
    (get_or-append front (32 ∷ (text ++ (replicate (text_columns - length text) 32 ++ (10 ∷ [])))) 32 (number_columns - 1) (omega arith)) (row_text front text f t)

-- a further row of an ordinary line
at_blank : (text : Bytes) (rs : List Bytes) → length text ≤ text_columns → NoSign text → at_number (row blank text ∷ rs) ≡ false
unfolding blank
at_blank text rs t n = at_front blank text rs refl t ∙ no_sign_begins text (text_columns - length text) n

-- the row of a paragraph line
at_sign : (text : Bytes) (rs : List Bytes) → length text ≤ text_columns → begins_signed text ≡ true → at_number (row blank text ∷ rs) ≡ true
unfolding blank
at_sign text rs t e = at_front blank text rs refl t ∙ sign_begins text (replicate (text_columns - length text) 32) e

-- the first row of an ordinary line
at_numbered : (n : ℕ) (text : Bytes) (rs : List Bytes) → length text ≤ text_columns → at_number (row (numbered (suc n)) text ∷ rs) ≡ true
unfolding numbered digit
at_numbered n text rs t =
    at_front (numbered (suc n)) text rs refl t ∙ ap (λ x. not x || begins_signed (text ++ replicate (text_columns - length text) 32)) (ne_eqb (digit 1 (suc n)) 32 last)
  where
    last : digit 1 (suc n) ≢ 32
    last = rw (le-leb 1 (suc n) (omega arith), digit) (λ e. omega arith)

-- ---- the rows of a line

ends_line : (r : Bytes) (rs : List Bytes) → at_number rs ≡ true → lines_in (r ∷ rs) ≡ (text_in r ++ (10 ∷ [])) ∷ lines_in rs
unfolding lines_in
ends_line r rs e = if_true_lem _ _ e

goes_on : (r : Bytes) (rs : List Bytes) → at_number rs ≡ false → lines_in (r ∷ rs) ≡ ahead (text_in r) (lines_in rs)
unfolding lines_in
goes_on r rs e = if_false _ _ e

take_short : (n : ℕ) (w : Bytes) → length (take n w) ≤ n
take_short zero w = omega arith
take_short (suc n) [] = omega arith
take_short (suc n) (x ∷ w) = let h = take_short n w in omega arith

-- k + 1 rows, the last of which is not empty, and without signs in the further ones, give one line
rows_read_back : (k : ℕ) (front text : Bytes) (rs : List Bytes) → length front ≡ number_columns → text_columns * k < length text → length text ≤ text_columns * suc k
    → NoSign (drop text_columns text) → at_number rs ≡ true
    → lines_in (rows_of (suc k) front text ++ rs) ≡ (text ++ (replicate (text_columns * suc k - length text) 32 ++ (10 ∷ []))) ∷ lines_in rs
unfolding rows_of blank ahead
rows_read_back zero front text rs f h t n a =
    let m : text_columns - length text ≡ text_columns * 1 - length text = omega arith in
    let e : text_in (row front (take text_columns text)) ≡ text ++ replicate (text_columns * 1 - length text) 32 =
    ap (λ (x : Bytes). text_in (row front x)) (take_all text_columns text (omega arith)) ∙ (row_text front text f (omega arith) ∙ ap (λ (k : ℕ). text ++ replicate k 32) m)
    in
    ends_line (row front (take text_columns text)) rs a
    ∙ ap (λ (x : Bytes). x ∷ lines_in rs) (ap (λ (x : Bytes). x ++ (10 ∷ [])) e ∙ append_assoc text (replicate (text_columns * 1 - length text) 32) (10 ∷ []))
rows_read_back (suc k) front text rs f h t g a =
    let here = take text_columns text in
    let rest = drop text_columns text in
    let full : length here ≡ text_columns = length-take-le text_columns text (omega arith) in
    let left : length rest ≡ length text - text_columns = length-drop text_columns text in
    let n : text_columns * suc k - length rest ≡ text_columns * suc (suc k) - length text = omega arith in
    let none : text_columns - length here ≡ 0 = omega arith in
    let e : text_in (row front here) ≡ here = row_text front here f (omega arith) ∙ (ap (λ (k : ℕ). here ++ replicate k 32) none ∙ append-nil here) in
    let end : Bytes = replicate (text_columns * suc k - length rest) 32 ++ (10 ∷ []) in
    let back = rows_read_back k blank rest rs refl (omega arith) (omega arith) (drop_each _ text_columns rest g) a in
    goes_on (row front here) (rows_of (suc k) blank rest ++ rs) (at_blank (take text_columns rest) (rows_of k blank (drop text_columns rest) ++ rs) (take_short text_columns rest) (take_each _ text_columns rest g))
    ∙ (ap (ahead (text_in (row front here))) back
    ∙ ap (λ (x : Bytes). x ∷ lines_in rs)
    (ap (λ (x : Bytes). x ++ (rest ++ end)) e
    ∙ (sym (append_assoc here rest end)
    ∙ (ap (λ (x : Bytes). x ++ end) (take-append-drop text_columns text)
    ∙ ap (λ (k : ℕ). text ++ (replicate k 32 ++ (10 ∷ []))) n))))

-- ---- the lines

-- how many columns of its last row a text leaves
unfoldable pub padding : Bytes → ℕ
padding text = text_columns * row_count text - length text

-- a line as it is read back: its text, the padding of its last row, and byte 10
unfoldable pub padded_line : Bytes → Bytes
padded_line l = padded (padding (text_of l)) l

-- the rows of a text: all but the last are full, and the last is not empty
record Filled (text : Bytes) : Type 0 where
  further : ℕ
  count_is : row_count text ≡ suc further
  above : text_columns * further < length text
  within : length text ≤ text_columns * suc further

filled : (text : Bytes) → 1 ≤ length text → Filled text
unfolding row_count
filled text h = record { further = row_count text - 1; count_is = omega arith; above = omega arith; within = omega arith }

-- a line that can be read back: an ordinary one has a text without signs, a paragraph line begins with one and has one row
pub data Printable (l : Bytes) : Type 0 where
  ordinary : 1 ≤ length (text_of l) → NoSign (text_of l) → Printable l
  paragraph : begins_signed (text_of l) ≡ true → length (text_of l) ≤ text_columns → Printable l

line_read_back : (front l : Bytes) (rs : List Bytes) → length front ≡ number_columns → Filled (text_of l) → NoSign (drop text_columns (text_of l)) → at_number rs ≡ true
    → lines_in (rows_of (row_count (text_of l)) front (text_of l) ++ rs) ≡ padded_line l ∷ lines_in rs
unfolding padded_line padding padded
line_read_back front l rs n f g a = rw f.count_is (rows_read_back f.further front (text_of l) rs n f.above f.within g a)

-- the text of a paragraph line is not empty
sign_filled : (text : Bytes) → begins_signed text ≡ true → 1 ≤ length text
unfolding begins_signed
sign_filled [] e = absurd (false≢true e)
sign_filled (b ∷ text) e = omega arith

first_number : (front text : Bytes) (rs : List Bytes) → Filled text → ((rest : List Bytes) → at_number (row front (take text_columns text) ∷ rest) ≡ true)
    → at_number (rows_of (row_count text) front text ++ rs) ≡ true
unfolding rows_of
first_number front text rs f h = rw f.count_is (h _)

page_at_number : (n : ℕ) (ls : List Bytes) → Each Printable ls → at_number (page_rows (suc n) ls) ≡ true
unfolding page_rows at_number
page_at_number n [] h = refl
page_at_number n (l ∷ ls) h = at h.0
  where
    at : Printable l → at_number (page_rows (suc n) (l ∷ ls)) ≡ true
    at (ordinary t g) =
        ap at_number (rows_of_line (suc n) l ls (no_sign (text_of l) g))
        ∙ first_number _ (text_of l) _ (filled (text_of l) t) (λ rest. at_numbered n (take text_columns (text_of l)) rest (take_short text_columns (text_of l)))
    at (paragraph e t) =
        ap at_number (rows_of_sign (suc n) l ls e)
        ∙ first_number _ (text_of l) _ (filled (text_of l) (sign_filled (text_of l) e))
        (λ rest. at_sign (take text_columns (text_of l)) rest (take_short text_columns (text_of l)) (ap begins_signed (take_all text_columns (text_of l) t) ∙ e))

page_read_back : (n : ℕ) (ls : List Bytes) → Each Printable ls → lines_in (page_rows (suc n) ls) ≡ map padded_line ls
unfolding page_rows lines_in numbered blank
page_read_back n [] h = refl
page_read_back n (l ∷ ls) h = at h.0 (page_read_back n ls h.1) (page_read_back (suc n) ls h.1)
  where
    at : Printable l → lines_in (page_rows (suc n) ls) ≡ map padded_line ls → lines_in (page_rows (suc (suc n)) ls) ≡ map padded_line ls → lines_in (page_rows (suc n) (l ∷ ls)) ≡ map padded_line (l ∷ ls)
    at (ordinary t g) p q =
        ap lines_in (rows_of_line (suc n) l ls (no_sign (text_of l) g))
        ∙ (line_read_back (numbered (suc n)) l _ refl (filled (text_of l) t) (drop_each _ text_columns (text_of l) g) (page_at_number (suc n) ls h.1) ∙ ap (◌∷◌ (padded_line l)) q)
    at (paragraph e t) p q =
        ap lines_in (rows_of_sign (suc n) l ls e)
        ∙ (line_read_back blank l _ refl (filled (text_of l) (sign_filled (text_of l) e)) (drop_none _ text_columns (text_of l) t) (page_at_number n ls h.1) ∙ ap (◌∷◌ (padded_line l)) p)

-- the pages of a book whose lines can be read back, read back
pub pages_read_back : (book : Bytes) → Each Printable (lines book) → read_back (pages book) ≡ map padded_line (lines book)
unfolding read_back pages
pages_read_back book h = ap lines_in (page_lines 1 (lines book)) ∙ page_read_back 0 (lines book) h
