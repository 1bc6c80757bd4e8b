-- Pages are cut into their rows, whatever lines they have.
use Rattle.std.specs.Prelude.{◌≡◌, refl, ◌≢◌, ℕ, zero, suc, ◌+◌, ◌-◌, ◌/◌, ◌%◌, ◌≤◌, Bool, true, false, List, [], ◌∷◌, ◌++◌, eqb, leb, length, take, drop, replicate}
use Rattle.std.proofs.Common.{ap, sym, ◌∙◌, arith, append_assoc}
use Rattle.std.proofs.lemmas.Bool.{eqb-false}
use Rattle.aut68.specs.Sizes.{number_columns, text_columns}
use Rattle.aut68.specs.Bytes.{Bytes, lines, joined}
use Rattle.aut68.specs.Pages.{without, text_of, digit, numbered, blank, row, rows, row_count, text_rows, begins_signed, pages_from}
use Rattle.lookup.specs.Lists.{Each}
use Rattle.reading.specs.Symbols.{if_true_lem, if_false}
use Rattle.reading.specs.Pieces.{end, byte, Closed, NoEnd, each_ended, Pieces, nothing, next, lines_of_pieces}

-- ---- bytes but 10

without_no_end : (a : Bytes) → NoEnd (without 10 a)
unfolding without
without_no_end [] = tt
without_no_end (x ∷ a) = go (eqb x 10) refl (without_no_end a)
  where
    go : (t : Bool) → eqb x 10 ≡ t → NoEnd (without 10 a) → NoEnd (elim t as (λ _. Bytes) [ true ↦ without 10 a | false ↦ x ∷ without 10 a ])
    go true e h = h
    go false e h = (eqb-false x 10 e, h)

text_no_end : (l : Bytes) → NoEnd (text_of l)
unfolding text_of
text_no_end l = without_no_end (without 32 l)

module _ (P : ℕ → Type 0) where
  pub take_each : (n : ℕ) (w : Bytes) → Each P w → Each P (take n w)
  take_each zero w h = tt
  take_each (suc n) [] h = tt
  take_each (suc n) (x ∷ w) h = (h.0, take_each n w h.1)

  pub drop_each : (n : ℕ) (w : Bytes) → Each P w → Each P (drop n w)
  drop_each zero w h = h
  drop_each (suc n) [] h = tt
  drop_each (suc n) (x ∷ w) h = drop_each n w h.1

  -- no byte is left
  pub drop_none : (n : ℕ) (w : Bytes) → length w ≤ n → Each P (drop n w)
  drop_none zero [] l = tt
  drop_none zero (x ∷ w) l = absurd (omega arith)
  drop_none (suc n) [] l = tt
  drop_none (suc n) (x ∷ w) l = drop_none n w (omega arith)

spaces_no_end : (n : ℕ) → NoEnd (replicate n 32)
spaces_no_end zero = tt
spaces_no_end (suc n) = (λ e. omega arith, spaces_no_end n)

blank_no_end : NoEnd blank
unfolding blank
blank_no_end = spaces_no_end number_columns

digit_no_end : (unit n : ℕ) → digit unit n ≢ 10
unfolding digit
digit_no_end unit n = go (leb unit n)
  where
    go : (t : Bool) → ◌≢◌ {A = ℕ} (elim t as (λ _. ℕ) [ true ↦ 48 + n / unit % 10 | false ↦ 32 ]) 10
    go true e = omega arith
    go false e = omega arith

numbered_no_end : (n : ℕ) → NoEnd (numbered n)
unfolding numbered
numbered_no_end n = (digit_no_end 10000 n, (digit_no_end 1000 n, (digit_no_end 100 n, (digit_no_end 10 n, (digit_no_end 1 n, tt)))))

-- ---- rows, one by one

row_closed : (front text : Bytes) → NoEnd front → NoEnd text → Closed (row front text)
unfolding row
row_closed front text f t =
    let n = text_columns - length text in
    each_ended front f (byte (λ e. omega arith) (each_ended text t (each_ended (replicate n 32) (spaces_no_end n) end)))

-- k rows of a text, the first with this front
unfoldable pub rows_of : ℕ → Bytes → Bytes → List Bytes
rows_of zero front text = []
rows_of (suc k) front text = row front (take text_columns text) ∷ rows_of k blank (drop text_columns text)

-- the rows of the lines from number n on
unfoldable pub page_rows : ℕ → List Bytes → List Bytes
page_rows n [] = []
page_rows n (l ∷ ls) =
    elim (begins_signed (text_of l)) [
      | true ↦ rows_of (row_count (text_of l)) blank (text_of l) ++ page_rows n ls
      | false ↦ rows_of (row_count (text_of l)) (numbered n) (text_of l) ++ page_rows (suc n) ls
    ]

-- a paragraph line first, an ordinary line first
pub rows_of_sign : (n : ℕ) (l : Bytes) (ls : List Bytes) → begins_signed (text_of l) ≡ true → page_rows n (l ∷ ls) ≡ rows_of (row_count (text_of l)) blank (text_of l) ++ page_rows n ls
unfolding page_rows
rows_of_sign n l ls e = if_true_lem _ _ e

pub rows_of_line : (n : ℕ) (l : Bytes) (ls : List Bytes) → begins_signed (text_of l) ≡ false → page_rows n (l ∷ ls) ≡ rows_of (row_count (text_of l)) (numbered n) (text_of l) ++ page_rows (suc n) ls
unfolding page_rows
rows_of_line n l ls e = if_false _ _ e

rows_joined : (k : ℕ) (front text : Bytes) (rest : List Bytes) → joined (rows_of k front text ++ rest) ≡ rows k front text ++ joined rest
unfolding rows_of rows joined
rows_joined zero front text rest = refl
rows_joined (suc k) front text rest =
    let r = row front (take text_columns text) in
    ap (λ (x : Bytes). r ++ x) (rows_joined k blank (drop text_columns text) rest) ∙ sym (append_assoc r (rows k blank (drop text_columns text)) (joined rest))

page_joined : (n : ℕ) (ls : List Bytes) → joined (page_rows n ls) ≡ pages_from n ls
unfolding page_rows pages_from text_rows joined
page_joined n [] = refl
page_joined n (l ∷ ls) = at (begins_signed (text_of l)) (page_joined n ls) (page_joined (suc n) ls)
  where
    t : Bytes
    t = text_of l

    one : (front : Bytes) (rest : List Bytes) {page : Bytes} → joined rest ≡ page → joined (rows_of (row_count t) front t ++ rest) ≡ rows (row_count t) front t ++ page
    one front rest e = rows_joined (row_count t) front t rest ∙ ap (λ (x : Bytes). rows (row_count t) front t ++ x) e

    at : (s : Bool) → joined (page_rows n ls) ≡ pages_from n ls → joined (page_rows (suc n) ls) ≡ pages_from (suc n) ls
        → joined (elim s as (λ _. List Bytes) [ true ↦ rows_of (row_count t) blank t ++ page_rows n ls | false ↦ rows_of (row_count t) (numbered n) t ++ page_rows (suc n) ls ])
        ≡ elim s as (λ _. Bytes) [ true ↦ rows (row_count t) blank t ++ pages_from n ls | false ↦ rows (row_count t) (numbered n) t ++ pages_from (suc n) ls ]
    at true e f = one blank (page_rows n ls) e
    at false e f = one (numbered n) (page_rows (suc n) ls) f

rows_pieces : (k : ℕ) (front text : Bytes) {rest : List Bytes} → NoEnd front → NoEnd text → Pieces rest → Pieces (rows_of k front text ++ rest)
unfolding rows_of
rows_pieces zero front text f t p = p
rows_pieces (suc k) front text f t p =
    next (row_closed front (take text_columns text) f (take_each _ text_columns text t))
    (rows_pieces k blank (drop text_columns text) blank_no_end (drop_each _ text_columns text t) p)

page_pieces : (n : ℕ) (ls : List Bytes) → Pieces (page_rows n ls)
unfolding page_rows
page_pieces n [] = nothing
page_pieces n (l ∷ ls) = at (begins_signed (text_of l)) (page_pieces n ls) (page_pieces (suc n) ls)
  where
    at : (s : Bool) → Pieces (page_rows n ls) → Pieces (page_rows (suc n) ls)
        → Pieces (elim s as (λ _. List Bytes) [
          | true ↦ rows_of (row_count (text_of l)) blank (text_of l) ++ page_rows n ls
          | false ↦ rows_of (row_count (text_of l)) (numbered n) (text_of l) ++ page_rows (suc n) ls
        ])
    at true p q = rows_pieces (row_count (text_of l)) blank (text_of l) blank_no_end (text_no_end l) p
    at false p q = rows_pieces (row_count (text_of l)) (numbered n) (text_of l) (numbered_no_end n) (text_no_end l) q

-- a page is cut into its rows
pub page_lines : (n : ℕ) (ls : List Bytes) → lines (pages_from n ls) ≡ page_rows n ls
page_lines n ls = ap lines (sym (page_joined n ls)) ∙ lines_of_pieces (page_pieces n ls)
