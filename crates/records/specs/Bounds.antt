-- How many cells, variables and paragraphs recorded lines have: every number of a row is below 2^32.
use Rattle.std.specs.Prelude.{◌≡◌, ◌⊎◌, ℕ, suc, ◌+◌, ◌*◌, ◌≤◌, drop}
use Rattle.std.proofs.Math.Path.{ap}
use Rattle.std.proofs.Common.{◌∙◌, inl, inr, mul-le-mul_right, add-mul}
use mathlib.Core.List.{List, [], ◌∷◌, ◌++◌}
use native.Mathlib.Omega.{arith}
use Rattle.std.proofs.Math.ListN.{length, take, length-append}
use Rattle.std.proofs.lemmas.List.Edits.{sets}
use Rattle.std.proofs.Math.Seq.{take_at}
use Rattle.aut68.specs.Language.{Language}
use Rattle.aut68.specs.Sizes.{line_limit, largest_limit, book_limit, name_limit}
use Rattle.aut68.specs.Stores.{Stores, limits_of}
use Rattle.aut68.specs.Bytes.{Bytes, lines}
use Rattle.aut68.specs.Expr.{cells}
use Rattle.aut68.specs.Lines.{Line, Lines, Kind, variable, primitive, abbreviation, kind_cells, kind_number, line_cells, terms_of, table_of, row_of}
use Rattle.aut68.specs.Source.{SourceLine}
use Rattle.aut68.specs.Paragraphs.{State, outside, start, current, opening}
use Rattle.aut68.specs.Procedure.CheckLine.{Passed}
use Rattle.aut68.specs.Procedure.Run.{Recorded, state_of, over}
use Rattle.aut68.specs.Rules.Names.{IsLine, first, later, Context, no_context, within}
use Rattle.aut68.specs.Rules.Grammar.{WellFormed}
use Rattle.aut68.specs.Rules.Grammar as G
use Rattle.aut68.specs.Rules.Derivation.{line, opened, closed, Derived, no_more, piece}
use Rattle.lookup.specs.LineNumbers.{no_line_lem, line_snoc}
use Rattle.lookup.specs.DerivedBooks.{new_paragraph}
use Rattle.lookup.specs.Places.{RightPlace, current_within, opening_right, closing_right, place_start, right_place}
use Rattle.reading.specs.Pieces.{lines_short}
use Rattle.cells.specs.Cells.{Below}
use Rattle.records.specs.Tables.{Holds, over_more, over_long, table_long_lem, spelled_long}
use Rattle.records.specs.ReadLines.{LineRead}
use Rattle.records.specs.Reached.{IndicatorsBefore, indicators_before, SmallLine, Reached, HasRoom, reached_holds, context_before}

-- ---- cells

line_cells_bound : (L : ℕ) (l : Line) → SmallLine L l → length (line_cells l) ≤ 2 * L
unfolding line_cells
line_cells_bound L l s =
    let m = s.middle_size in
    let c = s.category_size in
    omega (arith, m, c, length-append (kind_cells l.kind) (cells l.category))

terms_bound : (L : ℕ) (ls : Lines) → ((v : ℕ) (l : Line) → IsLine ls v l → SmallLine L l) → length (terms_of ls) ≤ length ls * (2 * L)
unfolding terms_of
terms_bound L [] h = omega arith
terms_bound L (l ∷ ls) h =
    let r = terms_bound L ls (λ v k i. h (suc v) k (later i)) in
    let c = line_cells_bound L l (h 1 l first) in
    omega (arith, r, c, length-append (line_cells l) (terms_of ls), add-mul 1 (length ls) (2 * L))

form_name_short : {language : Language} {s : SourceLine} {bytes : Bytes} → WellFormed language s bytes → length s.identifier ≤ name_limit
form_name_short (G.line i a n b c m d e f) = n.at_most

-- a line that is read has an identifier of at most 32 bytes, and at most two units of cells
pub name_short : {language : Language} {st : State} {L : ℕ} {bytes : Bytes} {p : Passed} → LineRead language st L bytes p → length p.line.identifier ≤ name_limit
name_short r = omega (arith, ap length r.reading.identifier_is, form_name_short r.reading.form)

pub line_cells_fit : {language : Language} {st : State} {L : ℕ} {bytes : Bytes} {p : Passed} → LineRead language st L bytes p → length (line_cells p.line) ≤ 2 * L
line_cells_fit {L = L} {p = p} r = line_cells_bound L p.line (record { middle_size = r.middle_fits; category_size = r.category_fits })

-- ---- contexts

context_short : {ls : Lines} {v : ℕ} {vs : List ℕ} → IndicatorsBefore ls → Context ls v vs → length vs ≤ v
context_short b no_context = omega arith
context_short b (within {v} {l} {vs} i k c) = let h = context_short b c in omega (arith, h, b v l i, length-append vs (v ∷ []))

kind_number_small : (k : Kind) → kind_number k ≤ 2
unfolding kind_number
kind_number_small variable = omega arith
kind_number_small primitive = omega arith
kind_number_small (abbreviation m) = omega arith

-- ---- paragraphs

-- each piece opens one at most
derived_paragraphs : {language : Language} {st all : State} {pieces : List Bytes} → Derived language st pieces all → length all.place.paragraphs ≤ length st.place.paragraphs + length pieces
unfolding opening
derived_paragraphs no_more = omega arith
derived_paragraphs (piece (line d) r) = let h = derived_paragraphs r in omega arith
derived_paragraphs {st = st} (piece (opened {p} f u) r) =
    let h = derived_paragraphs r in
    omega (arith, h, length-append st.place.paragraphs (new_paragraph st.place p ∷ []))
derived_paragraphs (piece (closed f e) r) = let h = derived_paragraphs r in omega arith

-- each line stands in one of them, or outside
LinesWithin : State → Type 0
LinesWithin st = (v : ℕ) (l : Line) → IsLine st.earlier v l → l.paragraph ≤ length st.place.paragraphs

derived_within : {language : Language} {st all : State} {pieces : List Bytes} → Derived language st pieces all → RightPlace st.place → LinesWithin st → LinesWithin all
unfolding LinesWithin opening
derived_within no_more R h = h
derived_within {st = st} (piece (line {l = new} d) r) R h = derived_within r R (λ v l i. at v l (line_snoc st.earlier i))
  where
    at : (v : ℕ) (l : Line) → IsLine st.earlier v l ⊎ ((l ≡ new) × (v ≡ suc (length st.earlier))) → l.paragraph ≤ length st.place.paragraphs
    at v l (inl i) = h v l i
    at v l (inr (e, q)) = omega (arith, ap (λ (z : Line). z.paragraph) e, d.paragraph_is, current_within R.numbered R.nested)
derived_within {st = st} (piece (opened {p} f u) r) R h =
    derived_within r (opening_right p R) (λ v l i. omega (arith, h v l i, length-append st.place.paragraphs (new_paragraph st.place p ∷ [])))
derived_within (piece (closed f e) r) R h = derived_within r (closing_right e R) h

-- ---- a line read after what is recorded

module _ {language : Language} {book : Bytes} {N L : ℕ} {s : Stores} {k : Recorded} {at n used : ℕ} {tb ts : List ℕ} (h : Reached language book N L s k at n used tb ts) where
  -- table and term store hold the recorded lines
  pub reached_stores : Holds book k.firsts k.recorded tb ts
  unfolding over
  reached_stores = reached_holds h ts (drop (length (terms_of k.recorded)) s.terms) h.terms_are

  -- the table is as long as the lent one
  pub reached_table : length tb ≡ length s.table
  reached_table =
      let a = h.table_room in
      let q = h.lines_are in
      ap length h.table_is ∙ over_long (table_of k.firsts k.recorded) s.table (omega (arith, table_long_lem k.firsts k.recorded (spelled_long h.spelled)))

  -- the cells of the lines, with L at most 4,096
  pub used_small : L ≤ largest_limit → used ≤ 2 * line_limit * largest_limit
  used_small l =
      let t = terms_bound L k.recorded (λ v x i. h.small i) in
      let a : length k.recorded * (2 * L) ≤ line_limit * (2 * L) = mul-le-mul_right (2 * L) (let f = h.few in let q = h.lines_are in omega arith) in
      let u = h.used_is in
      omega arith

  -- there are no more paragraphs than bytes
  pub paragraphs_few : length k.place.paragraphs ≤ length book
  unfolding start outside
  paragraphs_few =
      omega (arith, derived_paragraphs h.derived, ap length h.pieces_are, length-append h.past (lines (drop at book)), lines_short book)

  -- a recorded line stands in one of them, or outside
  pub paragraph_within : {v : ℕ} {l : Line} → IsLine k.recorded v l → l.paragraph ≤ length k.place.paragraphs
  unfolding LinesWithin start
  paragraph_within i = derived_within h.derived place_start (λ v l j. absurd (no_line_lem j)) _ _ i

  -- so does the next one
  pub current_small : current k.place.opened ≤ length k.place.paragraphs
  current_small = let R = right_place h.derived in current_within R.numbered R.nested

  module _ {bytes : Bytes} {p : Passed} (r : LineRead language (state_of k) L bytes p) where
    pub size_small : L ≤ largest_limit → length (line_cells p.line) ≤ 2 * largest_limit
    size_small l =
        let c = line_cells_fit r in
        omega arith

    -- the term store with the line's cells, cut behind them
    pub stored_cells : HasRoom k.recorded (limits_of N L s) p.line
        → take (used + length (line_cells p.line)) (sets ts used (line_cells p.line)) ≡ terms_of k.recorded ++ line_cells p.line
    unfolding over
    stored_cells f =
        let m = line_cells p.line in
        let t = terms_of k.recorded in
        let e : length (t ++ m) ≡ used + length m = let u = h.used_is in omega (arith, u, length-append t m) in
        ap (λ (x : List ℕ). take (used + length m) (sets x used m)) h.terms_are
        ∙ ap (λ (i : ℕ). take (used + length m) (sets (over t s.terms) i m)) h.used_is
        ∙ ap (take (used + length m)) (over_more t s.terms m f.cells_fit)
        ∙ take_at (t ++ m) (drop (length (t ++ m)) s.terms) (used + length m) e

    -- every number of its row is below 2^32
    pub row_small : L ≤ largest_limit → length book ≤ book_limit → at + length bytes ≤ length book → Below 4294967296 (row_of (at + p.before) used p.line)
    unfolding Below row_of line_cells
    row_small l short b =
        let i = r.named.within in
        let x = r.reading.context_is in
        let d = h.derived in
        let c = context_short (indicators_before d) x in
        let w = context_before x in
        let f = h.few in
        let q = h.lines_are in
        let u = used_small l in
        let s = size_small l in
        let z = length-append (kind_cells p.line.kind) (cells p.line.category) in
        let kn = kind_number_small p.line.kind in
        let g = r.reading.paragraph_is in
        let m = current_small in
        let o = paragraphs_few in
        (omega arith, (omega arith, (omega arith, (omega arith, (omega arith, (omega arith, (omega arith, (omega arith, (omega arith, tt)))))))))
