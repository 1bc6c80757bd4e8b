-- The pieces of a book, one after the other.
use mathlib.Core.Path.{◌≡◌, refl, sym, ap, ◌∙◌}
use mathlib.Core.Logic.{◌≢◌}
use mathlib.Core.List.{List, [], ◌∷◌}
use Prim.Native.Nat.{ℕ, suc, ◌+◌, ◌-◌, ◌*◌, ◌≤◌, ◌<◌}
use native.Mathlib.Omega.{arith}
use lib.ListN.{length, get_or, take, drop, drop_of_length-le}
use lib.Seq.{get_or-take, length-take-le}
use Rattle.aut68.specs.Language.{aut68}
use Rattle.aut68.specs.Sizes.{row_width, largest_limit}
use Rattle.aut68.specs.Stores.{Stores, Limits, limits_of}
use Rattle.aut68.specs.Bytes.{Bytes, lines}
use Rattle.aut68.specs.Lines.{table_of, terms_of}
use Rattle.aut68.specs.Index.{index_of}
use Rattle.aut68.specs.Paragraphs.{Opened, Place, outside, start, with_place}
use Rattle.aut68.specs.Procedure.Answer.{done, stop, Refusal, code_of}
use Rattle.aut68.specs.Procedure.CheckPiece.{PassedPiece, moved_to, check_piece}
use Rattle.aut68.specs.Procedure.Run.{Recorded, state_of, Ending, refused_at, nothing, one_more, elsewhere, after_piece, at_end, check_lines, code_at, line_at, steps_at, over, recorded_at, table_end, terms_end, index_end}
use Rattle.aut68.specs.Rules.Derivation.{Piece}
use Rattle.lookup.specs.Answers.{code_nonzero}
use Rattle.reading.specs.PieceStages.{PassedBy, opening_passed, closing_passed, piece_passed, opening_piece, closing_piece}
use Rattle.cells.specs.Layout.{unit_at, line_unit, reader_units}
use Rattle.cells.specs.Posts.{cleared}
use Rattle.cells.specs.CopyLaws.{cleared_zero}
use Rattle.cells.specs.Links.{unlinked, unlinked_long}
use Rattle.notes.specs.Note.{note_end}
use Rattle.notes.specs.NoteLaws.{note_fits, noted_start}
use Rattle.moves.specs.Posts.{OpenNamed, MovedResult, moved, refused}
use Rattle.moves.specs.declared.Open.{Open}
use Rattle.records.specs.Bounds.{reached_table}
use Rattle.records.specs.Reached.{reached_nothing, reached_elsewhere}
use Rattle.records.specs.Indexed.{indexed_nothing, indexed_elsewhere}
use Rattle.checking.specs.Progress.{LineResult, passed, refused, IsPiece, StandsIn, Fitting}
use Rattle.books.specs.Loop.{Going, LinesPost}

-- nothing is noted at first, where the cells ahead of the line's are cleared
pub stands_first : (limit : ℕ) (book tb : List ℕ) (w w' : List ℕ) {n : ℕ} → Fitting book limit w → (limit ≤ largest_limit → n ≡ unit_at limit line_unit) → w' ≡ cleared n w → length w' ≡ length w
    → StandsIn limit (state_of nothing) book tb 0 w' 0
unfolding unit_at nothing start
stands_first limit book tb w w' {n} f place e long =
    let enough = f.enough in
    let at : n ≡ line_unit * limit = place f.small in
    let m : length (take (reader_units * limit) w') ≡ reader_units * limit = length-take-le (reader_units * limit) w' (omega arith) in
    noted_start book tb (take (reader_units * limit) w')
    (λ i l.
    let b : i < n = omega (arith, ap note_end m, note_fits limit f.large) in
    get_or-take (reader_units * limit) w' i 0 (omega arith) ∙ ap (λ (x : List ℕ). get_or x i 0) e ∙ cleared_zero n w (omega arith) i b)

-- a paragraph line that passed has a derivation
moved_piece : (k : Recorded) (m : Limits) (bytes : Bytes) (b : ℕ) {place : Place} → check_piece aut68 (state_of k) m bytes b ≡ done (moved_to place) b → Piece aut68 (state_of k) bytes (with_place (state_of k) place)
moved_piece k m bytes b e = at (piece_passed aut68 (state_of k) m bytes b e)
  where
    at : {place : Place} → PassedBy aut68 (state_of k) m bytes b (moved_to place) b → Piece aut68 (state_of k) bytes (with_place (state_of k) place)
    at (opening_passed s h) = opening_piece aut68 (state_of k) bytes b h
    at (closing_passed s t h) = closing_piece aut68 (state_of k) bytes b h

module _ (book : Bytes) (N limit : ℕ) (s : Stores) where
  abbrev limits : Limits
  limits = limits_of N limit s

  abbrev pub ending : Ending
  ending = check_lines aut68 limits nothing 0 N (lines book)

  abbrev from : Recorded → ℕ → ℕ → List Bytes → Ending
  from k at b pieces = check_lines aut68 limits k at b pieces

  one_passes : (k : Recorded) (at b : ℕ) (bytes : Bytes) (more : List Bytes) {p : PassedPiece} {b' : ℕ} → check_piece aut68 (state_of k) limits bytes b ≡ done p b'
      → from k at b (bytes ∷ more) ≡ from (after_piece k at p) (at + length bytes) b' more
  unfolding check_lines
  one_passes k at b bytes more e = rw (e, check_lines) refl

  one_stops_lem : (k : Recorded) (at b : ℕ) (bytes : Bytes) (more : List Bytes) {r : Refusal} {b' : ℕ} → check_piece aut68 (state_of k) limits bytes b ≡ stop r b'
      → from k at b (bytes ∷ more) ≡ refused_at r (suc (length k.recorded)) (N - b') k
  unfolding check_lines
  one_stops_lem k at b bytes more e = rw (e, check_lines) refl

  pub going_starts : (w : List ℕ) (o : Open) → StandsIn limit (state_of nothing) book s.table 0 w 0 → OpenNamed book o [] → Going book N limit s 0 0 0 0 N s.table s.terms s.index w o
  unfolding unlinked nothing outside
  going_starts w o stands none =
      record { recorded = nothing; reached = reached_nothing aut68 book N limit s; indexed = indexed_nothing s; stands = stands; opened = none; goes = refl }

  module _ {at n used entries b : ℕ} {tb ts ix w : List ℕ} {o : Open} (g : Going book N limit s at n used entries b tb ts ix w o) where
    -- the book ends so, with what is recorded
    ends_so : {code : ℕ} {e : Ending} (left : ℕ) → ending ≡ e → recorded_at e ≡ g.recorded → code ≡ code_at e → (code ≡ 0 → n ≡ line_at e) → (code ≢ 0 → n + 1 ≡ line_at e) → N - left ≡ steps_at e
        → LinesPost ending N s.table s.terms s.index code n left (unlinked n tb) ts ix
    unfolding table_end terms_end index_end
    ends_so left q k c a r l =
        let R = g.reached in
        let recorded : recorded_at ending ≡ g.recorded = ap recorded_at q ∙ k in
        record {
          code_is = c ∙ sym (ap code_at q);
          accepted_line = λ x. a x ∙ sym (ap line_at q);
          refused_line = λ x. r x ∙ sym (ap line_at q);
          few = R.few;
          rows_fit = (let i = R.table_room in omega (arith, reached_table R));
          steps_are = l ∙ sym (ap steps_at q);
          table_is = R.table_is ∙ sym (ap (λ (k : Recorded). over (table_of k.firsts k.recorded) s.table) recorded);
          terms_are = R.terms_are ∙ sym (ap (λ (k : Recorded). over (terms_of k.recorded) s.terms) recorded);
          index_is = g.indexed.index_is ∙ sym (ap (λ (k : Recorded). over (index_of k.recorded) s.index) recorded);
        }

    module _ {next : ℕ} {bytes : Bytes} (piece : IsPiece book at next bytes) where
      goes_on : {p : PassedPiece} {left : ℕ} → check_piece aut68 (state_of g.recorded) limits bytes b ≡ done p left → ending ≡ from (after_piece g.recorded at p) next left (lines (drop next book))
      goes_on {p} {left} d =
          g.goes
          ∙ ap (from g.recorded at b) piece.cut
          ∙ one_passes g.recorded at b bytes (lines (drop next book)) d
          ∙ ap (λ (x : ℕ). from (after_piece g.recorded at p) x left (lines (drop next book))) (sym piece.next_is)

      stops_here : {r : Refusal} {code left : ℕ} → check_piece aut68 (state_of g.recorded) limits bytes b ≡ stop r left → code ≡ code_of r
          → LinesPost ending N s.table s.terms s.index code n left (unlinked n tb) ts ix
      unfolding code_at line_at steps_at recorded_at
      stops_here {r} {left = left} d c =
          ends_so left (g.goes ∙ ap (from g.recorded at b) piece.cut ∙ one_stops_lem g.recorded at b bytes (lines (drop next book)) d) refl c (λ z. absurd (code_nonzero r (sym c ∙ z)))
          (λ z. let i = g.reached.lines_are in omega arith) refl

      -- an ordinary line that passes
      pub going_on : {code n' used' entries' left : ℕ} {tb' ts' ix' w' : List ℕ} → code ≡ 0
          → LineResult book N limit s g.recorded at next bytes n b tb ts ix code n' used' entries' left tb' ts' ix' w' → Going book N limit s next n' used' entries' left tb' ts' ix' w' o
      unfolding after_piece one_more
      going_on z (passed {p} d c r x i) =
          record { recorded = one_more g.recorded at p; reached = r; indexed = x; stands = i; opened = g.opened; goes = goes_on d }
      going_on z (refused {r} d c l t u v) = absurd (code_nonzero r (sym c ∙ z))

      -- one that is refused
      pub going_stops : {code n' used' entries' left : ℕ} {tb' ts' ix' w' : List ℕ} → code ≢ 0
          → LineResult book N limit s g.recorded at next bytes n b tb ts ix code n' used' entries' left tb' ts' ix' w'
          → LinesPost ending N s.table s.terms s.index code n' left (unlinked n' tb') ts' ix'
      going_stops z (passed d c r x i) = absurd (z c)
      going_stops z (refused d c l t u v) = rw (l, t, u, v) (stops_here d c)

      -- a paragraph line that passes
      pub going_moved : {code : ℕ} {w' : List ℕ} {o' : Open} → code ≡ 0 → MovedResult book tb n (take (reader_units * limit) w') next (state_of g.recorded) bytes code o'
          → Going book N limit s next n used entries b tb ts ix w' o'
      unfolding after_piece elsewhere
      going_moved z (moved {place} d c i t) =
          record {
            recorded = elsewhere g.recorded place;
            reached = reached_elsewhere g.reached next bytes piece.cut place (moved_piece g.recorded limits bytes b (d limits b));
            indexed = indexed_elsewhere g.indexed place;
            stands = i;
            opened = t;
            goes = goes_on (d limits b);
          }
      going_moved z (refused {r} d c) = absurd (code_nonzero r (sym c ∙ z))

      -- one that is refused
      pub going_halts : {code : ℕ} {u : List ℕ} {o' : Open} → code ≢ 0 → MovedResult book tb n u next (state_of g.recorded) bytes code o'
          → LinesPost ending N s.table s.terms s.index code n b (unlinked n tb) ts ix
      going_halts z (moved d c i t) = absurd (z c)
      going_halts z (refused d c) = stops_here (d limits b) c

    -- no piece is left
    end_with : {code : ℕ} (os : List Opened) → o.depth ≡ length os → (o.depth ≡ 0 → code ≡ 0) → (o.depth ≢ 0 → code ≡ 17) → ending ≡ at_end aut68 limits g.recorded b os
        → LinesPost ending N s.table s.terms s.index code n b (unlinked n tb) ts ix
    unfolding code_at line_at steps_at recorded_at at_end code_of
    end_with [] d none some q = ends_so b q refl (none d) (λ z. g.reached.lines_are) (λ z. absurd (z (none d))) refl
    end_with {code} (x ∷ os) d none some q =
        let c : code ≡ 17 = some (λ z. omega arith) in
        ends_so b q refl c (λ z. absurd (omega arith)) (λ z. let i = g.reached.lines_are in omega arith) refl

    pub going_ends : length book ≤ at → {code : ℕ} → (o.depth ≡ 0 → code ≡ 0) → (o.depth ≢ 0 → code ≡ 17) → LinesPost ending N s.table s.terms s.index code n b (unlinked n tb) ts ix
    unfolding check_lines lines
    going_ends h none some =
        end_with g.recorded.place.opened g.opened.depth_is none some (g.goes ∙ ap (λ (x : Bytes). from g.recorded at b (lines x)) (drop_of_length-le book h))

-- the table without the links of its rows
pub ends_unlinked : (tb₁ : List ℕ) {e : Ending} {N : ℕ} {tb ts ix : List ℕ} {code n left : ℕ} {tb' ts' ix' : List ℕ} → LinesPost e N tb ts ix code n left (unlinked n tb₁) ts' ix'
    → (row_width * n ≤ length tb₁ → tb' ≡ unlinked n tb₁) → LinesPost e N tb ts ix code n left tb' ts' ix'
ends_unlinked tb₁ {n = n} p u = rw (u (let f = p.rows_fit in omega (arith, unlinked_long n tb₁))) p

-- the same end, under other names
pub ends_as : {e : Ending} {N : ℕ} {tb ts ix : List ℕ} {code code' n n' left left' : ℕ} (tb₁ : List ℕ) {ts' ix' : List ℕ} → code' ≡ code → n' ≡ n → left' ≡ left
    → LinesPost e N tb ts ix code n left (unlinked n tb₁) ts' ix' → LinesPost e N tb ts ix code' n' left' (unlinked n' tb₁) ts' ix'
ends_as tb₁ z l b p = rw (z, l, b) p

-- a working store of the same length serves as well
pub fitting_as : {book : Bytes} {limit : ℕ} {w w' : List ℕ} → Fitting book limit w → length w' ≡ length w → Fitting book limit w'
fitting_as f e = record { large = f.large; small = f.small; enough = (let h = f.enough in omega arith); short = f.short }
