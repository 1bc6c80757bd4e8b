-- One ordinary line of the book, after what is recorded: read, stored, checked, recorded.
use mathlib.Core.Path.{◌≡◌, refl, sym, ap, ◌∙◌, subst}
use mathlib.Core.Logic.{◌≢◌}
use mathlib.Core.Bool.{Bool, true, false, not, ◌&&◌}
use mathlib.Core.List.{List, [], ◌∷◌, ◌++◌}
use Prim.Native.Nat.{ℕ, suc, ◌+◌, ◌-◌, ◌*◌, ◌≤◌, ◌<◌}
use native.Mathlib.Omega.{arith}
use lib.Dec.{leb, ltb}
use lib.ListN.{length, take, drop, length-take}
use lib.Seq.{sets, drop_at}
use borrow.Author.Tests.{not-true, not-false}
use Rattle.aut68.specs.Language.{aut68}
use Rattle.aut68.specs.Sizes.{line_limit, row_width, at_name_length, largest_limit, work_units}
use Rattle.aut68.specs.Stores.{Stores, Limits, limits_of}
use Rattle.aut68.specs.Bytes.{Bytes}
use Rattle.aut68.specs.Lines.{kind_cells, line_cells, terms_of, row_of, row_cell}
use Rattle.aut68.specs.Lines as Lines
use Rattle.aut68.specs.Index.{entry_of, index_of}
use Rattle.aut68.specs.Procedure.Answer.{done, stop, and_then, Refusal, code_of}
use Rattle.aut68.specs.Procedure.Parse.{signed}
use Rattle.aut68.specs.Procedure.CheckLine.{Passed, read_line, check_line, room}
use Rattle.aut68.specs.Procedure.CheckPiece.{check_piece}
use Rattle.aut68.specs.Procedure.Resolve.{found}
use Rattle.aut68.specs.Procedure.Run.{Recorded, state_of, one_more}
use Rattle.lookup.specs.Answers.{stop_then}
use Rattle.lookup.specs.DerivedBooks.{right_contexts, distinct_names}
use Rattle.calculus.specs.Resolved.{resolved_known, category_known}
use Rattle.reading.specs.PieceStages.{check_line_lem}
use Rattle.inclusion.proofs.Derivations.{line_middle, line_category, category_ends_lem}
use Rattle.cells.specs.Layout.{names_at, line_unit, reader_units}
use Rattle.cells.specs.Forests.{size_is_length}
use Rattle.cells.specs.Links.{link_factor, unlinked, unlinked_long}
use Rattle.cells.specs.Results.{Result}
use Rattle.kinds.specs.Kinds.{KindsTable}
use Rattle.std.specs.Prelude.{Result as Tried, Ok}
use Rattle.constants.specs.declared.codes.Reason.{Reason}
use Rattle.constants.specs.Refusals.{code_in}
use Rattle.reader.specs.Posts.{LineReadTo, number_of}
use Rattle.reader.specs.Posts as Reader
use Rattle.reader.specs.declared.lines.Line.{Line}
use Rattle.categories.specs.Places.{LineCells}
use Rattle.records.specs.Tables.{over_long}
use Rattle.records.specs.OnRecord.{reached_known, reached_book, book_linked}
use Rattle.records.specs.ReadLines.{LineRead, line_read}
use Rattle.records.specs.Reached.{Reached, HasRoom, room_is, reached_more, slice_is, context_before}
use Rattle.records.specs.Indexed.{Indexed, indexed_more}
use Rattle.records.specs.Bounds.{reached_table, used_small, line_cells_fit, size_small, stored_cells, row_small, name_short}
use Rattle.entries.specs.Posts.{NamesPut, NamesPost, EntryPost}
use Rattle.checking.specs.Progress.{Fitting, IsPiece, StandsIn, ToStore, StoredPost, NotedLine, LineResult}
use Rattle.checking.specs.Progress as P
use Rattle.checking.proofs.EntryLaws.{read_still, below_names, entry_long, entry_put}
use Rattle.checking.proofs.HintLaws.{second_cell, stands_on, row_on}
use Rattle.checking.proofs.ReadLaws.{result_done, result_stop, not_read, no_room, by_categories}

reached_as : {book : Bytes} {N limit : ℕ} {s : Stores} {k : Recorded} {at n u u' : ℕ} {tb tb' ts ts' : List ℕ} → u' ≡ u → tb' ≡ tb → ts' ≡ ts
    → Reached aut68 book N limit s k at n u tb ts → Reached aut68 book N limit s k at n u' tb' ts'
reached_as e f g h = rw (e, f, g) h

indexed_as : {s : Stores} {k : Recorded} {n n' : ℕ} {ix ix' : List ℕ} → n' ≡ n → ix' ≡ ix → Indexed s k n ix → Indexed s k n' ix'
indexed_as e f h = rw (e, f) h

-- the length of an identifier in the row that is written
row_length : (tb : List ℕ) (n : ℕ) → row_width * suc n ≤ length tb → (l : Lines.Line) (used at : ℕ) → row_cell (sets tb (row_width * n) (row_of at used l)) (suc n) at_name_length ≡ length l.identifier
unfolding row_of
row_length tb n room l used at = second_cell tb n at (length l.identifier) (drop 2 (row_of at used l)) room

module _ {book : Bytes} {N limit : ℕ} {s₀ : Stores} {k : Recorded} {at n used entries : ℕ} (tb : List ℕ) {ts ix : List ℕ} (h : Reached aut68 book N limit s₀ k at n used (unlinked n tb) ts)
    (j : Indexed s₀ k entries ix) where
  abbrev limits : Limits
  limits = limits_of N limit s₀

  table_same : length tb ≡ length s₀.table
  table_same = sym (unlinked_long n tb) ∙ reached_table h

  terms_same : length ts ≡ length s₀.terms
  terms_same =
      let a = h.terms_room in
      let q = h.used_is in
      ap length h.terms_are ∙ over_long (terms_of k.recorded) s₀.terms (omega arith)

  index_same : length ix ≡ length s₀.index
  index_same =
      let a = j.index_room in
      let q = j.entries_are in
      ap length j.index_is ∙ over_long (index_of k.recorded) s₀.index (omega arith)

  -- ---- read

  -- what the reader says of it
  line_result : {bytes ks w w' : List ℕ} {x : Tried Line Reason} → length bytes ≤ length book → Fitting book limit w → KindsTable ks → StandsIn limit (state_of k) book tb n w at
      → LineReadTo ks bytes book tb n limit w w' x → Result (Reader.ReadAs bytes w' (line_unit * limit) x) (code_in x) tt (read_line aut68 (state_of k) limit bytes tt)
  line_result part f ks stands post =
      post.read (state_of k) ks (reached_known tb h) (let s = f.short in omega arith) f.large (let e = f.enough in omega arith) stands.noted

  -- ---- stored

  module _ {bytes : Bytes} {p : Passed} (r : LineRead aut68 (state_of k) limit bytes p) (fits : HasRoom k.recorded limits p.line) (small : limit ≤ largest_limit) where
    line_cells_lem : (s : List ℕ) (middle : ℕ) → length s < 4294967296 → s ≡ terms_of k.recorded ++ line_cells p.line → middle ≡ length (kind_cells p.line.kind)
        → LineCells k.recorded s limit used (used + middle) p.line
    unfolding line_cells kind_cells
    line_cells_lem s middle short e m =
        let l = p.line in
        let a = r.reading in
        record {
          short = short;
          cells_are = record { is = ap (drop used) e ∙ drop_at (terms_of k.recorded) (line_cells l) used (sym h.used_is) };
          ends = ap (λ (x : ℕ). used + x) m;
          middle = λ d q. resolved_known k.recorded l.context 0 d (line_middle (state_of k) a.context_is a.form a.middle_is d q);
          middle_small = λ d q. (let f = r.middle_fits in let z = ap (λ x. length (kind_cells x)) q in omega (arith, f, z, size_is_length d), r.middle_shallow d q);
          category = category_known k.recorded l.context l.category (line_category (state_of k) a.context_is a.form a.category_is);
          ends_only = category_ends_lem aut68 (state_of k) a.context_is a.form a.category_is;
          category_small = (let f = r.category_fits in omega (arith, f, size_is_length l.category), r.category_shallow);
        }

    to_store : {w' : List ℕ} {x : Line} → work_units * limit ≤ length w' → Reader.LineRead bytes w' (line_unit * limit) x p → ToStore k.recorded p.line limit used x.middle x.size tb ts w'
    to_store {x = x} enough a =
        let z = a.size_is in
        let e : take (used + x.size) (sets ts used (line_cells p.line)) ≡ terms_of k.recorded ++ line_cells p.line =
        ap (λ (i : ℕ). take (used + i) (sets ts used (line_cells p.line))) z ∙ stored_cells h r fits
        in
        let few : used + x.size < 4294967296 = let u = used_small h small in let s = size_small h r small in omega arith in
        record {
          size_is = z;
          behind = a.after;
          cells_at = a.cells_at;
          enough = enough;
          few = few;
          book = book_linked n tb (reached_book h small _ (line_cells p.line) e);
          cells = line_cells_lem _ x.middle (omega (arith, length-take (used + x.size) (sets ts used (line_cells p.line)))) e a.middle_is;
        }

  -- ---- how it ends

  module _ (budget : ℕ) {next : ℕ} (from : at ≤ next) (within : next ≤ length book) {ks w w' bytes : List ℕ} (f : Fitting book limit w) (table : KindsTable ks) (piece : IsPiece book at next bytes)
      (opens : signed 43 bytes ≡ false) (closes : signed 45 bytes ≡ false) (stands : StandsIn limit (state_of k) book tb n w at)
      {r : Tried Line Reason} (post : LineReadTo ks (take (next - at) (drop at book)) book tb n limit w w' r) where
    part : length bytes ≤ length book
    part = omega (arith, within, piece.next_is)

    reads : LineReadTo ks bytes book tb n limit w w' r
    reads = subst (λ (s : Bytes). LineReadTo ks s book tb n limit w w' r) (slice_is at next book from ∙ sym piece.bytes_are) post

    stops : {r : Refusal} {left : ℕ} → check_line aut68 (state_of k) limits bytes budget ≡ stop r left → check_piece aut68 (state_of k) limits bytes budget ≡ stop r left
    stops e = check_line_lem aut68 (state_of k) limits bytes budget opens closes ∙ stop_then _ e

    -- the reading refuses it
    pub ends_unread : code_in r ≢ 0 → {used' entries' : ℕ} {w'' : List ℕ} → LineResult book N limit s₀ k at next bytes n budget tb ts ix (code_in r) n used' entries' budget tb ts ix w''
    ends_unread c =
        let (_, e, q) = result_stop c (line_result part f table stands reads) in
        P.refused (stops (not_read aut68 (state_of k) limits bytes budget e)) q refl refl refl refl

    module _ {x : Line} (read : r ≡ Ok x) {count : ℕ} {w₁ : List ℕ} (names : NamesPost limit x.size x.indicator w' w₁ count) where
      abbrev Is : Passed → Type 0
      Is p = Reader.LineRead bytes w₁ (line_unit * limit) x p

      is_read : {p : Passed} → read_line aut68 (state_of k) limit bytes tt ≡ found p → LineRead aut68 (state_of k) limit bytes p
      is_read d = line_read aut68 (state_of k) limit bytes (right_contexts h.derived) d

      -- the line that was read, and what it names
      record Line-here : Type 0 where
        passed : Passed
        found : read_line aut68 (state_of k) limit bytes tt ≡ found passed
        is : Is passed
        named : NamesPut passed.line limit count w₁

      here : Line-here
      here =
          let (p, d, a) =
          result_done refl
          (subst (λ (l : Tried Line Reason). Result (Reader.ReadAs bytes w' (line_unit * limit) l) (code_in l) tt (read_line aut68 (state_of k) limit bytes tt)) read
          (line_result part f table stands reads))
          in
          let R = is_read d in
          let z = a.size_is in
          let i = a.indicator_is in
          let s : x.size ≤ 2 * limit = omega (arith, z, line_cells_fit R) in
          record {
            passed = p;
            found = d;
            is = read_still names s a;
            named =
                names.means p.line f.large f.small (let e = f.enough in omega (arith, post.outside.long)) a.cells_at z s i
                (let c = context_before R.reading.context_is in let q = h.few in let l = h.lines_are in omega arith);
          }

      long : work_units * limit ≤ length w₁
      long = let e = f.enough in omega (arith, names.long, post.outside.long)

      abbrev fitting : Bool
      fitting = ltb (suc n) line_limit && leb (row_width * suc n) (length tb) && leb (used + x.size) (length ts) && leb (entries + suc count) (length ix)

      room_same : fitting ≡ room k.recorded limits here.passed.line
      unfolding room
      room_same =
          λ i. ltb (suc (h.lines_are i)) line_limit && leb (row_width * suc (h.lines_are i)) (table_same i) && leb (h.used_is i + here.is.size_is i) (terms_same i)
          && leb (j.entries_are i + entry_long (let l = f.large in omega arith) long here.named i) (index_same i)

      -- there is no room for it
      pub ends_full : {t : Bool} → not t ≡ true → t ≡ fitting → {used' entries' : ℕ} {w'' : List ℕ}
          → LineResult book N limit s₀ k at next bytes n budget tb ts ix 12 n used' entries' budget tb ts ix w''
      unfolding code_of
      ends_full {t} flag e =
          P.refused (stops (no_room aut68 (state_of k) limits bytes budget here.found (sym room_same ∙ sym e ∙ not-true t flag))) refl refl refl refl refl

      module _ {t : Bool} (flag : not t ≡ false) (fits : t ≡ fitting) where
        has_room : room k.recorded limits here.passed.line ≡ true
        has_room = sym room_same ∙ sym fits ∙ not-false t flag

        its_room : HasRoom k.recorded limits here.passed.line
        its_room = room_is k.recorded limits here.passed.line has_room

        stores : ToStore k.recorded here.passed.line limit used x.middle x.size tb ts w₁
        stores = to_store (is_read here.found) its_room f.small long here.is

        module _ {start left code' : ℕ} {tb' ts' w₂ : List ℕ} (sum : at + x.first < 4294967296 → start ≡ at + x.first)
            (checked : StoredPost limit n used x.middle x.size
            (start ∷ x.len ∷ x.indicator ∷ x.context ∷ number_of x.kind ∷ used ∷ (used + x.middle) ∷ (used + x.size) ∷ x.paragraph ∷ []) budget tb ts w₁ tb' ts' w₂ code' left) where
          abbrev row : List ℕ
          row = start ∷ x.len ∷ x.indicator ∷ x.context ∷ number_of x.kind ∷ used ∷ (used + x.middle) ∷ (used + x.size) ∷ x.paragraph ∷ []

          -- its categories refuse it
          pub ends_refused : code' ≢ 0 → {used' entries' : ℕ} {w'' : List ℕ} → LineResult book N limit s₀ k at next bytes n budget tb ts ix code' n used' entries' left tb' ts' ix w''
          unfolding and_then
          ends_refused c =
              let (r, e, q) = result_stop c (checked.means stores) in
              let (t, u) = checked.restored stores c in
              P.refused (stops (by_categories aut68 (state_of k) limits bytes budget here.found has_room ∙ ap (and_then _) e)) q refl t u refl

          row_same : start ≡ at + x.first → row ≡ row_of (at + here.passed.before) used here.passed.line
          unfolding row_of
          row_same e =
              let a = here.is in
              λ i. (e ∙ ap (λ (j : ℕ). at + j) a.first_is) i ∷ a.len_is i ∷ a.indicator_is i ∷ a.context_is i ∷ a.kind_is i ∷ used ∷ (used + a.middle_is i) ∷ (used + a.size_is i) ∷ a.paragraph_is i ∷ []

          -- it is recorded
          pub ends_passed : code' ≡ 0 → {w₃ ix' : List ℕ} {to : ℕ} → (1 ≤ limit → limit ≤ largest_limit → to ≡ names_at limit) → EntryPost ix entries w₂ to count ix' → {tb'' : List ℕ} → NotedLine book tb' tb'' n limit w₂ w₃
              → LineResult book N limit s₀ k at next bytes n budget tb ts ix 0 (n + 1) (used + x.size) (entries + count + 1) left tb'' ts' ix' w₃
          unfolding and_then one_more
          ends_passed c {to = to} place entry noted =
              let (t, e, z) = result_done c (checked.means stores) in
              let p = here.passed in
              let R = is_read here.found in
              let room = its_room in
              let done : check_line aut68 (state_of k) limits bytes budget ≡ done p left = by_categories aut68 (state_of k) limits bytes budget here.found has_room ∙ ap (and_then _) e in
              let inside : at + length bytes ≤ length book = omega (arith, within, piece.next_is) in
              let one : 1 ≤ limit = let l = f.large in omega arith in
              let starts : start ≡ at + x.first = sum (let i = R.named.within in let j = here.is.first_is in let s = f.short in omega arith) in
              let is = row_same starts in
              let tables : tb' ≡ sets tb (row_width * n) (row_of (at + p.before) used p.line) =
              z.table_is (let i = room.few_lines in let j = h.lines_are in omega arith) (rw is (row_small h R f.small f.short inside)) ∙ ap (sets tb (row_width * n)) is
              in
              let more = reached_more h next bytes piece.cut p within from piece.bytes_are R room budget left done in
              let size : suc count ≡ length (entry_of p.line) = entry_long one long here.named in
              let index =
              entry_put one long here.named ix entries (place one f.small) checked.long (checked.below f.small) f.small
              (let i = room.entry_fits in let q = j.entries_are in omega (arith, index_same, size)) entry
              in
              let few : suc n < line_limit = let i = room.few_lines in let j = h.lines_are in omega arith in
              let row_fits_lem : row_width * suc n ≤ length tb = let i = room.row_fits in let j = h.lines_are in omega (arith, table_same) in
              let small : row_cell tb' (suc n) at_name_length < link_factor =
              omega (arith, ap (λ (t : List ℕ). row_cell t (suc n) at_name_length) tables, row_length tb n row_fits_lem p.line used (at + p.before), name_short R)
              in
              let long_w₂ : length w₂ ≡ length w = omega (arith, checked.long, names.long, post.outside.long) in
              let unread = below_names names w₂ post.outside (checked.below f.small) in
              let enough : reader_units * limit ≤ length w = let e = f.enough in omega arith in
              let noted-on =
              stands_on f.large w w₂ enough long_w₂ unread stands (row_of (at + p.before) used p.line) tb' _ _ tables few row_fits_lem small noted p.line (distinct_names more.derived) opens closes piece.cut
              from
              in
              let rows = row_on f.large w w₂ enough long_w₂ unread stands (row_of (at + p.before) used p.line) tb' _ _ tables few row_fits_lem small noted in
              P.passed (check_line_lem aut68 (state_of k) limits bytes budget opens closes ∙ ap (and_then _) done) refl (reached_as (ap (λ (i : ℕ). used + i) here.is.size_is) rows z.terms_are more)
              (indexed_as (omega (arith, size)) index (indexed_more j at p room.entry_fits)) noted-on
