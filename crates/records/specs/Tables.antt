-- The rows and cells of recorded lines: where each line's are, and one line more.
use Rattle.std.specs.Prelude.{◌≡◌, refl, ℕ, suc, ◌+◌, ◌*◌, ◌-◌, ◌≤◌, get_or}
use Rattle.std.proofs.Math.Path.{sym, ap}
use Rattle.std.proofs.Common.{◌∙◌, zero-add, add-zero, arith, get_or-drop, take_at}
use mathlib.Core.List.{List, [], ◌∷◌, ◌++◌, append_assoc, append-nil}
use Rattle.std.proofs.Math.ListN.{length, drop, length-append, length-drop}
use Rattle.std.proofs.Math.Seq.{slice, sets-eq, drop-append-add, drop_at, drop-drop}
use Rattle.std.proofs.lemmas.List.Edits.{sets}
use Rattle.std.proofs.lemmas.List.{drop-append-le}
use borrow.Author.Tests.{le-leb}
use Rattle.aut68.specs.Sizes.{row_width, at_name_start, at_name_length, at_indicator, at_context, at_kind, at_middle, at_category, at_end, at_paragraph}
use Rattle.aut68.specs.Bytes.{Bytes}
use Rattle.aut68.specs.Expr.{cells}
use Rattle.aut68.specs.Lines.{Line, Lines, kind_cells, line_cells, terms_of, row_of, rows_from, table_of, row_cell, part_of, identifier_part}
use Rattle.aut68.specs.Rules.Names.{IsLine, first, later}
use Rattle.aut68.specs.Procedure.Run.{over}
use Rattle.lookup.specs.LineNumbers.{line_positive}
use Rattle.cells.specs.Rows.{RowOf, CellsOf, NameOf, Rows, Stored, Named}
use Rattle.cells.specs.RowLaws.{row_cell_is}

-- ---- one line more

pub terms_snoc : (ls : Lines) (l : Line) → terms_of (ls ++ (l ∷ [])) ≡ terms_of ls ++ line_cells l
unfolding terms_of
terms_snoc [] l = append-nil (line_cells l)
terms_snoc (k ∷ ls) l = ap (λ (x : List ℕ). line_cells k ++ x) (terms_snoc ls l) ∙ sym (append_assoc (line_cells k) (terms_of ls) (line_cells l))

row_long : (f s : ℕ) (l : Line) → length (row_of f s l) ≡ row_width
unfolding row_of
row_long f s l = refl

rows_long : (s : ℕ) (firsts : List ℕ) (ls : Lines) → length firsts ≡ length ls → length (rows_from s firsts ls) ≡ row_width * length ls
unfolding rows_from
rows_long s [] [] e = refl
rows_long s (f ∷ fs) [] e = absurd (omega arith)
rows_long s [] (l ∷ ls) e = absurd (omega arith)
rows_long s (f ∷ fs) (l ∷ ls) e =
    let r = rows_long (s + length (line_cells l)) fs ls (omega arith) in
    omega (arith, r, row_long f s l, length-append (row_of f s l) (rows_from (s + length (line_cells l)) fs ls))

rows_snoc : (s : ℕ) (firsts : List ℕ) (ls : Lines) (f : ℕ) (l : Line) → length firsts ≡ length ls
    → rows_from s (firsts ++ (f ∷ [])) (ls ++ (l ∷ [])) ≡ rows_from s firsts ls ++ row_of f (s + length (terms_of ls)) l
unfolding rows_from terms_of
rows_snoc s [] [] f l e = append-nil (row_of f s l) ∙ ap (λ (n : ℕ). row_of f n l) (sym (add-zero s))
rows_snoc s (g ∷ fs) [] f l e = absurd (omega arith)
rows_snoc s [] (k ∷ ls) f l e = absurd (omega arith)
rows_snoc s (g ∷ fs) (k ∷ ls) f l e =
    let n : s + length (line_cells k) + length (terms_of ls) ≡ s + length (line_cells k ++ terms_of ls) = omega (arith, length-append (line_cells k) (terms_of ls)) in
    ap (λ (x : List ℕ). row_of g s k ++ x) (rows_snoc (s + length (line_cells k)) fs ls f l (omega arith) ∙ ap (λ (n : ℕ). rows_from (s + length (line_cells k)) fs ls ++ row_of f n l) n)
    ∙ sym (append_assoc (row_of g s k) (rows_from (s + length (line_cells k)) fs ls) (row_of f (s + length (line_cells k ++ terms_of ls)) l))

pub table_long_lem : (firsts : List ℕ) (ls : Lines) → length firsts ≡ length ls → length (table_of firsts ls) ≡ row_width * length ls
unfolding table_of
table_long_lem firsts ls e = rows_long 0 firsts ls e

pub table_snoc : (firsts : List ℕ) (ls : Lines) (f : ℕ) (l : Line) → length firsts ≡ length ls
    → table_of (firsts ++ (f ∷ [])) (ls ++ (l ∷ [])) ≡ table_of firsts ls ++ row_of f (length (terms_of ls)) l
unfolding table_of
table_snoc firsts ls f l e = rows_snoc 0 firsts ls f l e ∙ ap (λ (n : ℕ). rows_from 0 firsts ls ++ row_of f n l) (zero-add (length (terms_of ls)))

-- ---- new cells at the front of a store

module _ (new old : List ℕ) where
  pub over_long : length new ≤ length old → length (over new old) ≡ length old
  unfolding over
  over_long h = omega (arith, length-append new (drop (length new) old), length-drop (length new) old)

  -- more of them, written behind the first
  pub over_more : (more : List ℕ) → length new + length more ≤ length old → sets (over new old) (length new) more ≡ over (new ++ more) old
  unfolding over
  over_more more h =
      let n = length new in
      let w = new ++ drop n old in
      let e : n + length more ≡ length (new ++ more) = sym (length-append new more) in
      sets-eq more w n (omega (arith, length-append new (drop n old), length-drop n old))
      ∙ ap (λ (x : List ℕ). x ++ more ++ drop (n + length more) w) (take_at new (drop n old) n refl)
      ∙ ap (λ (x : List ℕ). new ++ more ++ x) (drop-append-add new (drop n old) (length more) ∙ drop-drop (length more) n old ∙ ap (λ (k : ℕ). drop k old) e)

-- ---- where a line's row and cells are

-- each identifier stands in the book at its first byte
pub data Spelled (book : Bytes) : List ℕ → Lines → Type 0 where
  none_spelled : Spelled book [] []
  one_spelled : {f : ℕ} {fs : List ℕ} {l : Line} {ls : Lines} → f + length l.identifier ≤ length book → slice f (f + length l.identifier) book ≡ l.identifier
      → Spelled book fs ls → Spelled book (f ∷ fs) (l ∷ ls)

pub spelled_long : {book : Bytes} {firsts : List ℕ} {ls : Lines} → Spelled book firsts ls → length firsts ≡ length ls
spelled_long none_spelled = refl
spelled_long (one_spelled h k s) = ap suc (spelled_long s)

pub spelled_snoc : {book : Bytes} {firsts : List ℕ} {ls : Lines} (f : ℕ) (l : Line) → Spelled book firsts ls
    → f + length l.identifier ≤ length book → slice f (f + length l.identifier) book ≡ l.identifier → Spelled book (firsts ++ (f ∷ [])) (ls ++ (l ∷ []))
spelled_snoc f l none_spelled h k = one_spelled h k none_spelled
spelled_snoc f l (one_spelled a b s) h k = one_spelled a b (spelled_snoc f l s h k)

-- the row of line v among the rows, its identifier in the book, its cells among the cells
record Place (book : Bytes) (s : ℕ) (rows terms : List ℕ) (v : ℕ) (l : Line) : Type 0 where
  index : ℕ
  number_is : v ≡ suc index
  begins : ℕ
  from : ℕ
  more_rows : List ℕ
  row_at : drop (row_width * index) rows ≡ row_of begins (s + from) l ++ more_rows
  more_cells : List ℕ
  cells_at : drop from terms ≡ line_cells l ++ more_cells
  row_in : row_width * index + row_width ≤ length rows
  cells_in : from ≤ length terms
  within : begins + length l.identifier ≤ length book
  bytes_are : slice begins (begins + length l.identifier) book ≡ l.identifier

place : {book : Bytes} {v : ℕ} {l : Line} {ls : Lines} (s : ℕ) (firsts : List ℕ) → Spelled book firsts ls → IsLine ls v l → Place book s (rows_from s firsts ls) (terms_of ls) v l
unfolding rows_from terms_of
place {l = l} {ls} s firsts (one_spelled {f} {fs} {ls = more} a b t) first =
    let r = row_long f s l in
    record {
      index = 0;
      number_is = refl;
      begins = f;
      from = 0;
      more_rows = rows_from (s + length (line_cells l)) fs more;
      row_at = ap (λ (n : ℕ). row_of f n l ++ rows_from (s + length (line_cells l)) fs more) (sym (add-zero s));
      more_cells = terms_of more;
      cells_at = refl;
      row_in = omega (arith, length-append (row_of f s l) (rows_from (s + length (line_cells l)) fs more));
      cells_in = omega arith;
      within = a;
      bytes_are = b;
    }
place {l = l} s firsts (one_spelled {f} {fs} {l = k} {ls = more} a b t) (later h) =
    let n = s + length (line_cells k) in
    let p = place n fs t h in
    let r = row_long f s k in
    let e : row_width * suc p.index ≡ length (row_of f s k) + row_width * p.index = omega arith in
    let g : n + p.from ≡ s + (length (line_cells k) + p.from) = omega arith in
    record {
      index = suc p.index;
      number_is = ap suc p.number_is;
      begins = p.begins;
      from = length (line_cells k) + p.from;
      more_rows = p.more_rows;
      row_at =
          ap (λ (i : ℕ). drop i (row_of f s k ++ rows_from n fs more)) e
          ∙ drop-append-add (row_of f s k) (rows_from n fs more) (row_width * p.index)
          ∙ p.row_at
          ∙ ap (λ (i : ℕ). row_of p.begins i l ++ p.more_rows) g;
      more_cells = p.more_cells;
      cells_at = drop-append-add (line_cells k) (terms_of more) p.from ∙ p.cells_at;
      row_in = (let q = p.row_in in omega (arith, length-append (row_of f s k) (rows_from n fs more)));
      cells_in = (let q = p.cells_in in omega (arith, length-append (line_cells k) (terms_of more)));
      within = p.within;
      bytes_are = p.bytes_are;
    }
place s _ none_spelled h = elim h [ ]

-- ---- what the stores say of the lines

-- the table and the term store begin with the rows and cells of the lines, and the rows point to their names in the book
pub record Holds (book : Bytes) (firsts : List ℕ) (ls : Lines) (tb ts : List ℕ) : Type 0 where
  pub spelled : Spelled book firsts ls
  pub table_rest : List ℕ
  pub table_is : tb ≡ table_of firsts ls ++ table_rest
  pub terms_rest : List ℕ
  pub terms_are : ts ≡ terms_of ls ++ terms_rest

module _ {book : Bytes} {firsts : List ℕ} {ls : Lines} {tb ts : List ℕ} (h : Holds book firsts ls tb ts) where
  module _ {v : ℕ} {l : Line} (i : IsLine ls v l) where
    its : Place book 0 (table_of firsts ls) (terms_of ls) v l
    unfolding table_of
    its = place 0 firsts h.spelled i

    row_here : drop (row_width * its.index) tb ≡ row_of its.begins its.from l ++ (its.more_rows ++ h.table_rest)
    row_here =
        let p = its in
        ap (drop (row_width * p.index)) h.table_is
        ∙ drop-append-le (row_width * p.index) (table_of firsts ls) h.table_rest (let q = p.row_in in omega arith)
        ∙ ap (λ (x : List ℕ). x ++ h.table_rest) (p.row_at ∙ ap (λ (n : ℕ). row_of p.begins n l ++ p.more_rows) (zero-add p.from))
        ∙ append_assoc (row_of p.begins p.from l) p.more_rows h.table_rest

    cell_here : (k : ℕ) → row_cell tb v k ≡ get_or (row_of its.begins its.from l ++ (its.more_rows ++ h.table_rest)) k 0
    cell_here k =
        let p = its in
        let q = p.number_is in
        let e : row_width * v + k - row_width ≡ row_width * p.index + k = omega arith in
        row_cell_is tb v k (λ z. omega arith)
        ∙ ap (λ (n : ℕ). get_or tb n 0) e
        ∙ sym (get_or-drop (row_width * p.index) tb k 0)
        ∙ ap (λ (x : List ℕ). get_or x k 0) row_here

    cells_here : drop its.from ts ≡ line_cells l ++ (its.more_cells ++ h.terms_rest)
    cells_here =
        let p = its in
        ap (drop p.from) h.terms_are
        ∙ drop-append-le p.from (terms_of ls) h.terms_rest p.cells_in
        ∙ ap (λ (x : List ℕ). x ++ h.terms_rest) p.cells_at
        ∙ append_assoc (line_cells l) p.more_cells h.terms_rest

    pub held_row : RowOf tb v l
    unfolding row_of
    held_row =
        let p = its in
        record {
          whole = (let q = p.number_is in let r = p.row_in in omega (arith, ap length h.table_is, length-append (table_of firsts ls) h.table_rest));
          indicator_is = cell_here at_indicator;
          context_is = cell_here at_context;
          kind_is = cell_here at_kind;
          paragraph_is = cell_here at_paragraph;
        }

    pub held_cells : CellsOf tb ts v l
    unfolding row_of line_cells
    held_cells =
        let p = its in
        let m = kind_cells l.kind in
        let after = cells l.category ++ (p.more_cells ++ h.terms_rest) in
        let middle : drop p.from ts ≡ m ++ after = cells_here ∙ append_assoc m (cells l.category) (p.more_cells ++ h.terms_rest) in
        let n : p.from + length (m ++ cells l.category) ≡ p.from + length m + length (cells l.category) = omega (arith, length-append m (cells l.category)) in
        record {
          after_middle = after;
          middle_at = record { is = ap (λ (k : ℕ). drop k ts) (cell_here at_middle) ∙ middle };
          middle_ends = cell_here at_category ∙ ap (λ (k : ℕ). k + length m) (sym (cell_here at_middle));
          after_category = p.more_cells ++ h.terms_rest;
          category_at =
              record {
                is =
                    ap (λ (k : ℕ). drop k ts) (cell_here at_category)
                    ∙ sym (drop-drop (length m) p.from ts)
                    ∙ ap (drop (length m)) middle
                    ∙ drop_at m after (length m) refl;
              };
          category_ends = cell_here at_end ∙ n ∙ ap (λ (k : ℕ). k + length (cells l.category)) (sym (cell_here at_category));
        }

    pub held_name : NameOf book tb v l
    unfolding row_of
    held_name =
        let p = its in
        record {
          within = (let q = p.within in omega (arith, cell_here at_name_start, cell_here at_name_length));
          bytes_are = rw (cell_here at_name_start, cell_here at_name_length) p.bytes_are;
        }

    -- the part of the book that the row points to is the identifier
    pub held_identifier : identifier_part book tb v ≡ l.identifier
    unfolding identifier_part part_of
    held_identifier =
        let n = held_name in
        rw (
          le-leb 1 v (line_positive i),
          le-leb (row_width * v) (length tb) held_row.whole,
          le-leb (row_cell tb v at_name_start + row_cell tb v at_name_length) (length book)
              n.within,
          identifier_part,
          part_of,
        )
        n.bytes_are

  pub held_rows : Rows ls tb
  held_rows = record { row = λ i. held_row i }

  pub held_stored : Stored ls tb ts
  held_stored = record { cells_of = λ i. held_cells i }

  pub held_named : Named ls book tb
  held_named = record { name_of = λ i. held_name i }
