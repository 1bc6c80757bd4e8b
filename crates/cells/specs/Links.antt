-- Rows while a book is checked: lines whose identifiers share a slot of name lookup are linked. Above the length of its identifier, a row
-- then has the number of the next line. At the end the table is unlinked.
use Rattle.std.specs.Prelude.{◌≡◌, refl, ◌⊎◌, ◌≢◌, List, [], ◌∷◌, ℕ, zero, suc, ◌+◌, ◌-◌, ◌*◌, ◌/◌, ◌%◌, ◌≤◌, ◌<◌, length, get_or, set}
use Rattle.std.proofs.Common.{sym, ap, ◌∙◌, subst, inl, inr, ⊎_elim, arith, length-set, get_or-set_same, get_or-set_other, set-set}
use Rattle.std.proofs.Math.Decide.{dec_lt, ℕ_discrete}
use Rattle.std.proofs.Math.ListN.{get_or-eq_default}
use Rattle.std.proofs.lemmas.List.Edits.{sets}
use Rattle.std.proofs.lemmas.List.{set-get_or, set_comm}
use Rattle.aut68.specs.Sizes.{row_width, at_name_length, at_indicator, at_context, at_kind, at_middle, at_category, at_end, at_paragraph}
use Rattle.aut68.specs.Expr.{cells}
use Rattle.aut68.specs.Lines.{Lines, kind_cells, row_cell}
use Rattle.cells.specs.Cells.{At}
use Rattle.cells.specs.Rows.{Rows, Stored}
use Rattle.cells.specs.RowLaws.{row_cell_of_none, row_cell_is, row_cell_behind}

-- a line's number stands so far above the length of an identifier
abbrev pub link_factor : ℕ
link_factor = 65536

-- the line that the row of line v links to; 0: none
unfoldable pub link_of : List ℕ → ℕ → ℕ
link_of tb v = row_cell tb v at_name_length / link_factor

-- where the row behind the first n rows has its link; the table with a link to line h there, and without one
abbrev pub link_at : ℕ → ℕ
link_at n = row_width * n + at_name_length

unfoldable pub link_row : List ℕ → ℕ → ℕ → List ℕ
link_row tb n h = set tb (link_at n) (get_or tb (link_at n) 0 + link_factor * h)

unfoldable pub unlink_row : List ℕ → ℕ → List ℕ
unlink_row tb n = set tb (link_at n) (get_or tb (link_at n) 0 % link_factor)

-- the table without the links of its first n rows
unfoldable pub unlinked : ℕ → List ℕ → List ℕ
unlinked zero tb = tb
unlinked (suc n) tb = unlink_row (unlinked n tb) n

-- ---- its cells

pub unlinked_long : (n : ℕ) (tb : List ℕ) → length (unlinked n tb) ≡ length tb
unfolding unlinked unlink_row
unlinked_long zero tb = refl
unlinked_long (suc n) tb = length-set (unlinked n tb) _ _ ∙ unlinked_long n tb

-- a cell that has no link
pub unlinked_other : (n : ℕ) (tb : List ℕ) (i : ℕ) → (i % row_width ≢ at_name_length) ⊎ (row_width * n ≤ i) → get_or (unlinked n tb) i 0 ≡ get_or tb i 0
unfolding unlinked unlink_row
unlinked_other zero tb i h = refl
unlinked_other (suc n) tb i h =
    get_or-set_other (unlinked n tb) (link_at n) i _ 0 (λ e. ⊎_elim (λ k. k (omega arith)) (λ k. absurd (omega arith)) h)
    ∙ unlinked_other n tb i (⊎_elim (λ k. inl k) (λ k. inr (omega arith)) h)

-- a cell of the table, set to itself without its link, wherever it lies
cell_unlinked : (tb : List ℕ) (i : ℕ) → get_or (set tb i (get_or tb i 0 % link_factor)) i 0 ≡ get_or tb i 0 % link_factor
cell_unlinked tb i = at (dec_lt i (length tb))
  where
    at : Dec (i < length tb) → get_or (set tb i (get_or tb i 0 % link_factor)) i 0 ≡ get_or tb i 0 % link_factor
    at (yes h) = get_or-set_same tb i _ 0 h
    at (no h) =
        let past : length (set tb i (get_or tb i 0 % link_factor)) ≤ i = omega (arith, length-set tb i (get_or tb i 0 % link_factor)) in
        let z : get_or tb i 0 ≡ 0 = get_or-eq_default tb 0 (omega arith) in
        get_or-eq_default (set tb i (get_or tb i 0 % link_factor)) 0 past ∙ sym (ap (λ (x : ℕ). x % link_factor) z)

-- a cell that may have one
pub unlinked_length : (n : ℕ) (tb : List ℕ) (v : ℕ) → v < n → get_or (unlinked n tb) (link_at v) 0 ≡ get_or tb (link_at v) 0 % link_factor
unfolding unlinked unlink_row
unlinked_length zero tb v h = absurd (omega arith)
unlinked_length (suc n) tb v h = at (ℕ_discrete v n) (unlinked_length n tb v)
  where
    at : Dec (v ≡ n) → (v < n → get_or (unlinked n tb) (link_at v) 0 ≡ get_or tb (link_at v) 0 % link_factor)
        → get_or (unlinked (suc n) tb) (link_at v) 0 ≡ get_or tb (link_at v) 0 % link_factor
    at (yes e) ih =
        ap (λ (k : ℕ). get_or (unlinked (suc n) tb) (link_at k) 0) e
        ∙ cell_unlinked (unlinked n tb) (link_at n)
        ∙ ap (λ (x : ℕ). x % link_factor) (unlinked_other n tb (link_at n) (inr (omega arith)))
        ∙ ap (λ (k : ℕ). get_or tb (link_at k) 0 % link_factor) (sym e)
    at (no e) ih =
        get_or-set_other (unlinked n tb) (link_at n) (link_at v) _ 0 (λ q. e (omega arith))
        ∙ ih (omega arith)

-- ---- one row more

-- what is written behind the first n rows stays
unlinked_set : (n : ℕ) (tb : List ℕ) (i x : ℕ) → row_width * n ≤ i → unlinked n (set tb i x) ≡ set (unlinked n tb) i x
unfolding unlinked unlink_row
unlinked_set zero tb i x h = refl
unlinked_set (suc n) tb i x h =
    ap (λ (t : List ℕ). unlink_row t n) (unlinked_set n tb i x (omega arith))
    ∙ ap (λ (c : ℕ). set (set (unlinked n tb) i x) (link_at n) (c % link_factor)) (get_or-set_other (unlinked n tb) i (link_at n) x 0 (λ e. omega arith))
    ∙ set_comm (unlinked n tb) i (link_at n) x _ (λ e. omega arith)

pub unlinked_sets : (n : ℕ) (vs tb : List ℕ) (i : ℕ) → row_width * n ≤ i → unlinked n (sets tb i vs) ≡ sets (unlinked n tb) i vs
unlinked_sets n [] tb i h = refl
unlinked_sets n (x ∷ vs) tb i h =
    unlinked_sets n vs (set tb i x) (suc i) (omega arith) ∙ ap (λ (t : List ℕ). sets t (suc i) vs) (unlinked_set n tb i x h)

-- a row is linked: without the links nothing has changed
link_gone : (n : ℕ) (tb : List ℕ) (h : ℕ) → get_or tb (link_at n) 0 < link_factor → (get_or tb (link_at n) 0 + link_factor * h) % link_factor ≡ get_or (unlinked n tb) (link_at n) 0
link_gone n tb h small = omega (arith, unlinked_other n tb (link_at n) (inr (omega arith)))

pub unlinked_more : (n : ℕ) (tb : List ℕ) (h : ℕ) → row_width * suc n ≤ length tb → get_or tb (link_at n) 0 < link_factor
    → unlinked (suc n) (link_row tb n h) ≡ unlinked n tb
unfolding unlinked unlink_row link_row
unlinked_more n tb h room small =
    let y : ℕ = get_or tb (link_at n) 0 + link_factor * h in
    ap (λ (t : List ℕ). unlink_row t n) (unlinked_set n tb (link_at n) y (omega arith))
    ∙ ap (λ (c : ℕ). set (set (unlinked n tb) (link_at n) y) (link_at n) (c % link_factor)) (get_or-set_same (unlinked n tb) (link_at n) y 0 (omega (arith, unlinked_long n tb)))
    ∙ set-set (unlinked n tb) (link_at n) y (y % link_factor)
    ∙ ap (set (unlinked n tb) (link_at n)) (link_gone n tb h small)
    ∙ set-get_or (unlinked n tb) (link_at n) 0

-- ---- rows

pub row_unlinked : (n : ℕ) (tb : List ℕ) (v k : ℕ) → k < row_width → k ≢ at_name_length → row_cell (unlinked n tb) v k ≡ row_cell tb v k
row_unlinked n tb zero k l ne = row_cell_of_none (unlinked n tb) zero k refl ∙ sym (row_cell_of_none tb zero k refl)
row_unlinked n tb (suc v) k l ne =
    row_cell_is (unlinked n tb) (suc v) k (λ z. omega arith)
    ∙ unlinked_other n tb (row_width * suc v + k - row_width) (inl (λ e. ne (omega arith)))
    ∙ sym (row_cell_is tb (suc v) k (λ z. omega arith))

pub length_unlinked : (n : ℕ) (tb : List ℕ) (v : ℕ) → 1 ≤ v → v ≤ n → row_cell (unlinked n tb) v at_name_length ≡ row_cell tb v at_name_length % link_factor
length_unlinked n tb zero a b = absurd (omega arith)
length_unlinked n tb (suc v) a b =
    row_cell_behind (unlinked n tb) v at_name_length
    ∙ unlinked_length n tb v (omega arith)
    ∙ sym (ap (λ (x : ℕ). x % link_factor) (row_cell_behind tb v at_name_length))

-- what rows and term store say of the lines hangs on no link
module _ (n : ℕ) (tb : List ℕ) where
  other : (v k : ℕ) → k < row_width → k ≢ at_name_length → row_cell tb v k ≡ row_cell (unlinked n tb) v k
  other v k l ne = sym (row_unlinked n tb v k l ne)

  pub rows_linked : {ls : Lines} → Rows ls (unlinked n tb) → Rows ls tb
  rows_linked R =
      record {
        row = λ {v} {l} i.
            let r = R.row i in
            record {
              whole = (let w = r.whole in omega (arith, unlinked_long n tb));
              indicator_is = other v at_indicator (omega arith) (λ e. omega arith) ∙ r.indicator_is;
              context_is = other v at_context (omega arith) (λ e. omega arith) ∙ r.context_is;
              kind_is = other v at_kind (omega arith) (λ e. omega arith) ∙ r.kind_is;
              paragraph_is = other v at_paragraph (omega arith) (λ e. omega arith) ∙ r.paragraph_is;
            };
      }

  pub stored_linked : {ls : Lines} {ts : List ℕ} → Stored ls (unlinked n tb) ts → Stored ls tb ts
  stored_linked {ls} {ts} S =
      record {
        cells_of = λ {v} {l} i.
            let c = S.cells_of i in
            let m = other v at_middle (omega arith) (λ e. omega arith) in
            let g = other v at_category (omega arith) (λ e. omega arith) in
            record {
              after_middle = c.after_middle;
              middle_at = subst (λ (x : ℕ). At ts x (kind_cells l.kind) c.after_middle) (sym m) c.middle_at;
              middle_ends = g ∙ c.middle_ends ∙ ap (λ (x : ℕ). x + length (kind_cells l.kind)) (sym m);
              after_category = c.after_category;
              category_at = subst (λ (x : ℕ). At ts x (cells l.category) c.after_category) (sym g) c.category_at;
              category_ends = other v at_end (omega arith) (λ e. omega arith) ∙ c.category_ends ∙ ap (λ (x : ℕ). x + length (cells l.category)) (sym g);
            };
      }
