-- The lines that a line names, as its row and its cells say.
use Rattle.std.specs.Prelude.{◌≡◌, refl, List, ◌++◌, ℕ, ◌+◌, length, take, drop}
use Rattle.std.proofs.Common.{sym, subst, ap, ap₂, ◌∙◌, append_assoc, arith, length-append, drop-drop, drop_at, take_at}
use Rattle.std.proofs.Math.Seq.{slice}
use Rattle.aut68.specs.Sizes.{at_indicator, at_middle, at_end}
use Rattle.aut68.specs.Lines.{Line, Lines, line_cells, row_cell}
use Rattle.aut68.specs.Index.{mentioned_as_indicator, mentioned_by}
use Rattle.aut68.specs.Rules.Names.{IsLine}
use Rattle.cells.specs.Cells.{At}
use Rattle.cells.specs.Numbers.{numbers_in, numbers_line}
use Rattle.cells.specs.Slices.{run_is_slice}
use Rattle.cells.specs.Rows.{Rows, Stored}
use Rattle.reaching.specs.Adding.{AddsMarks, adds_append}

unfoldable pub row_names : List ℕ → List ℕ → ℕ → List ℕ
row_names tb ts v = mentioned_as_indicator (row_cell tb v at_indicator) ++ numbers_in (slice (row_cell tb v at_middle) (row_cell tb v at_end) ts)

line_slice : {ts : List ℕ} {m c e : ℕ} {xs ys after rest : List ℕ} → At ts m xs after → c ≡ m + length xs → At ts c ys rest → e ≡ c + length ys
    → slice m e ts ≡ xs ++ ys
line_slice {ts} {m} {c} {e} {xs} {ys} {after} {rest} a p b q =
    let from : after ≡ ys ++ rest = sym (drop_at xs after (length xs) refl) ∙ ap (drop (length xs)) (sym a.is) ∙ drop-drop (length xs) m ts ∙ ap (λ (n : ℕ). drop n ts) (sym p) ∙ b.is in
    let whole : drop m ts ≡ (xs ++ ys) ++ rest = a.is ∙ ap (◌++◌ xs) from ∙ sym (append_assoc xs ys rest) in
    let end : e ≡ m + length (xs ++ ys) = omega (arith, length-append xs ys) in
    ap (λ (n : ℕ). slice m n ts) end ∙ run_is_slice m (length (xs ++ ys)) ts ∙ ap (take (length (xs ++ ys))) whole ∙ take_at (xs ++ ys) rest (length (xs ++ ys)) refl

-- row and cells say what the line names
pub row_names_lem : {ls : Lines} {tb ts : List ℕ} {v : ℕ} {l : Line} → Rows ls tb → Stored ls tb ts → IsLine ls v l → row_names tb ts v ≡ mentioned_by l
unfolding row_names mentioned_by line_cells
row_names_lem {l = l} r s i =
    let k = s.cells_of i in
    ap₂ ◌++◌ (ap mentioned_as_indicator (r.row i).indicator_is)
    (ap numbers_in (line_slice k.middle_at k.middle_ends k.category_at k.category_ends) ∙ numbers_line l)

-- marks for the indicator, then for the cells
pub adds_row : (tb ts : List ℕ) (v : ℕ) {w u w' : List ℕ} {i m e : ℕ} → i ≡ row_cell tb v at_indicator → m ≡ row_cell tb v at_middle → e ≡ row_cell tb v at_end
    → AddsMarks (mentioned_as_indicator i) w u → AddsMarks (numbers_in (slice m e ts)) u w' → AddsMarks (row_names tb ts v) w w'
unfolding row_names
adds_row tb ts v {w} {u} {w'} {e = e} p q r a b =
    adds_append
    (subst (λ n. AddsMarks (mentioned_as_indicator n) w u) p a)
    (subst (λ n. AddsMarks (numbers_in (slice (row_cell tb v at_middle) n ts)) u w') r (subst (λ n. AddsMarks (numbers_in (slice n e ts)) u w') q b))
