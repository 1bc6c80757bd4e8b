-- The variables of a context in front of the cells that were there.
use mathlib.Core.Path.{◌≡◌, refl, sym, ap, ◌∙◌}
use mathlib.Core.Logic.{inr}
use mathlib.Core.Bool.{Bool, true, false}
use mathlib.Core.List.{List, [], ◌∷◌, ◌++◌}
use Prim.Native.Nat.{ℕ, zero, suc, ◌+◌, ◌-◌, ◌*◌, ◌≤◌, ◌<◌}
use native.Mathlib.Omega.{arith}
use lib.Dec.{leb}
use lib.ListN.{length, get_or, take, length-append, get_or-append}
use lib.Seq.{slice, length-slice, get_or-take, get_or-drop, get_or-append-add, ext_get_or}
use borrow.Author.Tests.{leb-true, leb-false}
use Rattle.aut68.specs.Bytes.{Bytes}
use Rattle.aut68.specs.Lines.{Lines, row_cell}
use Rattle.aut68.specs.Procedure.Resolve.{context_at}
use Rattle.aut68.specs.Sizes.{cell_factor, at_context}
use Rattle.cells.specs.Cells.{Outside}
use Rattle.cells.specs.Stores.{outside_same, outside_then, outside_more}
use Rattle.names.specs.Known.{Known}
use Rattle.meanings.proofs.NotedLaws.{at_length}
use Rattle.completion.specs.Posts.{variable_cells, line_up, ShiftedUp, VariablesPut, PutIn}
use Rattle.completion.proofs.UpLaws.{at_chain, up_within}

pub length_variables : (vs : List ℕ) → length (variable_cells vs) ≡ length vs
unfolding variable_cells
length_variables [] = refl
length_variables (v ∷ vs) = ap suc (length_variables vs)

variable_at_lem : (vs : List ℕ) (i : ℕ) → i < length vs → get_or (variable_cells vs) i 0 ≡ cell_factor * get_or vs i 0 + 1
unfolding variable_cells
variable_at_lem [] i l = absurd (omega arith)
variable_at_lem (v ∷ vs) zero l = refl
variable_at_lem (v ∷ vs) (suc i) l = variable_at_lem vs i (omega arith)

slice_at : (f t : ℕ) (w : List ℕ) (i : ℕ) → f + i < t → get_or (slice f t w) i 0 ≡ get_or w (f + i) 0
slice_at f t w i l = get_or-drop f (take t w) i 0 ∙ get_or-take t w (f + i) 0 l

-- there is no room for them
pub no_room : {tb w : List ℕ} {from end m last : ℕ} → m ≡ row_cell tb last at_context → (from ≤ end → length w < end + (m + 1)) → PutIn tb w w from end last (length w + 1)
no_room {last = last} e h =
    record {
      kept = outside_same;
      small = omega arith;
      up = λ a. a;
      put = λ ls book lines k p b l r. absurd (omega arith);
      over = λ ls book lines k p b l r. omega (arith, h l, at_length k last p b);
    }

-- they are put in
module _ {tb w w₁ w₂ : List ℕ} {from end m n last : ℕ} (e : m ≡ row_cell tb last at_context) (q : n ≡ m + 1) (l : from ≤ end) (room : end + n ≤ length w)
    (s : ShiftedUp w w₁ from end n) (v : VariablesPut tb w₁ w₂ from n last) where
  kept_all : Outside from (length w) w w₂
  kept_all = outside_then (outside_more (omega arith) room s.kept) (outside_more (omega arith) (omega arith) v.kept)

  module _ {ls : Lines} {book : Bytes} {lines : ℕ} (k : Known ls book tb lines) (p : 1 ≤ last) (b : last ≤ lines) where
    long : length (context_at ls last) ≡ n
    long = at_length k last p b ∙ omega arith

    first : (i : ℕ) → i < n → get_or w₂ (from + i) 0 ≡ cell_factor * get_or (context_at ls last) i 0 + 1
    first i a =
        let j = n - suc i in
        let q : i + suc j ≡ n = omega arith in
        let u : get_or (context_at ls last) i 0 ≡ line_up tb last j = (at_chain k last p b).up i j (omega (arith, long)) in
        (v.put i j q).line (omega (arith, up_within k last b j, k.few)) ∙ ap (λ c. cell_factor * c + 1) (sym u)

    later : (i : ℕ) → from + i < end → get_or w₂ (from + (n + i)) 0 ≡ get_or w (from + i) 0
    later i a =
        v.kept.same (from + (n + i)) (inr (omega arith))
        ∙ ap (λ j. get_or w₁ j 0) {y = from + i + n} (omega arith)
        ∙ s.moved (from + i) (omega arith) a

    cell : (i : ℕ) → from + i < end + n → (t : Bool) → leb n i ≡ t → get_or w₂ (from + i) 0 ≡ get_or (variable_cells (context_at ls last) ++ slice from end w) i 0
    cell i a true q =
        let vs = variable_cells (context_at ls last) in
        let h = leb-true n i q in
        let m : length vs ≡ n = length_variables (context_at ls last) ∙ long in
        let r : length vs + (i - n) ≡ i = omega arith in
        ap (λ j. get_or w₂ (from + j) 0) {y = n + (i - n)} (omega arith)
        ∙ later (i - n) (omega arith)
        ∙ sym (slice_at from end w (i - n) (omega arith))
        ∙ sym (get_or-append-add vs (slice from end w) (i - n) 0)
        ∙ ap (λ j. get_or (vs ++ slice from end w) j 0) r
    cell i a false q =
        let vs = variable_cells (context_at ls last) in
        let h = leb-false n i q in
        first i (omega arith)
        ∙ sym (variable_at_lem (context_at ls last) i (omega (arith, long)))
        ∙ sym (get_or-append vs (slice from end w) 0 i (omega (arith, length_variables (context_at ls last), long)))

    whole : slice from (end + n) w₂ ≡ variable_cells (context_at ls last) ++ slice from end w
    whole =
        let vs = variable_cells (context_at ls last) in
        let m = length-slice from (end + n) w₂ (omega (arith, kept_all.long)) in
        ext_get_or 0 (slice from (end + n) w₂) (vs ++ slice from end w)
        (m ∙ omega (arith, length-append vs (slice from end w), length_variables (context_at ls last), long, length-slice from end w (omega arith)))
        λ i a. slice_at from (end + n) w₂ i (omega arith) ∙ cell i (omega arith) (leb n i) refl

  pub put_in_all : PutIn tb w w₂ from end last (end + n)
  put_in_all =
      record {
        kept = kept_all;
        small = omega arith;
        up = λ a. omega arith;
        put = λ ls book lines k p b a r. whole k p b;
        over = λ ls book lines k p b a r. absurd (omega arith);
      }
