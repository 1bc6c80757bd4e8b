-- What instantiation leaves of a leaf, and what it makes of a whole expression.
use Prim.Native.Nat.{ℕ, ◌+◌, ◌≤◌, ◌<◌, ◌%◌, ◌/◌}
use mathlib.Core.Path.{◌≡◌, sym, ap, ◌∙◌}
use mathlib.Core.List.{List, [], ◌∷◌, ◌++◌, append_assoc}
use native.Mathlib.Omega.{arith}
use lib.ListN.{length, take, drop, take-append-drop}
use lib.Seq.{drop-append-le}
use Rattle.aut68.specs.Lines.{row_cell}
use Rattle.aut68.specs.Sizes.{cell_factor, cell_values, at_context}
use Rattle.aut68.specs.Expr.{Expr, Exprs, first_cell, cells, cellss}
use Rattle.aut68.specs.Substitution.{instantiate}
use Rattle.cells.specs.Cells.{At}
use Rattle.cells.specs.Forests.{count_long, at_length}
use Rattle.terms.specs.Made.{start_of, ArgumentsLie, InstantiatePost}
use Rattle.terms.specs.Starts.{split, argument_formed, argument_lies}
use Rattle.terms.specs.Kinds.{of_leaf}
use Rattle.terms.specs.Grafts.{Choice, instantiating, graft, Fit, Instantiates, instantiates_all, Put, StartPost, WholePost}
use Rattle.terms.proofs.VariableLaws.{no_argument_cells, argument_put}

-- ---- the arguments, below `end` and in the whole store

-- what lies below `end` lies in the whole store
at_whole : (end : ℕ) {w xs rest : List ℕ} {i : ℕ} → i ≤ length (take end w) → At (take end w) i xs rest → At w i xs (rest ++ drop end w)
at_whole end {w} {xs} {rest} {i} l a = record {
  is = ap (drop i) (sym (take-append-drop end w)) ∙ drop-append-le i (take end w) (drop end w) l ∙ ap (λ (m : List ℕ). m ++ drop end w) a.is
      ∙ append_assoc xs rest (drop end w);
}

-- the arguments that lie below `end`, of which there are some, lie in the whole store
arguments_whole : (end : ℕ) {tb w : List ℕ} {base count : ℕ} {starts : List ℕ} {xs : Exprs} → 0 < count → ArgumentsLie tb (take end w) base count starts xs
    → ArgumentsLie tb w base count starts xs
arguments_whole end {xs = xs} pos A = record {
  formed = A.formed;
  counted = A.counted;
  started = A.started;
  rest = _;
  lies = at_whole end (omega (arith, at_length A.lies, count_long xs, A.counted)) A.lies;
}

-- ---- the leaf x, with arguments put in

module _ {tb : List ℕ} {base count : ℕ} {starts : List ℕ} (cut x : ℕ) where
  -- for variables alone
  pub variable_other : {low : List ℕ} {k : Choice} → x % cell_factor < 3 → (x % cell_factor ≡ 1 → ⊥) → Instantiates tb base count starts low k → (e : Expr) → first_cell e ≡ x
      → cells (graft k cut e) ≡ x ∷ []
  unfolding graft instantiate cells first_cell
  variable_other l ne (instantiates_all {vs} {xs} _) e xe =
      of_leaf (λ e. first_cell e ≡ x → cells (instantiate vs xs cut e) ≡ x ∷ []) (λ q. ap (λ (c : ℕ). c ∷ []) q) (λ v q. absurd (ne (omega arith)))
      (λ i q. ap (λ (c : ℕ). c ∷ []) q) e (rw xe l) xe

  pub variable_itself : {low : List ℕ} {k : Choice} → x % cell_factor ≡ 1 → count ≤ row_cell tb (x / cell_factor) at_context → Instantiates tb base count starts low k
      → (e : Expr) → first_cell e ≡ x → Fit tb k e → cells (graft k cut e) ≡ x ∷ []
  unfolding graft
  variable_itself is1 l (instantiates_all {vs} {xs} A) e xe f = no_argument_cells tb cut x vs xs is1 (rw A.counted l) e xe f

  -- the argument with the number of the context length on the variable's row, moved under the bindings between
  pub variable_argument : (end : ℕ) {w : List ℕ} {number from : ℕ} {k : Choice} → x % cell_factor ≡ 1 → number ≡ row_cell tb (x / cell_factor) at_context → number < count
      → StartPost tb w base count starts number from → Instantiates tb base count starts (take end w) k → (e : Expr) → first_cell e ≡ x → Fit tb k e
      → Put tb (take end w) from cut (graft k cut e)
  unfolding graft
  variable_argument end {w} {number} {from} is1 n l S (instantiates_all {vs} {xs} A) e xe f =
      let r = split xs number (rw A.counted l) in
      let q : from ≡ base + start_of xs number = S.is xs (arguments_whole end (omega arith) A) l in
      record {
        whole = r.argument;
        rest = cellss r.back ++ A.rest;
        formed = argument_formed r tb A.formed;
        lies = rw q (argument_lies r A.lies);
        is = argument_put tb cut x vs xs is1 (sym n) r e xe f;
      }

-- ---- a whole expression

pub instantiate_post : {tb s w w' : List ℕ} {e base count : ℕ} {starts : List ℕ} {to room r : ℕ}
    → WholePost cell_values (Instantiates tb base count starts) tb s w w' e to room r → InstantiatePost tb s w w' e base count starts to room r
unfolding graft
instantiate_post W = record {
  confined = W.confined;
  made = λ vs xs x rx h fx A ax b. W.made (instantiating vs xs) (instantiates_all A) x rx h fx ax b;
}
