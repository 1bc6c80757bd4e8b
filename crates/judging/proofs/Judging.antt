-- Two strings: not whole, too large, compared.
use mathlib.Core.Path.{◌≡◌, refl, sym, ap, ◌∙◌, subst}
use mathlib.Core.Logic.{◌⊎◌}
use mathlib.Core.Bool.{Bool, true, false, true≢false}
use mathlib.Core.List.{List}
use Prim.Native.Nat.{ℕ, ◌-◌, ◌≤◌, ◌<◌}
use native.Mathlib.Omega.{arith}
use lib.ListN.{length}
use Rattle.aut68.specs.Sizes.{largest_limit, nesting}
use Rattle.aut68.specs.Expr.{Expr}
use Rattle.aut68.specs.Lines.{Lines}
use Rattle.aut68.specs.Procedure.Answer.{Answer, code_in, rest_in, code_of, mismatch, too_large, out_of_budget}
use Rattle.aut68.specs.Procedure.Calls.{decline_code, not_whole, string_too_large}
use Rattle.aut68.specs.Procedure.Compare.{Comparison, compare}
use Rattle.aut68.specs.Procedure.PartsFirst.{parts_first}
use Rattle.aut68.specs.Rules.Strings.{Whole}
use Rattle.aut68.specs.Comparing.{FindsEquality}
use Rattle.aut68.specs.Desk.{comparison_of, is_not_whole, is_too_large, is_compared}
use Rattle.agreement.specs.Claims.{both_comparisons}
use Rattle.calculus.specs.Resolved.{ResolvedLines}
use Rattle.cells.specs.Cells.{copy_cells}
use Rattle.cells.specs.Layout.{unit_at, level_unit}
use Rattle.cells.specs.Results.{Result, passed, refused}
use Rattle.strings.specs.Posts.{SaysWhole}
use Rattle.judging.specs.Posts.{levels_of, ComparesOne, Named, JudgedPost}
use Rattle.judging.proofs.Placing.{placed, still_long}

-- from depth 1 on
from_first : (second : Bool) (ls : Lines) (limit : ℕ) → levels_of second ls limit nesting ≡ comparison_of second ls limit
unfolding levels_of comparison_of compare parts_first
from_first false ls limit = refl
from_first true ls limit = refl

finds : (second : Bool) (ls : Lines) → ResolvedLines ls → FindsEquality ls (comparison_of second ls)
unfolding comparison_of
finds false ls W = (both_comparisons ls W).first
finds true ls W = (both_comparisons ls W).second

-- the numbers of a result are the answer's
result_code : {code rest : ℕ} {m : Answer ℕ (Unit {0})} → Result (λ _. Unit {0}) code rest m → (code ≡ code_in m) × (rest ≡ rest_in m)
unfolding code_in rest_in
result_code (passed e h) = (e, refl)
result_code (refused e) = (e, refl)

module _ {second : Bool} {tb ts w : List ℕ} {limit lines : ℕ} {left right : List ℕ} {budget : ℕ} {is_left : Bool}
    (saysLeft : SaysWhole tb lines left is_left) where
  pub left_not_whole : is_left ≡ false → JudgedPost second tb ts w limit lines left right budget (decline_code not_whole) 0 0 0
  left_not_whole f =
      record {
        no_line = refl;
        nothing_written = refl;
        means = λ ls B e long. is_not_whole (λ u. true≢false (sym ((saysLeft.means ls B.rows e).1 u.0) ∙ f)) refl refl;
      }

  module _ {is_right : Bool} (saysRight : SaysWhole tb lines right is_right) where
    pub right_not_whole : is_right ≡ false → JudgedPost second tb ts w limit lines left right budget (decline_code not_whole) 0 0 0
    right_not_whole f =
        record {
          no_line = refl;
          nothing_written = refl;
          means = λ ls B e long. is_not_whole (λ u. true≢false (sym ((saysRight.means ls B.rows e).1 u.1) ∙ f)) refl refl;
        }

    module _ (wholeLeft : is_left ≡ true) (wholeRight : is_right ≡ true) where
      pub judged_large : (limit < length left) ⊎ (limit < length right) → JudgedPost second tb ts w limit lines left right budget (decline_code string_too_large) 0 0 0
      judged_large h =
          record {
            no_line = refl;
            nothing_written = refl;
            means = λ ls B e long. is_too_large ((saysLeft.means ls B.rows e).0 wholeLeft) ((saysRight.means ls B.rows e).0 wholeRight) h refl refl;
          }

      module _ (w₀ : List ℕ) {a b : ℕ} {w₁ w₂ w₃ : List ℕ} {code rest : ℕ} (same : length w₀ ≡ length w) (h : length left ≤ limit) (k : length right ≤ limit)
          (first : limit ≤ largest_limit → a ≡ unit_at limit (level_unit 0)) (next : limit ≤ largest_limit → b ≡ unit_at limit (level_unit 1))
          (c : w₁ ≡ copy_cells left 0 (length left) w₀ a) (d : w₂ ≡ copy_cells right 0 (length right) w₁ b) (C : ComparesOne second tb ts w₂ limit budget a b w₃ code rest) where
        pub judged_compared : {answered line steps count : ℕ} → Named code answered → line ≡ 0 → steps ≡ budget - rest → count ≡ 0
            → JudgedPost second tb ts w limit lines left right budget answered line steps count
        unfolding Whole
        judged_compared n z g y =
            record {
              no_line = z;
              nothing_written = y;
              means = λ ls B e long.
                  let (l, u) = (saysLeft.means ls B.rows e).0 wholeLeft in
                  let (r, v) = (saysRight.means ls B.rows e).0 wholeRight in
                  let R = C.compares.means ls 0 l r B (omega arith) (omega arith) (still_long left right w₀ B.limit (omega arith) first next c d h k) (placed left right w₀ B.limit (omega arith) first next c d h k ls u v) in
                  let (p, q) = result_code (subst (λ (f : Comparison). Result (λ _. Unit {0}) code rest (f l r budget)) (from_first second ls limit) R) in
                  is_compared l r u v h k (n (named second ls B.resolved l r p) ∙ p) (g ∙ ap (λ (x : ℕ). budget - x) q);
            }
          where
            named : (second : Bool) (ls : Lines) → ResolvedLines ls → (l r : Expr) → code ≡ code_in (comparison_of second ls limit l r budget)
                → (code ≡ 0) ⊎ ((code ≡ code_of mismatch) ⊎ ((code ≡ code_of too_large) ⊎ (code ≡ code_of out_of_budget)))
            named second ls W l r p = subst (λ x. (x ≡ 0) ⊎ ((x ≡ code_of mismatch) ⊎ ((x ≡ code_of too_large) ⊎ (x ≡ code_of out_of_budget)))) (sym p) ((finds second ls W).codes limit budget l r)
