-- Laws: a pair of the first comparison at one depth.
use mathlib.Core.Path.{◌≡◌, refl, sym, ap, subst}
use mathlib.Core.List.{List}
use Rattle.std.specs.Prelude.{Ok}
use Rattle.std.specs.Prelude as Code
use Prim.Native.Nat.{ℕ, zero, suc, ◌+◌, ◌*◌, ◌-◌, ◌≤◌}
use native.Mathlib.Omega.{arith}
use lib.ListN.{length, take}
use Rattle.aut68.specs.Sizes.{work_units, nesting}
use Rattle.aut68.specs.Language.{aut68}
use Rattle.aut68.specs.Expr.{Expr}
use Rattle.aut68.specs.Lines.{Lines}
use Rattle.aut68.specs.Procedure.Answer.{code_of, too_large}
use Rattle.aut68.specs.Procedure.Compare.{sides, compare_at}
use Rattle.cells.specs.Cells.{Outside}
use Rattle.cells.specs.Layout.{unit_at, side_unit}
use Rattle.cells.specs.Results.{Result, passed, refused}
use Rattle.cells.specs.Stores.{outside_then, outside_more}
use Rattle.heads.specs.Book.{Book}
use Rattle.constants.specs.declared.codes.Reason.{Reason}
use Rattle.constants.specs.Refusals.{code_in}
use Rattle.sides.specs.declared.sides.Settled.{Settled}
use Rattle.sides.specs.declared.sides.Settled.TheVariants.{Normal}
use Rattle.sides.specs.Posts.{Pair, Goes, Settles}
use Rattle.sides.specs.Posts
use Rattle.comparison.specs.Posts.{Compares, ComparesParts}
use Rattle.comparison.proofs.Depths.{result_is, Opened, placed, pair_frame, deeper_unit, pair_below}

pub compare_at_none : (ls : Lines) (L : ℕ) (e f : Expr) (b : ℕ) → Result (λ _. Unit {0}) (code_of too_large) b (compare_at aut68 ls L 0 e f b)
unfolding compare_at
compare_at_none ls L e f b = refused {r = too_large} refl

compare_at_more : (ls : Lines) (L deeper : ℕ) → (deeper ≡ 0 → ⊥) → (e f : Expr) (b : ℕ)
    → compare_at aut68 ls L deeper e f b ≡ sides aut68 ls L (compare_at aut68 ls L (deeper - 1)) e f b
unfolding compare_at
compare_at_more ls L zero n e f b = absurd (n refl)
compare_at_more ls L (suc d) n e f b = let q : d ≡ suc d - 1 = omega arith in ap (λ (x : ℕ). sides aut68 ls L (compare_at aut68 ls L x) e f b) q

module _ {limit deeper l r : ℕ} (O : Opened limit deeper l r) {tb ts w w₁ : List ℕ} {budget a b rest : ℕ} where
  module _ {end : Code.Result Settled Reason} (S : Settles tb ts w limit budget a b l r w₁ end rest) where
    goes : (ls : Lines) (k : ℕ) (e f : Expr) → Book ls limit tb ts → k + deeper ≤ 2 * nesting → work_units * limit ≤ length w
        → Pair ls limit k (take (unit_at limit (side_unit deeper)) w) a b e f → Goes ls limit k w₁ l r e f budget end rest
    goes ls k e f B d h P =
        S.means ls k e f B (omega arith) (placed O (length w) h) (subst (λ (n : ℕ). Pair ls limit k (take n w) a b e f) (sym O.left) P)

    frame₁ : Outside (unit_at limit (side_unit deeper)) (length w) w w₁
    frame₁ = pair_frame O S.frame

    -- identical, or a refusal
    pub compare_ended : (end ≡ Ok Normal → ⊥) → Compares tb ts w limit budget a b deeper w₁ (code_in end) rest
    compare_ended n = record {
      frame = λ _ _. frame₁;
      means = λ ls k e f B d d' h P.
          result_is (compare_at_more ls limit deeper O.some e f budget) (go ls k e f (goes ls k e f B d h P));
    }
      where
        go : (ls : Lines) (k : ℕ) (e f : Expr) → Goes ls limit k w₁ l r e f budget end rest
            → Result (λ _. Unit {0}) (code_in end) rest (sides aut68 ls limit (compare_at aut68 ls limit (deeper - 1)) e f budget)
        go ls k e f (Posts.Goes.identically z p) = result_is (p (compare_at aut68 ls limit (deeper - 1))) (passed (ap code_in z) tt)
        go ls k e f (Posts.Goes.to_parts g h z P p) = absurd (n z)
        go ls k e f (Posts.Goes.too_far z p) = result_is (p (compare_at aut68 ls limit (deeper - 1))) (refused (ap code_in z))
        go ls k e f (Posts.Goes.spent z p) = result_is (p (compare_at aut68 ls limit (deeper - 1))) (refused (ap code_in z))

  -- the parts, one level deeper
  module _ (S : Settles tb ts w limit budget a b l r w₁ (Ok Normal) rest) {w₂ : List ℕ} {code rest₂ : ℕ}
      (C : ComparesParts tb ts w₁ limit rest l r (deeper - 1) w₂ code rest₂) where
    frame₂ : Outside (unit_at limit (side_unit deeper)) (length w) w w₂
    frame₂ =
        outside_then (frame₁ S)
        (outside_more (omega (arith, O.left, O.right, deeper_unit O)) (omega (arith, (frame₁ S).long)) (C.frame O.small (omega (arith, O.few))))

    pub compare_parted : Compares tb ts w limit budget a b deeper w₂ code rest₂
    compare_parted = record {
      frame = λ _ _. frame₂;
      means = λ ls k e f B d d' h P.
          result_is (compare_at_more ls limit deeper O.some e f budget) (go ls k e f B d h (goes S ls k e f B d h P));
    }
      where
        go : (ls : Lines) (k : ℕ) (e f : Expr) → Book ls limit tb ts → k + deeper ≤ 2 * nesting → work_units * limit ≤ length w
            → Goes ls limit k w₁ l r e f budget (Ok Normal) rest
            → Result (λ _. Unit {0}) code rest₂ (sides aut68 ls limit (compare_at aut68 ls limit (deeper - 1)) e f budget)
        go ls k e f B d h (Posts.Goes.identically z p) = absurd (cc)
        go ls k e f B d h (Posts.Goes.to_parts g i z P p) =
            result_is (p (compare_at aut68 ls limit (deeper - 1)))
            (C.means ls k g i B (omega (arith, O.some)) (omega (arith, O.few)) (omega (arith, (frame₁ S).long)) (pair_below O P))
        go ls k e f B d h (Posts.Goes.too_far z p) = absurd (cc)
        go ls k e f B d h (Posts.Goes.spent z p) = absurd (cc)
