-- Larger limits in the first comparison: what it gives or refuses by a verdict it does with any larger budget and limit, in both
-- languages.
use Rattle.std.specs.Prelude.{◌≡◌, refl, Bool, true, false, leb, eqb}
use Rattle.std.proofs.Math.Path.{ap}
use Rattle.std.proofs.Common.{◌∙◌, arith, leb-true, leb-false}
use Prim.Native.Nat.{ℕ, zero, suc, ◌+◌, ◌≤◌}
use Rattle.aut68.specs.Language.{Language}
use Rattle.aut68.specs.Sizes.{nesting}
use Rattle.aut68.specs.Expr.{Expr, Exprs, nil, cons, size, first_cell, parts}
use Rattle.aut68.specs.Lines.{Lines}
use Rattle.aut68.specs.Procedure.Answer.{done}
use Rattle.aut68.specs.Procedure.Compare.{Next, same, by_parts, step_left, step_right, next, Comparison, each, has_surplus, compare_parts, sides, compare_at, compare}
use Rattle.lookup.specs.Answers.{large_undecided, spent_undecided, Kept, Grows, grows_give, grows_refuse, grows_then}
use Rattle.agreement.specs.Which.{Which, the_left, the_right, pick, step_in}
use Rattle.agreement.specs.Sides.{sides_same, sides_parts, sides_step, sides_large}

grows_each : (deeper deeper' : Comparison) → ((l r : Expr) → Grows (deeper l r) (deeper' l r)) → (ls rs : Exprs) → Grows (each deeper ls rs) (each deeper' ls rs)
unfolding each
grows_each deeper deeper' h nil nil = grows_give
grows_each deeper deeper' h nil (cons r rs) = grows_refuse
grows_each deeper deeper' h (cons l ls) nil = grows_refuse
grows_each deeper deeper' h (cons l ls) (cons r rs) = grows_then (h l r) (λ _. grows_each deeper deeper' h ls rs)

pub grows_parts : (language : Language) (deeper deeper' : Comparison) → ((l r : Expr) → Grows (deeper l r) (deeper' l r)) → (l r : Expr)
    → Grows (compare_parts language deeper l r) (compare_parts language deeper' l r)
unfolding compare_parts
grows_parts language deeper deeper' h l r = sure (has_surplus language l r) refl
  where
    at : has_surplus language l r ≡ false → (t : Bool) → eqb (first_cell l) (first_cell r) ≡ t → Grows (compare_parts language deeper l r) (compare_parts language deeper' l r)
    at q true e = rw (q, e, compare_parts) (grows_each deeper deeper' h (parts l) (parts r))
    at q false e = rw (q, e, compare_parts) grows_refuse

    sure : (t : Bool) → has_surplus language l r ≡ t → Grows (compare_parts language deeper l r) (compare_parts language deeper' l r)
    sure true e = rw (e, compare_parts) grows_give
    sure false e = at e (eqb (first_cell l) (first_cell r)) refl

module _ (language : Language) (ls : Lines) {L L' : ℕ} (hL : L ≤ L') where
  module _ (deeper deeper' : Comparison) (h : (l r : Expr) → Grows (deeper l r) (deeper' l r)) where
    sides_none : (c d : ℕ) → c ≡ 0 + d → (l r : Expr) (n : Next) → next ls l r ≡ n → Kept d (sides language ls L deeper l r zero) (sides language ls L' deeper' l r c)
    unfolding sides
    sides_none c d e l r same q = rw (q, sides) (sides_same language ls L' deeper' l r c q ∙ ap (done tt) e)
    sides_none c d e l r by_parts q = rw (q, sides_parts language ls L' deeper' l r c q, sides) ((grows_parts language deeper deeper' h l r).kept 0 c d e)
    sides_none c d e l r (step_left l') q = rw (q, sides) (λ v. absurd (spent_undecided v))
    sides_none c d e l r (step_right r') q = rw (q, sides) (λ v. absurd (spent_undecided v))

    -- a step in one of the sides
    sides_stepped : (b c d : ℕ) (l r : Expr) (s : Which) (g : Expr) → next ls l r ≡ step_in s g
        → ((l r : Expr) → Kept d (sides language ls L deeper l r b) (sides language ls L' deeper' l r c))
        → Kept d (sides language ls L deeper l r (suc b)) (sides language ls L' deeper' l r (suc c))
    sides_stepped b c d l r s g q k = at (leb (size g) L) refl
      where
        at : (t : Bool) → leb (size g) L ≡ t → Kept d (sides language ls L deeper l r (suc b)) (sides language ls L' deeper' l r (suc c))
        at true t =
            let h : size g ≤ L = leb-true _ _ t in
            rw (sides_step language ls L deeper l r s g q (suc b) b (omega arith) h, sides_step language ls L' deeper' l r s g q (suc c) c (omega arith) (omega arith))
            (k (pick s g l) (pick s r g))
        at false t = rw (sides_large language ls L deeper l r s g q (suc b) (omega arith) (leb-false _ _ t)) (λ v. absurd (large_undecided v))

    sides_some : (b c d : ℕ) → suc c ≡ suc b + d → (l r : Expr) (n : Next) → next ls l r ≡ n
        → ((l r : Expr) → Kept d (sides language ls L deeper l r b) (sides language ls L' deeper' l r c))
        → Kept d (sides language ls L deeper l r (suc b)) (sides language ls L' deeper' l r (suc c))
    unfolding sides
    sides_some b c d e l r same q k = rw (q, sides) (ap (done tt) e)
    sides_some b c d e l r by_parts q k = rw (q, sides) ((grows_parts language deeper deeper' h l r).kept (suc b) (suc c) d e)
    sides_some b c d e l r (step_left l') q k = sides_stepped b c d l r the_left l' q k
    sides_some b c d e l r (step_right r') q k = sides_stepped b c d l r the_right r' q k

    sides_kept : (b c d : ℕ) → c ≡ b + d → (l r : Expr) → Kept d (sides language ls L deeper l r b) (sides language ls L' deeper' l r c)
    sides_kept zero c d e l r = sides_none c d e l r (next ls l r) refl
    sides_kept (suc b) zero d e l r = absurd (omega arith)
    sides_kept (suc b) (suc c) d e l r = sides_some b c d e l r (next ls l r) refl (sides_kept b c d (omega arith))

  grows_compare_at : (d : ℕ) (l r : Expr) → Grows (compare_at language ls L d l r) (compare_at language ls L' d l r)
  unfolding compare_at
  grows_compare_at zero l r = grows_refuse
  grows_compare_at (suc d) l r = record { kept = λ b c x e. sides_kept (compare_at language ls L d) (compare_at language ls L' d) (grows_compare_at d) b c x e l r }

  pub grows_compare : (l r : Expr) → Grows (compare language ls L l r) (compare language ls L' l r)
  unfolding compare
  grows_compare l r = grows_compare_at nesting l r
