-- Laws: a pair opened. Identical expressions stay where they are; others are put in place as the sides.
use mathlib.Core.Path.{◌≡◌, sym, ◌∙◌}
use mathlib.Core.Bool.{Bool, true, false}
use mathlib.Core.Logic.{inl, inr}
use mathlib.Core.List.{List}
use Prim.Native.Nat.{ℕ, ◌+◌, ◌≤◌}
use native.Mathlib.Omega.{arith}
use lib.ListN.{length, take, drop}
use Rattle.aut68.specs.Expr.{Expr, size, cells, identical}
use Rattle.aut68.specs.Lines.{Lines}
use Rattle.cells.specs.Cells.{At, Outside, move_cells}
use Rattle.cells.specs.Forests.{size_is_length}
use Rattle.cells.specs.Posts.{Extent}
use Rattle.cells.specs.Stores.{outside_same, outside_then, outside_more, at_kept}
use Rattle.cells.specs.CopyLaws.{move_outside, move_at}
use Rattle.cells.specs.Layout.{unit_inside, scratch_unit}
use Rattle.heads.specs.Book.{Book, category_wf}
use Rattle.reduction.specs.Frames.{frame_of}
use Rattle.sides.specs.Posts.{Pair, Placed, SaysSame, Opens}
use Rattle.sides.proofs.Places.{at_whole, at_under}

pub open_same : {tb w : List ℕ} {a b l r : ℕ} {answer : Bool} → SaysSame tb w a b answer → answer ≡ true → Opens tb w a b l r w true 0 0
open_same same q = record {
  frame = λ _. outside_same;
  identically = λ _ e f re rf we wf p s. sym (same.means e f re rf we wf p s) ∙ q;
  opened = λ z. let x : ◌≡◌ {A = ℕ} 0 1 = cc in absurd (omega arith);
}

-- what that says of a pair in the first i cells
pub opened_identical : {tb ts w w' : List ℕ} {limit a b l r n m : ℕ} {answer : Bool} (i : ℕ) → Opens tb w a b l r w' answer n m → answer ≡ true
    → (ls : Lines) (k : ℕ) (e f : Expr) → Book ls limit tb ts → Pair ls limit k (take i w) a b e f → identical e f ≡ true
opened_identical {w = w} i X q ls k e f B P =
    X.identically q e f _ _ (category_wf B.rows k e P.left.known) (category_wf B.rows k f P.right.known)
    (at_whole w i e P.left.at) (at_whole w i f P.right.at)

-- an expression of n cells, moved up behind its end
moved : (w : List ℕ) (from n to : ℕ) (e : Expr) {rest : List ℕ} → n ≡ size e → At w from (cells e) rest → from + n ≤ to → to + n ≤ length w
    → At (move_cells w from n to) to (cells e) (drop (to + n) w)
moved w from n to e q a h k = let s : n ≡ length (cells e) = q ∙ size_is_length e in rw s (move_at w from to a (omega arith) (omega arith) (inr (omega arith)))

module _ (tb w : List ℕ) (a b l r n m : ℕ) (first : Extent tb w a n) (second : Extent tb w b m) {w₁ w₂ : List ℕ} (q₁ : w₁ ≡ move_cells w a n l)
    (q₂ : w₂ ≡ move_cells w₁ b m r) where
  outside₁ : Outside l (l + n) w w₁
  outside₁ = rw q₁ (move_outside w a n l)

  outside₂ : Outside r (r + m) w₁ w₂
  outside₂ = rw q₂ (move_outside w₁ b m r)

  module _ {limit : ℕ} {ts : List ℕ} (ls : Lines) (k : ℕ) (e f : Expr) (B : Book ls limit tb ts) (p : Placed limit (length w) l r)
      (P : Pair ls limit k (take l w) a b e f) where
    size_left_lem : n ≡ size e
    size_left_lem = first.is e _ (category_wf B.rows k e P.left.known) (at_whole w l e P.left.at)

    size_right_lem : m ≡ size f
    size_right_lem = second.is f _ (category_wf B.rows k f P.right.known) (at_whole w l f P.right.at)

    room : r + limit ≤ length w
    room = omega (arith, p.long, p.below, unit_inside limit {k = scratch_unit} (omega arith))

    left₁ : At w₁ l (cells e) (drop (l + n) w)
    left₁ =
        rw q₁
        (moved w a n l e size_left_lem (at_whole w l e P.left.at) (omega (arith, at_under w l e P.left.at, size_is_length e, size_left_lem))
        (omega (arith, room, size_left_lem, P.left.small, p.next)))

    right₁ : At w₁ b (cells f) (drop (b + length (cells f)) w₁)
    right₁ = at_kept outside₁ (inl (at_under w l f P.right.at)) (at_whole w l f P.right.at)

    right₂ : At w₂ r (cells f) (drop (r + m) w₁)
    right₂ =
        rw q₂
        (moved w₁ b m r f size_right_lem right₁ (omega (arith, at_under w l f P.right.at, size_is_length f, size_right_lem, p.next))
        (omega (arith, room, size_right_lem, P.right.small, outside₁.long)))

    -- the sides that are opened lie in their units
    in_place : Pair ls limit k w₂ l r e f
    in_place = record {
      left = record {
        known = P.left.known;
        small = P.left.small;
        rest = _;
        at = at_kept outside₂ (inl (omega (arith, p.next, P.left.small, size_is_length e))) left₁;
      };
      right = record { known = P.right.known; small = P.right.small; rest = _; at = right₂ };
    }

  pub open_moved : Opens tb w a b l r w₂ false n m
  open_moved = record {
    frame = λ h.
        outside_then (frame_of outside₁ (omega arith)) (outside_more h (omega (arith, outside₁.long)) (frame_of outside₂ (omega arith)));
    identically = λ z. let x : ◌≡◌ {A = ℕ} 0 1 = cc in absurd (omega arith);
    opened = λ z ls k e f B p P. (in_place ls k e f B p P, size_left_lem ls k e f B p P, size_right_lem ls k e f B p P);
  }
