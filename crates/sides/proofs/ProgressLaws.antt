-- Laws: head steps in two sides, one after the other, of any procedure whose answer they keep.
use mathlib.Core.Path.{◌≡◌, refl, subst, ◌∙◌}
use mathlib.Core.Bool.{Bool, false}
use mathlib.Core.List.{List}
use Prim.Native.Nat.{ℕ, ◌≤◌}
use native.Mathlib.Omega.{arith}
use lib.ListN.{length, take}
use Rattle.aut68.specs.Expr.{Expr, size}
use Rattle.aut68.specs.Lines.{Lines}
use Rattle.aut68.specs.Procedure.Compare.{Comparison}
use Rattle.cells.specs.Cells.{Outside}
use Rattle.cells.specs.Layout.{unit_at, scratch_unit}
use Rattle.cells.specs.Stores.{outside_same, outside_then, outside_more}
use Rattle.heads.specs.Book.{Book}
use Rattle.sides.specs.Posts.{Pair, Placed, Opens}

-- what lies below the left side is as it was
abbrev pub Below : ℕ → ℕ → ℕ → List ℕ → List ℕ → Type 0
Below limit l r w w' = l ≤ r → l ≤ unit_at limit scratch_unit → Outside l (length w) w w'

below_then : (limit : ℕ) {l r : ℕ} {w w₁ w₂ : List ℕ} → length w₁ ≡ length w → Below limit l r w w₁ → Below limit l r w₁ w₂ → Below limit l r w w₂
below_then limit q f g h t = outside_then (f h t) (outside_more (omega arith) (omega arith) (g h t))

-- the pair at a and b was put at l and r as the sides
pub record PutInPlace (tb w : List ℕ) (a b l r : ℕ) (w₀ : List ℕ) (n m : ℕ) : Type 0 where
  pub opens : Opens tb w a b l r w₀ false n m
  pub long : length w₀ ≡ length w

pub put_in_place : {tb w w₀ : List ℕ} {a b l r n m : ℕ} {answer : Bool} → Opens tb w a b l r w₀ answer n m → answer ≡ false → length w₀ ≡ length w
    → PutInPlace tb w a b l r w₀ n m
put_in_place {tb} {w} {w₀} {a} {b} {l} {r} {n} {m} X q long = record { opens = subst (λ (t : Bool). Opens tb w a b l r w₀ t n m) q X; long = long }

module _ {I : Type 0} (procedure : Lines → I → Comparison) where
  -- The sides are e' and f' now, of n and m cells, and the procedure goes on from them, with the budget b'.
  pub record Went (ls : Lines) (limit k : ℕ) (w : List ℕ) (l r : ℕ) (e f : Expr) (b n m b' : ℕ) : Type 0 where
    pub e' : Expr
    pub f' : Expr
    pub pair : Pair ls limit k w l r e' f'
    pub size_left : n ≡ size e'
    pub size_right : m ≡ size f'
    pub goes : (i : I) → procedure ls i e f b ≡ procedure ls i e' f' b'

  went_then : {ls : Lines} {limit k : ℕ} {w w' : List ℕ} {l r : ℕ} {e f : Expr} {b n m b' n' m' b'' : ℕ} (p : Went ls limit k w l r e f b n m b')
      → Went ls limit k w' l r p.e' p.f' b' n' m' b'' → Went ls limit k w' l r e f b n' m' b''
  went_then p q = record {
    e' = q.e';
    f' = q.f';
    pair = q.pair;
    size_left = q.size_left;
    size_right = q.size_right;
    goes = λ i. p.goes i ∙ q.goes i;
  }

  -- the same of all sides of n and m cells at l and r, under at most `most` bindings
  pub record Progressed (most : ℕ) (tb ts w : List ℕ) (limit budget l n r m : ℕ) (w' : List ℕ) (n' m' rest : ℕ) : Type 0 where
    pub long : length w' ≡ length w
    pub frame : Below limit l r w w'
    pub means : (ls : Lines) (k : ℕ) (e f : Expr) → Book ls limit tb ts → k ≤ most → Placed limit (length w) l r → Pair ls limit k w l r e f → n ≡ size e → m ≡ size f
        → Went ls limit k w' l r e f budget n' m' rest

  -- before the first step
  pub progress_none : {most : ℕ} {tb ts w : List ℕ} {limit budget l n r m : ℕ} → Progressed most tb ts w limit budget l n r m w n m budget
  progress_none = record {
    long = refl;
    frame = λ _ _. outside_same;
    means = λ ls k e f B h p P x y. record { e' = e; f' = f; pair = P; size_left = x; size_right = y; goes = λ i. refl };
  }

  module _ {most : ℕ} {tb ts w w₁ : List ℕ} {limit budget l n₀ r m₀ n m rest : ℕ} (p : Progressed most tb ts w limit budget l n₀ r m₀ w₁ n m rest) where
    placed_again : Placed limit (length w) l r → Placed limit (length w₁) l r
    placed_again q = record { next = q.next; below = q.below; long = omega (arith, q.long, p.long) }

    -- a step more
    pub progress_then : {w₂ : List ℕ} {n' m' rest' : ℕ} → length w₂ ≡ length w₁ → Below limit l r w₁ w₂
        → ((ls : Lines) (k : ℕ) (e f : Expr) → Book ls limit tb ts → k ≤ most → Placed limit (length w₁) l r → Pair ls limit k w₁ l r e f → n ≡ size e → m ≡ size f
        → Went ls limit k w₂ l r e f rest n' m' rest')
        → Progressed most tb ts w limit budget l n₀ r m₀ w₂ n' m' rest'
    progress_then long f g = record {
      long = long ∙ p.long;
      frame = below_then limit p.long p.frame f;
      means = λ ls k e f B h q P x y.
          let z = p.means ls k e f B h q P x y in
          went_then z (g ls k z.e' z.f' B h (placed_again q) z.pair z.size_left z.size_right);
    }

    -- from the pair that was put in place
    module _ {w' : List ℕ} {a b : ℕ} (Z : PutInPlace tb w' a b l r w n₀ m₀) where
      pub placed_from : Placed limit (length w') l r → Placed limit (length w₁) l r
      placed_from q = placed_again (record { next = q.next; below = q.below; long = omega (arith, q.long, Z.long) })

      pub went_from : (ls : Lines) (k : ℕ) (e f : Expr) → Book ls limit tb ts → k ≤ most → Placed limit (length w') l r → Pair ls limit k (take l w') a b e f
          → Went ls limit k w₁ l r e f budget n m rest
      went_from ls k e f B h q P =
          let y = Z.opens.opened refl ls k e f B q P in
          p.means ls k e f B h (record { next = q.next; below = q.below; long = omega (arith, q.long, Z.long) }) y.0 y.1 y.2

      pub below_from : {w₂ : List ℕ} → Below limit l r w₁ w₂ → Below limit l r w' w₂
      below_from f = below_then limit Z.long (λ h _. Z.opens.frame h) (below_then limit p.long p.frame f)
