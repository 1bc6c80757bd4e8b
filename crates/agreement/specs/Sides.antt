-- What the first comparison does with two sides, by what comes next.
use Rattle.std.specs.Prelude.{◌≡◌, true}
use Prim.Native.Nat.{ℕ, zero, suc, ◌+◌, ◌≤◌, ◌<◌}
use native.Mathlib.Omega.{arith}
use borrow.Author.Tests.{le-leb, lt-leb}
use Rattle.aut68.specs.Language.{Language}
use Rattle.aut68.specs.Expr.{Expr, size, identical}
use Rattle.aut68.specs.Lines.{Lines}
use Rattle.aut68.specs.Procedure.Answer.{done, stop, too_large, out_of_budget}
use Rattle.aut68.specs.Procedure.Compare.{same, by_parts, next, Comparison, compare_parts, sides}
use Rattle.agreement.specs.Which.{Which, the_left, the_right, pick, step_in}

pub next_same : (ls : Lines) (e f : Expr) → identical e f ≡ true → next ls e f ≡ same
unfolding next
next_same ls e f q = rw (q, next)

module _ (language : Language) (ls : Lines) (L : ℕ) (inner : Comparison) (e f : Expr) where
  pub sides_same : (b : ℕ) → next ls e f ≡ same → sides language ls L inner e f b ≡ done tt b
  unfolding sides
  sides_same zero q = rw (q, sides)
  sides_same (suc b) q = rw (q, sides)

  pub sides_parts : (b : ℕ) → next ls e f ≡ by_parts → sides language ls L inner e f b ≡ compare_parts language inner e f b
  unfolding sides
  sides_parts zero q = rw (q, sides)
  sides_parts (suc b) q = rw (q, sides)

  module _ (s : Which) (g : Expr) (q : next ls e f ≡ step_in s g) where
    -- a step past the budget
    pub sides_spent : (b : ℕ) → b ≡ 0 → sides language ls L inner e f b ≡ stop out_of_budget b
    unfolding sides
    sides_spent b z = go s b q z
      where
        go : (s : Which) (b : ℕ) → next ls e f ≡ step_in s g → b ≡ 0 → sides language ls L inner e f b ≡ stop out_of_budget b
        go the_left zero q z = rw (q, sides)
        go the_right zero q z = rw (q, sides)
        go s (suc b) q z = absurd (omega arith)

    -- a step within it
    pub sides_step : (b b' : ℕ) → b' + 1 ≡ b → size g ≤ L → sides language ls L inner e f b ≡ sides language ls L inner (pick s g e) (pick s f g) b'
    unfolding sides
    sides_step b b' z h = go s b q z
      where
        go : (s : Which) (b : ℕ) → next ls e f ≡ step_in s g → b' + 1 ≡ b → sides language ls L inner e f b ≡ sides language ls L inner (pick s g e) (pick s f g) b'
        go s zero q z = absurd (omega arith)
        go the_left (suc b) q z = let y : b ≡ b' = omega arith in rw (q, sides, le-leb _ _ h, y)
        go the_right (suc b) q z = let y : b ≡ b' = omega arith in rw (q, sides, le-leb _ _ h, y)

    pub sides_large : (b : ℕ) → 0 < b → L < size g → sides language ls L inner e f b ≡ stop too_large b
    unfolding sides
    sides_large b z h = go s b q z
      where
        go : (s : Which) (b : ℕ) → next ls e f ≡ step_in s g → 0 < b → sides language ls L inner e f b ≡ stop too_large b
        go s zero q z = absurd (omega arith)
        go the_left (suc b) q z = rw (q, sides, lt-leb _ _ h)
        go the_right (suc b) q z = rw (q, sides, lt-leb _ _ h)
