use mathlib.Core.Path.{refl}
use mathlib.Core.Logic.{◌⊎◌, inl, inr}
use Prim.Native.Nat.{ℕ, min, ◌≤◌, ◌<◌}
use lib.ListN.{length}
use Rattle.std.proofs.Math.Decide.{dec_lt}
use native.Mathlib.Omega.{arith}
use Rattle.reaching.specs.Cellwise.{adds_end, adds_turn}
use Rattle.reaching.proofs.reaching.mark_cells.Goals as goal

-- the lesser of two is reached
ends : (m n i : ℕ) → min m n ≤ i → (m ≤ i) ⊎ (n ≤ i)
ends m n i h = at (dec_lt i m)
  where
    at : Dec (i < m) → (m ≤ i) ⊎ (n ≤ i)
    at (yes k) = inr (omega arith)
    at (no k) = inl (omega arith)

pub loop-i-init : goal.loop-i-init
loop-i-init c = (refl, λ w' a. a)

pub loop-i-preserved : goal.loop-i-preserved
loop-i-preserved c =
    let A = c.args in
    let a = c.mark_cell.ensures in
    (omega (arith, a.long), λ w' b. c.loop-i.invariant.1 w' (adds_turn c.loop-i.i A.to A.terms.now (omega arith) (omega arith) a b))

pub shape_of-w : goal.shape_of-w
shape_of-w c = c.loop-i.invariant.0

pub returns : goal.returns
returns c =
    let A = c.args in
    c.loop-i.invariant.1 _ (adds_end c.loop-i.i A.to A.terms.now (ends A.to (length A.terms.now) c.loop-i.i (omega arith)))
