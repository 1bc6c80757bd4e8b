-- `count`: the two cases of `counted`.
use mathlib.Core.Path.{◌≡◌, refl, ◌∙◌}
use Prim.Native.Nat.{ℕ, ◌≤◌, ◌<◌}
use native.Mathlib.Omega.{arith}
use borrow.Author.Tests.{le-leb, lt-leb}
use Rattle.pairs.specs.Sheet.{counted}
use Rattle.sheets.proofs.count.Goals as goal

counted-all : (n : ℕ) → n ≤ 4294967295 → n ≡ counted n
unfolding counted
counted-all n h = rw (le-leb n 4294967295 h, counted) refl

counted-most : (n : ℕ) → 4294967295 < n → 4294967295 ≡ counted n
unfolding counted
counted-most n h = rw (lt-leb n 4294967295 h, counted) refl

pub returns-in-Ok : goal.returns-in-Ok
returns-in-Ok c = c.in-Ok.ensures.1 ∙ counted-all _ (omega (arith, c.in-Ok.ensures.0))

pub returns-in-Err : goal.returns-in-Err
returns-in-Err c = counted-most _ (omega (arith, c.in-Err.ensures))
