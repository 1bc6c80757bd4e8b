-- Laws: the shapes of two sides.
use mathlib.Core.Path.{◌≡◌}
use mathlib.Core.Bool.{true, false}
use mathlib.Core.List.{List}
use Prim.Native.Nat.{ℕ, ◌<◌}
use native.Mathlib.Omega.{arith}
use lib.ListN.{length, get_or}
use Rattle.cells.specs.Cells.{parts_after}
use Rattle.sides.specs.Posts.{SaysShapes}

module _ {tb w : List ℕ} {l r : ℕ} where
  pub shapes_differ : {count : ℕ} → (l < length w → r < length w → get_or w l 0 ≡ get_or w r 0 → ⊥) → SaysShapes tb w l r true count
  shapes_differ n = record { differ = λ _. n; match = λ z. let x : ◌≡◌ {A = ℕ} 0 1 = cc in absurd (omega arith) }

  pub shapes_match : {count : ℕ} → l < length w → r < length w → get_or w l 0 ≡ get_or w r 0 → count ≡ parts_after tb (get_or w l 0) → SaysShapes tb w l r false count
  shapes_match p q e c = record { differ = λ z. let x : ◌≡◌ {A = ℕ} 0 1 = cc in absurd (omega arith); match = λ _. (p, q, e, c) }
