-- Cells moved up in a store.
use mathlib.Core.Path.{◌≡◌, ap, ◌∙◌}
use mathlib.Core.Logic.{◌⊎◌, inl, inr}
use mathlib.Core.List.{List}
use Prim.Native.Nat.{ℕ, ◌+◌, ◌-◌, ◌≤◌, ◌<◌}
use native.Mathlib.Omega.{arith}
use lib.ListN.{length, get_or}
use Rattle.std.specs.List.{CopiedTo, SameBelow, SameFrom}
use Rattle.completion.specs.Posts.{ShiftedUp}

-- a copy of the cells from `from` up to `end`, n cells up
pub shifted_lem : {w w' : List ℕ} {from end n : ℕ} → from ≤ end → length w' ≡ length w
    → CopiedTo w w' from (from + n) (end - from) × SameBelow w w' (from + n) × SameFrom w w' (from + n + (end - from)) → ShiftedUp w w' from end n
shifted_lem {w} {w'} {from} {end} {n} l long h =
    record {
      kept = record { long = long; same = λ i s. elsewhere i s };
      moved = λ i a b. h.0 (i + n) 0 (omega arith) (omega arith) ∙ ap (λ j. get_or w j 0) {y = i} (omega arith);
    }
  where
    elsewhere : (i : ℕ) → (i < from + n) ⊎ (end + n ≤ i) → get_or w' i 0 ≡ get_or w i 0
    elsewhere i (inl a) = h.1 i 0 a
    elsewhere i (inr a) = h.2 i 0 (omega arith)
