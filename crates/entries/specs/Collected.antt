-- Lines collected in a store of cells, and the slots that say which were.
use Rattle.std.specs.Prelude.{◌≡◌, ◌↔◌, ◌≢◌, List, [], ◌++◌, ℕ, ◌+◌, ◌≤◌, ◌<◌, length, get_or, take}
use Rattle.std.proofs.Math.Seq.{slice}
use Rattle.aut68.specs.Rules.Names.{Member}

-- How many slots there are, and the number in an empty one.
abbrev pub slot_count : ℕ
slot_count = 64

abbrev pub no_line : ℕ
no_line = 4294967295

-- The n cells from `at` on are the lines vs, in some order, each at least once; every slot is empty or has one of them.
pub record Collected (w : List ℕ) (at n slots : ℕ) (vs : List ℕ) : Type 0 where
  pub same : (v : ℕ) → Member v (slice at (at + n) w) ↔ Member v vs
  pub slotted : (k : ℕ) → k < slot_count → get_or w (slots + k) 0 ≢ no_line → Member (get_or w (slots + k) 0) vs

-- What lies ahead of `at`, and from `end` up to the slots, is as it was.
pub record Spared (w w' : List ℕ) (at end slots : ℕ) : Type 0 where
  pub long : length w' ≡ length w
  pub ahead : take at w' ≡ take at w
  pub between : slice end slots w' ≡ slice end slots w

-- No line is collected.
pub record Emptied (w w' : List ℕ) (slots : ℕ) : Type 0 where
  pub spared : (at end : ℕ) → at ≤ slots → Spared w w' at end slots
  pub none : (at : ℕ) → Collected w' at 0 slots []

-- The lines vs are collected behind the n from `at` on: r in all.
pub record Adds (w w' : List ℕ) (at n slots : ℕ) (vs : List ℕ) (r : ℕ) : Type 0 where
  pub more : n ≤ r
  pub few : r ≤ n + length vs
  pub spared : (end : ℕ) → at + r ≤ end → Spared w w' at end slots
  pub adds : {us : List ℕ} → Collected w at n slots us → Collected w' at r slots (us ++ vs)
