-- The table's rule is one test, computed at each of the 256 entries as the ranges fill them.
use mathlib.Core.Path.{refl}
use native.Mathlib.Omega.{arith}
use mathlib.Core.Bool.{Bool}
use mathlib.Core.List.{List}
use Prim.Native.Nat.{ℕ, ◌≤◌}
use lib.Dec.{T, eqb, eqb→eq}
use lib.ListN.{get_or, length}
use Rattle.aut68.specs.Bytes.{name_byte}
use Rattle.kinds.specs.Kinds.{KindsTable, kind_of, place_or0}
use Rattle.kinds.proofs.Every.{at, every}
use Rattle.kinds.proofs.ranges.kinds_of_bytes.Goals as goal

abbrev right : ℕ → ℕ → Bool
right b k = eqb k (kind_of b)

tested : (ks : List ℕ) → T (every right 0 ks) → 256 ≤ length ks → KindsTable ks
tested ks t l =
    record { kind = λ b h. eqb→eq (get_or ks b 0) (kind_of b) (at right ks t b (native.Mathlib.Nat.le_trans h l)) }

pub fill-requires-2 : goal.fill-requires-2
fill-requires-2 c = (rw c.fill.ensures refl, omega arith)

pub fill-requires-3 : goal.fill-requires-3
fill-requires-3 c = (rw (c.fill-2.ensures, c.fill.ensures) refl, omega arith)

pub returns : goal.returns
unfolding kind_of place_or0 name_byte
returns c =
    rw (c.fill-3.ensures, c.fill-2.ensures, c.fill.ensures, c.into-kinds.ensures, c.into.ensures, c.into-2.ensures, c.into-3.ensures, c.into-4.ensures, c.into-5.ensures, c.into-6.ensures, c.into-7.ensures, c.into-8.ensures, c.into-9.ensures, c.into-10.ensures, c.into-11.ensures, c.into-12.ensures, c.into-13.ensures, c.into-14.ensures, c.into-15.ensures, c.into-16.ensures)
    (tested _ tt (lib.Dec.lit≤ tt))
