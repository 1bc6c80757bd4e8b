-- What was found at two levels, as the sides of a comparison.
use mathlib.Core.Path.{◌≡◌, sym}
use mathlib.Core.List.{List}
use Prim.Native.Nat.{ℕ, ◌≤◌, ◌<◌}
use native.Mathlib.Omega.{arith}
use lib.ListN.{take}
use Rattle.aut68.specs.Sizes.{largest_limit, nesting}
use Rattle.aut68.specs.Expr.{Expr}
use Rattle.aut68.specs.Procedure.Compare.{compare}
use Rattle.aut68.specs.Lines.{Lines}
use Rattle.calculus.specs.Resolved.{KnownCategory}
use Rattle.cells.specs.Layout.{levels, unit_at, level_unit, side_unit}
use Rattle.cells.specs.Forests.{size_is_length}
use Rattle.cells.specs.Stores.{at_before}
use Rattle.sides.specs.Posts.{Side}
use Rattle.comparison.specs.Posts.{Compares}
use Rattle.levels.specs.Places.{Lies}
use Rattle.levels.specs.Spots.{level_below}
use Rattle.typing.specs.ComparisonPosts.{ComparePost}

-- what was found at a level, as a side
pub found_side : {ls : Lines} {limit k level a : ℕ} {w : List ℕ} (x : Expr) → level < levels → a ≡ unit_at limit (level_unit level) → KnownCategory ls k x
    → Lies w limit level x → Side ls limit k (take (unit_at limit (side_unit nesting)) w) a x
found_side {limit = limit} x l p known h = record {
  known = known;
  small = h.small;
  rest = _;
  at = rw (sym p) at (at_before {n = unit_at limit (side_unit nesting)} (omega (arith, level_below limit l, size_is_length x, h.small)) h.at);
}

pub units_compared : {tb ts w : List ℕ} {limit budget l r a b : ℕ} {w' : List ℕ} {code rest : ℕ} → l < levels → r < levels
    → (limit ≤ largest_limit → a ≡ unit_at limit (level_unit l)) → (limit ≤ largest_limit → b ≡ unit_at limit (level_unit r))
    → Compares tb ts w limit budget a b nesting w' code rest → ComparePost tb ts w limit budget l r w' code rest
unfolding compare
units_compared {w = w} {limit} inL in_r pa pb c = record {
  frame = λ small. c.frame small (omega arith);
  means = λ {ls} {k} {x} {y} B room kk kx ky lx ly.
      c.means ls k x y B (omega arith) (omega arith) room
      (record { left = found_side x inL (pa B.limit) kx lx; right = found_side y in_r (pb B.limit) ky ly });
}
