-- Two strings put in place: two expressions, each in a unit of its own, below the sides of a comparison.
use mathlib.Core.Path.{◌≡◌, sym, ap, ◌∙◌, subst}
use mathlib.Core.Logic.{inl, ⊎_elim}
use mathlib.Core.List.{List, [], append-nil}
use Prim.Native.Nat.{ℕ, ◌+◌, ◌*◌, ◌≤◌}
use native.Mathlib.Omega.{arith}
use lib.ListN.{length, take, drop}
use Rattle.aut68.specs.Sizes.{largest_limit, work_units, nesting}
use Rattle.aut68.specs.Expr.{Expr}
use Rattle.aut68.specs.Lines.{Lines}
use Rattle.aut68.specs.Rules.Strings.{Reads}
use Rattle.calculus.specs.Scoped.{ScopedCategory, scoped_category}
use Rattle.calculus.specs.Resolved.{KnownCategory}
use Rattle.cells.specs.Cells.{At, copy_cells}
use Rattle.cells.specs.CopyLaws.{copy_at, copy_outside}
use Rattle.cells.specs.Forests.{size_is_length}
use Rattle.cells.specs.Layout.{unit_at, level_unit, side_unit, unit_below, unit_next, unit_inside}
use Rattle.cells.specs.Stores.{at_kept, at_before}
use Rattle.sides.specs.Posts.{Side, Pair}

-- what a string is, is known outside every binding
reads_known : (ls : Lines) {s : List ℕ} {e : Expr} → Reads ls s e → KnownCategory ls 0 e
unfolding ScopedCategory
reads_known ls {e = e} r = ⊎_elim (λ q. subst (KnownCategory ls 0) (sym q) tt) (λ w. scoped_category _ _ 0 e w) r.known

-- where the sides of the first depth lie
abbrev sides_at : ℕ → ℕ
sides_at limit = unit_at limit (side_unit nesting)

module _ (left right w : List ℕ) {limit a b : ℕ} {w₁ w₂ : List ℕ} (small : limit ≤ largest_limit) (long : work_units * limit ≤ length w)
    (first : limit ≤ largest_limit → a ≡ unit_at limit (level_unit 0)) (next : limit ≤ largest_limit → b ≡ unit_at limit (level_unit 1))
    (c : w₁ ≡ copy_cells left 0 (length left) w a) (d : w₂ ≡ copy_cells right 0 (length right) w₁ b) where
  -- the units lie one behind the other, below the sides and inside the store
  behind : a + limit ≤ b
  behind = omega (arith, first small, next small, unit_next limit (level_unit 0))

  below : b + limit ≤ sides_at limit
  below = omega (arith, next small, unit_below limit {j = level_unit 1} {k = side_unit nesting} (omega arith))

  inside : sides_at limit ≤ length w
  inside = omega (arith, unit_inside limit {k = side_unit nesting} (omega arith))

  string_at_lem : (s : List ℕ) → At s 0 s []
  string_at_lem s = record { is = sym (append-nil s) }

  module _ (h : length left ≤ limit) (k : length right ≤ limit) where
    same₁ : length w₁ ≡ length w
    same₁ = ap length c ∙ (copy_outside left 0 (length left) w a).long

    same₂ : length w₂ ≡ length w
    same₂ = ap length d ∙ (copy_outside right 0 (length right) w₁ b).long ∙ same₁

    left_first : At w₁ a left (drop (a + length left) w)
    left_first =
        subst (λ x. At x a left (drop (a + length left) w)) (sym c) (copy_at left 0 w a (string_at_lem left) (omega arith) (omega (arith, behind, below, inside)))

    left_at : At w₂ a left (drop (a + length left) w₂)
    left_at =
        subst (λ x. At x a left (drop (a + length left) x)) (sym d)
        (at_kept (copy_outside right 0 (length right) w₁ b) (inl (omega (arith, behind))) left_first)

    right_at : At w₂ b right (drop (b + length right) w₁)
    right_at =
        subst (λ x. At x b right (drop (b + length right) w₁)) (sym d) (copy_at right 0 w₁ b (string_at_lem right) (omega arith) (omega (arith, below, inside, same₁)))

    side : (ls : Lines) {s : List ℕ} {at : ℕ} {e : Expr} {rest : List ℕ} → length s ≤ limit → at + limit ≤ sides_at limit → Reads ls s e → At w₂ at s rest → Side ls limit 0 (take (sides_at limit) w₂) at e
    side ls {s} {at} {e} l m r p =
        record {
          known = reads_known ls r;
          small = omega (arith, size_is_length e, ap length r.cells_are);
          rest = drop (at + length s) (take (sides_at limit) w₂);
          at = subst (λ x. At (take (sides_at limit) w₂) at x (drop (at + length s) (take (sides_at limit) w₂))) r.cells_are (at_before {n = sides_at limit} (omega arith) p);
        }

    pub placed : (ls : Lines) {e f : Expr} → Reads ls left e → Reads ls right f → Pair ls limit 0 (take (sides_at limit) w₂) a b e f
    placed ls r q = record { left = side ls h (omega (arith, behind, below)) r left_at; right = side ls k below q right_at }

    pub still_long : work_units * limit ≤ length w₂
    still_long = omega (arith, same₂)
