-- Laws: a pair at one depth, of any procedure: where no pair is opened, and where the sides lie.
use mathlib.Core.Path.{◌≡◌, sym, subst}
use mathlib.Core.Logic.{inl}
use mathlib.Core.List.{List}
use Prim.Native.Nat.{ℕ, ◌+◌, ◌*◌, ◌-◌, ◌≤◌, ◌<◌}
use native.Mathlib.Decide.{dec_lt}
use native.Mathlib.Omega.{arith}
use lib.ListN.{length, take}
use Rattle.aut68.specs.Sizes.{largest_limit, work_units, nesting}
use Rattle.aut68.specs.Expr.{Expr}
use Rattle.aut68.specs.Lines.{Lines}
use Rattle.aut68.specs.Procedure.Answer.{Answer, code_of, too_large}
use Rattle.cells.specs.Cells.{Outside}
use Rattle.cells.specs.Forests.{size_is_length}
use Rattle.cells.specs.Layout.{unit_at, side_unit, scratch_unit, unit_next, unit_below, unit_small}
use Rattle.cells.specs.Results.{Result}
use Rattle.cells.specs.Stores.{outside_same, at_before, at_kept}
use Rattle.sides.specs.Posts.{Side, Pair, Placed}
use Rattle.comparison.specs.Posts.{Levels, ComparesBy}

pub result_is : {code rest : ℕ} {m m' : Answer ℕ (Unit {0})} → m ≡ m' → Result (λ _. Unit {0}) code rest m' → Result (λ _. Unit {0}) code rest m
result_is {code} {rest} q h = subst (Result (λ _. Unit {0}) code rest) (sym q) h

-- ---- no level is left, or there are no such levels or units

pub no_pair : {procedure : Levels} {tb ts w : List ℕ} {limit budget a b deeper : ℕ}
    → ((ls : Lines) (e f : Expr) → Result (λ _. Unit {0}) (code_of too_large) budget (procedure ls limit 0 e f budget))
    → (1 ≤ deeper → deeper ≤ nesting → limit ≤ largest_limit → ⊥) → ComparesBy procedure tb ts w limit budget a b deeper w (code_of too_large) budget
no_pair {procedure} {limit = limit} {budget} {deeper = deeper} none n = record {
  frame = λ _ _. outside_same;
  means = λ ls k e f B d d' h P. go ls e f B.limit d' (dec_lt 0 deeper);
}
  where
    go : (ls : Lines) (e f : Expr) → limit ≤ largest_limit → deeper ≤ nesting → Dec (0 < deeper)
        → Result (λ _. Unit {0}) (code_of too_large) budget (procedure ls limit deeper e f budget)
    go ls e f s d (yes l) = absurd (n l d s)
    go ls e f s d (no l) =
        let z : 0 ≡ deeper = omega arith in
        subst (λ (i : ℕ). Result (λ _. Unit {0}) (code_of too_large) budget (procedure ls limit i e f budget)) z (none ls e f)

-- ---- a pair that is opened

-- a depth from 1 to 32, and where its sides lie
pub record Opened (limit deeper l r : ℕ) : Type 0 where
  pub some : deeper ≡ 0 → ⊥
  pub few : deeper ≤ nesting
  pub small : limit ≤ largest_limit
  pub left : l ≡ unit_at limit (side_unit deeper)
  pub right : r ≡ l + limit

pub side_small : (limit deeper l : ℕ) → limit ≤ largest_limit → l ≡ unit_at limit (side_unit deeper) → l ≤ work_units * largest_limit
unfolding unit_at
side_small limit deeper l h q = omega (arith, unit_small limit (side_unit deeper) h (omega arith))

module _ {limit deeper l r : ℕ} (O : Opened limit deeper l r) where
  right_unit : r ≡ unit_at limit (side_unit deeper + 1)
  right_unit = omega (arith, O.left, O.right, unit_next limit (side_unit deeper))

  pub placed : (n : ℕ) → work_units * limit ≤ n → Placed limit n l r
  placed n h = record {
    next = O.right;
    below = omega (arith, right_unit, unit_below limit {j = side_unit deeper + 1} {k = scratch_unit} (omega (arith, O.some)));
    long = h;
  }

  -- the frame of all that is done with the sides
  pub pair_frame : {w w' : List ℕ} → (l ≤ r → l ≤ unit_at limit scratch_unit → Outside l (length w) w w') → Outside (unit_at limit (side_unit deeper)) (length w) w w'
  pair_frame {w} {w'} f =
      subst (λ (n : ℕ). Outside n (length w) w w') O.left
      (f (omega (arith, O.right)) (omega (arith, O.left, unit_below limit {j = side_unit deeper} {k = scratch_unit} (omega (arith, O.some)))))

  -- the sides one level deeper begin behind them
  pub deeper_unit : r + limit ≤ unit_at limit (side_unit (deeper - 1))
  deeper_unit = omega (arith, right_unit, unit_below limit {j = side_unit deeper + 1} {k = side_unit (deeper - 1)} (omega (arith, O.some, O.few)))

  -- what lies in either unit lies below the deeper sides
  below_deeper : {ls : Lines} {k i : ℕ} {w : List ℕ} (e : Expr) → i ≤ r → Side ls limit k w i e → Side ls limit k (take (unit_at limit (side_unit (deeper - 1))) w) i e
  below_deeper e h X = record {
    known = X.known;
    small = X.small;
    rest = _;
    at = at_before {n = unit_at limit (side_unit (deeper - 1))} (omega (arith, deeper_unit, X.small, size_is_length e)) X.at;
  }

  pub pair_below : {ls : Lines} {k : ℕ} {w : List ℕ} {e f : Expr} → Pair ls limit k w l r e f → Pair ls limit k (take (unit_at limit (side_unit (deeper - 1))) w) l r e f
  pair_below {e = e} {f} P = record { left = below_deeper e (omega (arith, O.right)) P.left; right = below_deeper f (omega arith) P.right }

  -- and stays as it was while they are compared
  kept_deeper : {ls : Lines} {k i n : ℕ} {w w' : List ℕ} (e : Expr) → i ≤ r → Outside (unit_at limit (side_unit (deeper - 1))) n w w' → Side ls limit k w i e → Side ls limit k w' i e
  kept_deeper e h outside X = record {
    known = X.known;
    small = X.small;
    rest = _;
    at = at_kept outside (inl (omega (arith, deeper_unit, X.small, size_is_length e))) X.at;
  }

  pub pair_kept : {ls : Lines} {k n : ℕ} {w w' : List ℕ} {e f : Expr} → Outside (unit_at limit (side_unit (deeper - 1))) n w w' → Pair ls limit k w l r e f → Pair ls limit k w' l r e f
  pair_kept {e = e} {f} outside P = record { left = kept_deeper e (omega (arith, O.right)) outside P.left; right = kept_deeper f (omega arith) outside P.right }
