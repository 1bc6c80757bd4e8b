-- Which choice the kind and the number of a walk stand for.
use Prim.Native.Nat.{ℕ, zero, suc, ◌<◌}
use mathlib.Core.Path.{◌≡◌, refl, subst}
use mathlib.Core.List.{List}
use native.Mathlib.Omega.{arith}
use Rattle.std.specs.Prelude.{Option, Some, None}
use Rattle.aut68.specs.Expr.{Expr, cells}
use Rattle.cells.specs.Cells.{Wf, At}
use Rattle.terms.specs.declared.leaves.Change.TheVariants.{Lift, Substitute}
use Rattle.terms.specs.declared.walk.Ends.{Ends}
use Rattle.terms.specs.Grafts.{Choice, lifting, substituting, Stands, raises, substitutes_one, GraftPost}
use Rattle.terms.specs.Numbered.{change_of}

-- of kind 0 a walk lifts, of kind 1 it substitutes
pub data StandsBy (tb : List ℕ) (kind number : ℕ) (low : List ℕ) : Choice → Type 0 where
  by_raising : kind ≡ 0 → StandsBy tb kind number low (lifting number)
  by_substituting : {y : Expr} {ry : List ℕ} → kind ≡ 1 → Wf tb y → At low number (cells y) ry → StandsBy tb kind number low (substituting y)

zero_lifts : (kind number : ℕ) → kind ≡ 0 → change_of kind number ≡ Lift number
zero_lifts zero number q = refl
zero_lifts (suc kind) number q = absurd (omega arith)

one_substitutes : (kind number : ℕ) → kind ≡ 1 → change_of kind number ≡ Substitute number
one_substitutes zero number q = absurd (omega arith)
one_substitutes (suc kind) number q = refl

lift_is_zero : (kind number : ℕ) {d : ℕ} → change_of kind number ≡ Lift d → (kind ≡ 0) × (number ≡ d)
lift_is_zero zero number q = (refl, cc)
lift_is_zero (suc kind) number q = absurd (cc)

substitute_is_one : (kind number : ℕ) {n : ℕ} → kind < 2 → change_of kind number ≡ Substitute n → (kind ≡ 1) × (number ≡ n)
substitute_is_one zero number l q = absurd (cc)
substitute_is_one (suc kind) number l q = (omega arith, cc)

module _ {tb : List ℕ} (kind number : ℕ) where
  -- so does the change of the kind and the number
  pub change_stands : {low : List ℕ} {k : Choice} → StandsBy tb kind number low k → Stands tb (change_of kind number) low k
  change_stands (by_raising q) = raises (zero_lifts kind number q)
  change_stands (by_substituting q wf lies) = substitutes_one (one_substitutes kind number q) wf lies

  pub stands_by : {low : List ℕ} {k : Choice} → kind < 2 → Stands tb (change_of kind number) low k → StandsBy tb kind number low k
  stands_by {low} l (raises q) =
      let r = lift_is_zero kind number q in subst (λ (n : ℕ). StandsBy tb kind number low (lifting n)) r.1 (by_raising r.0)
  stands_by {low} l (substitutes_one {y = y} {ry} q wf lies) =
      let r = substitute_is_one kind number l q in by_substituting {ry = ry} r.0 wf (rw r.1 lies)

-- what the walk leaves, of a kind and a number
pub graft_by_kind : (top : ℕ) (tb : List ℕ) (kind number : ℕ) (low s w w' : List ℕ) (from to cut : ℕ) (r : Option Ends)
    → GraftPost top (Stands tb (change_of kind number)) tb low s w w' from to cut r → GraftPost top (StandsBy tb kind number) tb low s w w' from to cut r
graft_by_kind top tb kind number low s w w' from to cut None S =
    record { kept = S.kept; means = λ k p e rest f a b. S.means k (change_stands kind number p) e rest f a b }
graft_by_kind top tb kind number low s w w' from to cut (Some ends) E = record {
  past = E.past;
  within = E.within;
  ahead = E.ahead;
  room = E.room;
  kept = E.kept;
  means = λ k p e rest f a b. E.means k (change_stands kind number p) e rest f a b;
}
