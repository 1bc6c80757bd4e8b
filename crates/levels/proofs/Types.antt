-- Is what was found `type`, and must it be.
use mathlib.Core.Path.{◌≡◌, refl, sym, ap, ◌∙◌}
use mathlib.Core.Logic.{◌≢◌}
use mathlib.Core.Bool.{Bool, true, false, true≢false, false≢true}
use mathlib.Core.List.{List}
use Prim.Native.Nat.{ℕ, ◌≤◌}
use native.Mathlib.Omega.{arith}
use lib.Dec.{eqb}
use lib.ListN.{length, get_or}
use Rattle.aut68.specs.Sizes.{largest_limit}
use Rattle.aut68.specs.Expr.{Expr, is_type}
use Rattle.aut68.specs.Procedure.Answer.{ensure, code_of, not_type}
use Rattle.cells.specs.Layout.{unit_at, level_unit}
use Rattle.cells.specs.Forests.{cells_long, at_first, at_inside}
use Rattle.cells.specs.Results.{passed, refused, then_refused, then_passed}
use Rattle.levels.specs.FoundPosts.{IsTypePost, Passes, FoundTypePost}
use Rattle.levels.specs.Spots.{is_type_cell}

module _ {w : List ℕ} {limit level at : ℕ} (place : limit ≤ largest_limit → at ≡ unit_at limit (level_unit level)) where
  pub no_type_past : {r : Bool} → length w ≤ at → IsTypePost w limit level r
  no_type_past h = record { means = λ {c} small x. absurd (omega (arith, place small, at_inside c x.at, cells_long c)) }

  pub type_by_cell : {r : Bool} → r ≡ eqb (get_or w at 0) 0 → IsTypePost w limit level r
  type_by_cell e = record {
    means = λ {c} small x.
        e ∙ ap (λ (i : ℕ). eqb (get_or w i 0) 0) (place small) ∙ ap (λ (k : ℕ). eqb k 0) (at_first c x.at) ∙ sym (is_type_cell c);
  }

-- ---- `type`

ensured : (k : Expr) (b : ℕ) → is_type k ≡ true → Passes 0 b (ensure (is_type k) not_type b)
unfolding ensure
ensured k b e = go (is_type k) e
  where
    go : (t : Bool) → t ≡ true → Passes 0 b (ensure t not_type b)
    go true q = passed refl tt
    go false q = absurd (false≢true q)

not_ensured : (k : Expr) (b : ℕ) → is_type k ≡ false → Passes 8 b (ensure (is_type k) not_type b)
unfolding ensure code_of
not_ensured k b e = go (is_type k) e
  where
    go : (t : Bool) → t ≡ false → Passes 8 b (ensure t not_type b)
    go true q = absurd (true≢false q)
    go false q = refused refl

module _ {w : List ℕ} {limit level found size budget : ℕ} where
  pub type_refused : found ≢ 0 → FoundTypePost w limit level found size budget found budget
  type_refused n = record { means = λ small x. then_refused _ n x }

  pub type_passed : {r : Bool} → found ≡ 0 → IsTypePost w limit level r → r ≡ true → FoundTypePost w limit level found size budget 0 budget
  type_passed z t e = record { means = λ small x. then_passed _ z x (λ k f. ensured k budget (sym (t.means small f.lies) ∙ e)) }

  pub type_missed : {r : Bool} → found ≡ 0 → IsTypePost w limit level r → r ≡ false → FoundTypePost w limit level found size budget 8 budget
  type_missed z t e = record { means = λ small x. then_passed _ z x (λ k f. not_ensured k budget (sym (t.means small f.lies) ∙ e)) }
