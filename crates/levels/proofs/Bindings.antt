-- What is found over a binding.
use mathlib.Core.Path.{◌≡◌, refl, sym, ap, ◌∙◌}
use mathlib.Core.Logic.{◌≢◌, inl, inr}
use mathlib.Core.Bool.{Bool, true, false, true≢false, false≢true}
use mathlib.Core.List.{List, ◌∷◌}
use Prim.Native.Nat.{ℕ, ◌+◌, ◌*◌, ◌-◌, ◌≤◌, ◌<◌}
use native.Mathlib.Omega.{arith}
use lib.ListN.{length, drop}
use Rattle.aut68.specs.Expr as Expr
use Rattle.aut68.specs.Sizes.{largest_limit, work_units}
use Rattle.aut68.specs.Language.{aut68}
use Rattle.aut68.specs.Expr.{Expr, type, abs, size, cells, is_type, over_binding}
use Rattle.calculus.specs.Actions.{is_type_true}
use Rattle.cells.specs.Cells.{At, Outside, copy_cells, move_cells}
use Rattle.cells.specs.Layout.{levels, unit_at, level_unit, result_unit, result_ends}
use Rattle.cells.specs.Forests.{size_is_length}
use Rattle.cells.specs.Results.{then_refused, then_passed}
use Rattle.cells.specs.Stores.{outside_same, at_kept}
use Rattle.cells.specs.CopyLaws.{copy_at, copy_outside, move_at, move_outside}
use Rattle.reduction.specs.Frames.{frame_of}
use Rattle.levels.specs.Places.{FoundAt, Held}
use Rattle.levels.specs.FoundPosts.{MadePost, IsTypePost}
use Rattle.levels.specs.Spots.{frames, level_inside, level_result, at_join}
use Rattle.levels.proofs.Making.{made_passed, made_refused, spans_none, spans_all}
use Rattle.levels.specs.BinderPosts.{OverBindingPost}

over_type : (p c : Expr) → is_type c ≡ true → over_binding aut68 p c ≡ c
unfolding over_binding
over_type p c e = go (is_type c) e ∙ sym (is_type_true c e)
  where
    go : (t : Bool) → t ≡ true → elim t as (λ _. Expr) [ true ↦ type | false ↦ abs p c ] ≡ type
    go true q = refl
    go false q = absurd (false≢true q)

over_other : (p c : Expr) → is_type c ≡ false → over_binding aut68 p c ≡ abs p c
unfolding over_binding
over_other p c e = go (is_type c) e
  where
    go : (t : Bool) → t ≡ false → elim t as (λ _. Expr) [ true ↦ type | false ↦ abs p c ] ≡ abs p c
    go true q = absurd (true≢false q)
    go false q = refl

module _ {e : List ℕ} {t : ℕ} {w : List ℕ} {limit level found size extent budget : ℕ} where
  pub over_refused : {code n whole rest : ℕ} → found ≢ 0 → code ≡ found → whole ≡ 0 → rest ≡ budget
      → OverBindingPost e t w limit level found size extent budget w code n whole rest
  over_refused n z s q = record {
    frame = λ small. outside_same;
    spans = spans_none (λ y. n (sym z ∙ y)) s;
    means = λ p small room a k x. rw (z, q) (then_refused _ n x);
  }

  pub over_types : {r : Bool} → found ≡ 0 → IsTypePost w limit level r → r ≡ true → OverBindingPost e t w limit level found size extent budget w 0 size (t + extent) budget
  over_types z y g = record {
    frame = λ small. outside_same;
    spans = spans_all refl;
    means = λ p small room a k x. then_passed _ z x (λ c f.
        let h : is_type c ≡ true = sym (y.means small f.lies) ∙ g in
        let o = over_type p c h in
        made_passed (over_binding aut68 p c) (rw o f.lies.small) refl refl (rw o f));
  }

  pub over_large : {r : Bool} {code n whole rest : ℕ} → found ≡ 0 → IsTypePost w limit level r → r ≡ false → (limit < t + size) → code ≡ 10 → whole ≡ 0 → rest ≡ budget
      → OverBindingPost e t w limit level found size extent budget w code n whole rest
  unfolding Expr.size
  over_large z y g h u s v = record {
    frame = λ small. outside_same;
    spans = spans_none (λ x. omega arith) s;
    means = λ p small room a k x. then_passed _ z x (λ c f.
        let o = over_other p c (sym (y.means small f.lies) ∙ g) in
        made_refused (over_binding aut68 p c) (rw o (omega (arith, f.sized))) u v);
  }

-- `[x,P]` and what was found behind it
over_placed : (e : List ℕ) (t : ℕ) (w : List ℕ) (limit level size : ℕ) (p c : Expr) {behind : List ℕ} → level < levels → work_units * limit ≤ length w → t + size ≤ limit
    → t ≡ 1 + Expr.size p → At e 0 (5 ∷ cells p) behind → FoundAt w limit level size c
    → (rest : List ℕ) × At (move_cells (copy_cells e 0 t w (unit_at limit result_unit)) (unit_at limit (level_unit level)) size (unit_at limit result_unit + t)) (unit_at limit result_unit)
    (cells (abs p c)) rest
unfolding cells
over_placed e t w limit level size p c {behind} l room fits k a f =
    let R = unit_at limit result_unit in
    let U = unit_at limit (level_unit level) in
    let w₁ = copy_cells e 0 t w R in
    let kt : t ≡ length (5 ∷ cells p) = omega (arith, size_is_length p) in
    let kc : size ≡ length (cells c) = f.sized ∙ size_is_length c in
    let o₁ : Outside R (R + t) w w₁ = copy_outside e 0 t w R in
    let a₁ : At w₁ R (5 ∷ cells p) (drop (R + t) w) =
    rw (sym kt) at (copy_at e 0 w R a (omega arith) (omega (arith, result_ends limit)))
    in
    let c₁ : At w₁ U (cells c) (drop (U + length (cells c)) w₁) = at_kept o₁ (inl (omega (arith, level_result limit l))) f.lies.at in
    let c₂ : At (move_cells w₁ U (length (cells c)) (R + t)) (R + t) (cells c) (drop (R + t + length (cells c)) w₁) =
    move_at w₁ U (R + t) c₁ (omega (arith, level_inside limit l, o₁.long)) (omega (arith, result_ends limit, o₁.long)) (inr (omega (arith, level_result limit l)))
    in
    let o₂ : Outside (R + t) (R + t + length (cells c)) w₁ (move_cells w₁ U (length (cells c)) (R + t)) = move_outside w₁ U (length (cells c)) (R + t) in
    let a₂ = at_kept o₂ (inl (omega (arith, kt))) a₁ in
    (drop (R + t + length (cells c)) w₁, rw kc (at_join (omega (arith, kt)) a₂ c₂))

module _ {e : List ℕ} {t : ℕ} {w : List ℕ} {limit level found size extent budget : ℕ} where
  pub over_made : {r : Bool} {from to : ℕ} {w₁ w₂ w₃ : List ℕ} {code n whole rest : ℕ} → level < levels → found ≡ 0 → IsTypePost w limit level r → r ≡ false
      → t ≤ limit → size ≤ limit - t → (limit ≤ largest_limit → to ≡ unit_at limit result_unit) → (limit ≤ largest_limit → from ≡ unit_at limit (level_unit level))
      → w₁ ≡ copy_cells e 0 t w to → w₂ ≡ move_cells w₁ from size (to + t) → MadePost w₂ limit budget level (t + size) (t + extent) w₃ code n whole rest
      → OverBindingPost e t w limit level found size extent budget w₃ code n whole rest
  unfolding Expr.size
  over_made {r} {from} {to} {w₁} {w₂} {w₃} {code} {n} {whole} {rest} l z y g h₁ h₂ pt pf e₁ e₂ M = record {
    frame = λ small.
        let U = unit_at limit (level_unit level) in
        let o₁ : Outside U (length w) w w₁ = rw e₁ (frame_of (copy_outside e 0 t w to) (omega (arith, pt small, level_result limit l))) in
        let o₂ : Outside U (length w₁) w₁ w₂ = rw e₂ (frame_of (move_outside w₁ from size (to + t)) (omega (arith, pt small, level_result limit l))) in
        frames (omega arith) (frames (omega arith) o₁ o₂) (M.frame small);
    spans = M.spans;
    means = λ p {m} {behind} small room a k x. then_passed _ z x (λ c f.
        let o = over_other p c (sym (y.means small f.lies) ∙ g) in
        rw o (M.means small (long small room) (held p c small room k a f)));
  }
    where
      long : limit ≤ largest_limit → work_units * limit ≤ length w → work_units * limit ≤ length w₂
      long small room =
          let q₁ : length w₁ ≡ length w = rw e₁ (copy_outside e 0 t w to).long in
          let q₂ : length w₂ ≡ length w₁ = rw e₂ (move_outside w₁ from size (to + t)).long in
          omega arith

      held : (p c : Expr) {behind : List ℕ} → limit ≤ largest_limit → work_units * limit ≤ length w → t ≡ 1 + Expr.size p → At e 0 (5 ∷ cells p) behind → FoundAt w limit level size c
          → Held w₂ limit (t + size) (abs p c)
      held p c small room k a f =
          let q : w₂ ≡ move_cells (copy_cells e 0 t w (unit_at limit result_unit)) (unit_at limit (level_unit level)) size (unit_at limit result_unit + t) =
          e₂ ∙ ap (λ (v : List ℕ). move_cells v from size (to + t)) e₁
          ∙ ap (λ (i : ℕ). move_cells (copy_cells e 0 t w i) from size (i + t)) (pt small)
          ∙ ap (λ (i : ℕ). move_cells (copy_cells e 0 t w (unit_at limit result_unit)) i size (unit_at limit result_unit + t)) (pf small)
          in
          let P = over_placed e t w limit level size p c l room (omega arith) k a f in
          record { fits = λ h. omega (arith, f.sized); large = λ h. omega (arith, f.sized); behind = P.0; at = λ h. rw q P.1 }

  -- no such limit is met
  pub over_unlimited : {code n whole rest : ℕ} → largest_limit < limit → code ≢ 0 → whole ≡ 0 → OverBindingPost e t w limit level found size extent budget w code n whole rest
  over_unlimited h g s = record { frame = λ small. outside_same; spans = spans_none g s; means = λ p small room a k x. absurd (omega arith) }
