-- An argument, from what is found for it.
use mathlib.Core.Path.{◌≡◌, refl}
use mathlib.Core.Logic.{◌⊎◌, inl, inr}
use mathlib.Core.Bool.{Bool, true}
use mathlib.Core.List.{List}
use Prim.Native.Nat.{ℕ, ◌+◌, ◌*◌, ◌/◌, ◌%◌, ◌≤◌}
use native.Mathlib.Omega.{arith}
use lib.ListN.{length, get_or}
use Rattle.aut68.specs.Expr as Expr
use Rattle.aut68.specs.Sizes.{cell_factor, work_units, at_context}
use Rattle.aut68.specs.Procedure.Answer.{and_then}
use Rattle.aut68.specs.Expr.{Expr, Exprs, type, prop, var, bound, const, app, abs, first_cell, count_exprs}
use Rattle.aut68.specs.Lines.{Line, Lines, row_cell}
use Rattle.aut68.specs.Rules.Resolved.{Scoped}
use Rattle.cells.specs.Forests.{at_first, at_inside, cells_long}
use Rattle.cells.specs.Results.{Result, result_map}
use Rattle.cells.specs.Stores.{outside_same}
use Rattle.cells.specs.declared.scope.Scope.{Scope}
use Rattle.heads.specs.Book.{Book}
use Rattle.levels.specs.Places.{Awaits}
use Rattle.levels.specs.Spots.{frames, next_unit, awaits_kept}
use Rattle.levels.specs.ArgumentPosts.{IsStoredPost}
use Rattle.typing.specs.FittingPosts.{StoredFitsPost, ArgumentFitsPost, wanted_fits}
use Rattle.categories.specs.AnyDepth.{category68}
use Rattle.categories.specs.Places.{Expression}
use Rattle.categories.specs.Posts.{CategoryPost}
use Rattle.categories.proofs.Clauses.{came, passes_with, variable_is, alone_is}
use Rattle.categories.proofs.Strings.{ArgumentPost}
use Rattle.categories.proofs.KindLaws.{finds_known, no_sizes}

module _ {tb ts e : List ℕ} {scope : Scope} {w : List ℕ} {limit budget level wanted base count : ℕ} {starts : List ℕ} where
  pub argument_none : {code rest : ℕ} → length e ≡ 0 → ArgumentPost tb ts e scope w limit budget level wanted base count starts w code 0 rest
  argument_none h = record {
    frame = λ small. outside_same;
    within = omega arith;
    means = λ x B room A E. absurd (omega (arith, at_inside x E.at, cells_long x));
  }

  module _ {u : ℕ} {w' : List ℕ} {code rest : ℕ} (F : StoredFitsPost tb ts w limit budget level u wanted base count starts w' code rest) where
    fits_variable : {ls : Lines} {sc : List Expr} {v : ℕ} {l : Line} {earlier : Exprs} (v' : ℕ) → v' ≡ u → Book ls limit tb ts → work_units * limit ≤ length w
        → Awaits ls w limit level (length sc) base count starts wanted v l earlier → Expression ls ts e scope limit (level + 1) sc (var v')
        → Result (λ _. 1 ≡ Expr.size (var v')) code rest (and_then (wanted_fits ls limit l.context earlier wanted) (category68 ls limit sc (var v') budget))
    unfolding Scoped Expr.size
    fits_variable {ls} {sc} v' k B room A E =
        let i = E.known.is_line in
        rw (variable_is ls limit sc budget i) (result_map (λ _ _. refl) (F.means B room A (rw k at i)))

    fits_alone : {ls : Lines} {sc : List Expr} {v : ℕ} {l : Line} {earlier : Exprs} (v' : ℕ) (xs : Exprs) → v' ≡ u → row_cell tb u at_context ≡ 0 → Book ls limit tb ts
        → work_units * limit ≤ length w → Awaits ls w limit level (length sc) base count starts wanted v l earlier → Expression ls ts e scope limit (level + 1) sc (const v' xs)
        → Result (λ _. 1 ≡ Expr.size (const v' xs)) code rest (and_then (wanted_fits ls limit l.context earlier wanted) (category68 ls limit sc (const v' xs) budget))
    unfolding Scoped Expr.size
    fits_alone {ls} {sc} v' xs k z B room A E =
        let i = E.known.0.is_line in
        let z₁ : row_cell tb v' at_context ≡ 0 = rw k z in
        let r = (B.rows.row i).context_is in
        let m : count_exprs xs ≡ 0 = omega (arith, E.known.0.as_many) in
        rw (alone_is ls limit sc budget xs i (omega arith) m) (result_map (λ _ _. omega (arith, no_sizes xs m)) (F.means B room A (rw k at i)))

    pub argument_stored : {x : ℕ} {r : Bool} → 1 ≤ length e → x ≡ get_or e 0 0 → u ≡ x / cell_factor → IsStoredPost tb x r → r ≡ true
        → ArgumentPost tb ts e scope w limit budget level wanted base count starts w' code 1 rest
    unfolding first_cell
    argument_stored {x} m p q I t = record { frame = F.frame; within = m; means = λ y B room A E. go y (I.is t) B room A E }
      where
        odd : (x % cell_factor ≡ 1) ⊎ ((x % cell_factor ≡ 3) × (row_cell tb (x / cell_factor) at_context ≡ 0)) → (x % cell_factor ≤ 3) × (x % 2 ≡ 1)
        odd (inl h) = (omega arith, omega arith)
        odd (inr h) = (omega (arith, h.0), omega (arith, h.0))

        go : {ls : Lines} {sc : List Expr} {v : ℕ} {l : Line} {earlier : Exprs} (y : Expr)
            → (x % cell_factor ≡ 1) ⊎ ((x % cell_factor ≡ 3) × (row_cell tb (x / cell_factor) at_context ≡ 0)) → Book ls limit tb ts → work_units * limit ≤ length w
            → Awaits ls w limit level (length sc) base count starts wanted v l earlier → Expression ls ts e scope limit (level + 1) sc y
            → Result (λ _. 1 ≡ Expr.size y) code rest (and_then (wanted_fits ls limit l.context earlier wanted) (category68 ls limit sc y budget))
        go (var v') h B room A E = fits_variable v' (omega (arith, at_first (var v') E.at)) B room A E
        go (const v' xs) (inl h) B room A E = absurd (omega (arith, at_first (const v' xs) E.at))
        go (const v' xs) (inr h) B room A E = fits_alone v' xs (omega (arith, at_first (const v' xs) E.at)) (rw q h.1) B room A E
        go type h B room A E = absurd (omega (arith, at_first type E.at, odd h))
        go prop h B room A E = absurd (omega (arith, at_first prop E.at, odd h))
        go (bound i) h B room A E = absurd (omega (arith, at_first (bound i) E.at, odd h))
        go (app a b) h B room A E = absurd (omega (arith, at_first (app a b) E.at, odd h))
        go (abs a b) h B room A E = absurd (omega (arith, at_first (abs a b) E.at, odd h))

  pub argument_other : {w₁ w₂ : List ℕ} {found size extent rest₁ code rest : ℕ} → CategoryPost tb ts e scope w limit budget (level + 1) w₁ found size extent rest₁
      → ArgumentFitsPost tb ts w₁ limit found size rest₁ level wanted base count starts w₂ code rest
      → ArgumentPost tb ts e scope w limit budget level wanted base count starts w₂ code extent rest
  argument_other C F = record {
    frame = λ small. frames (omega arith) (C.frame small) (F.frame small);
    within = C.within;
    means = λ {ls} {sc} x B room A E.
        let o = C.frame B.limit in
        let K = finds_known x budget B E ((C.means x).finds B room E) in
        let P = F.means B (omega (arith, o.long)) (awaits_kept o (next_unit limit level) A) K in
        passes_with (λ z. (C.means x).spans B room E (came _ z P K)) P;
  }
