-- The category on a line, and that of a bound variable.
use mathlib.Core.Path.{◌≡◌, refl, sym, ap, ◌∙◌}
use mathlib.Core.Logic.{◌≢◌}
use mathlib.Core.List.{List}
use Prim.Native.Nat.{ℕ, suc, ◌+◌, ◌*◌, ◌-◌, ◌≤◌, ◌<◌}
use native.Mathlib.Omega.{arith}
use native.Mathlib.Numerals.{add-one}
use lib.ListN.{length, get_or, take, drop}
use Rattle.aut68.specs.Sizes.{largest_limit, work_units, nesting, at_category, at_end}
use Rattle.aut68.specs.Expr.{Expr, cells}
use Rattle.aut68.specs.Substitution.{lift}
use Rattle.aut68.specs.Lines.{Lines, row_cell}
use Rattle.aut68.specs.Rules.Categories.{DomainAt, innermost, outside}
use Rattle.aut68.specs.Rules.Resolved.{ConstantOf, VariableLine, Known}
use Rattle.aut68.specs.Procedure.Category.{made}
use Rattle.calculus.specs.Scoped.{ScopedScope, scoped_lift, scoped_category}
use Rattle.calculus.specs.Resolved.{KnownScope}
use Rattle.cells.specs.Cells.{At, Outside, copy_cells}
use Rattle.cells.specs.Layout.{levels, unit_at, level_unit, scratch_unit, result_unit, unit_below, unit_inside, result_ends}
use Rattle.cells.specs.Forests.{size_is_length, at_inside}
use Rattle.cells.specs.Stores.{outside_same, at_before}
use Rattle.cells.specs.CopyLaws.{copy_at, copy_outside}
use Rattle.cells.specs.declared.scope.Scope.{Scope}
use Rattle.terms.specs.Made.{Made, RaisePost}
use Rattle.heads.specs.Book.{Book, known_wf}
use Rattle.reduction.specs.Depths.{lifted_below}
use Rattle.reduction.specs.Frames.{frame_of}
use Rattle.levels.specs.Places.{ScopeHolds}
use Rattle.levels.specs.FoundPosts.{Finds, MadePost}
use Rattle.levels.specs.LeafPosts.{StoredPost, BoundPost}
use Rattle.levels.specs.Parts.{domain_inside}
use Rattle.levels.specs.Spots.{frames, level_scratch, level_result, copied_found}
use Rattle.levels.proofs.Making.{made_passed, made_held, spans_none, spans_all}

-- ---- the category on a line

module _ {tb ts w : List ℕ} {limit budget level v from end : ℕ} (pf : from ≡ row_cell tb v at_category) (pe : end ≡ row_cell tb v at_end) where
  -- the row is no line's
  pub stored_none : {code n extent rest : ℕ} → ((x : ℕ) → end ≡ from + x → x ≤ limit → ⊥) → code ≢ 0 → extent ≡ 0
      → StoredPost tb ts w limit budget level v w code n extent rest
  stored_none wrong g x = record {
    frame = λ small. outside_same;
    spans = spans_none g x;
    means = λ {ls} {l} B room i.
        let C = B.stored.cells_of i in
        absurd (wrong (length (cells l.category))
        (pe ∙ C.category_ends ∙ ap (λ (k : ℕ). k + length (cells l.category)) (sym pf)) (omega (arith, B.category_size i, size_is_length l.category)));
  }

  pub stored_found : {n to : ℕ} {w' : List ℕ} → level < levels → from ≤ end → n ≡ end - from → (limit ≤ largest_limit → to ≡ unit_at limit (level_unit level)) → w' ≡ copy_cells ts from n w to
      → StoredPost tb ts w limit budget level v w' 0 n 1 budget
  stored_found {n} {to} h le q pt e = record {
    frame = λ small. rw e (frame_of (copy_outside ts from n w to) (omega (arith, pt small)));
    spans = spans_all refl;
    means = λ {ls} {l} B room i.
        let C = B.stored.cells_of i in
        made_passed l.category (B.category_size i) refl refl
        (copied_found w l.category (rw (sym pf) at C.category_at) h (B.category_size i) room
        (omega (arith, C.category_ends, size_is_length l.category)) (pt B.limit) e);
  }

-- ---- a bound variable

known_domain : (ls : Lines) {p : Expr} {sc : List Expr} {i : ℕ} → DomainAt p sc i → KnownScope ls sc → (k : ℕ) × Known ls k p × (k + suc i ≤ length sc)
unfolding ScopedScope
known_domain ls (innermost {sc = sc}) w = (length sc, w.0, omega arith)
known_domain ls (outside d) w = let (k, x, l) = known_domain ls d w.1 in (k, x, omega arith)

module _ {tb ts : List ℕ} {scope : Scope} {w : List ℕ} {limit budget level v : ℕ} where
  pub bound_none : {code n extent rest : ℕ} → (v < scope.bound → scope.bound ≤ nesting → ⊥) → code ≢ 0 → extent ≡ 0
      → BoundPost tb ts scope w limit budget level v w code n extent rest
  bound_none wrong g x = record {
    frame = λ small. outside_same;
    spans = spans_none g x;
    means = λ B room H K d. absurd (wrong (omega (arith, H.counted, domain_inside d)) (omega (arith, H.counted, H.few)));
  }

  pub bound_found : {i scratch to n code size extent rest : ℕ} {w₁ w₂ w₃ : List ℕ} → level < levels → v < scope.bound → i ≡ scope.bound - 1 - v
      → (limit ≤ largest_limit → scratch ≡ unit_at limit scratch_unit) → (limit ≤ largest_limit → to ≡ unit_at limit result_unit)
      → w₁ ≡ copy_cells ts (get_or scope.starts i 0) (get_or scope.lens i 0) w scratch → RaisePost tb w₁ w₂ scratch (v + 1) to limit n
      → MadePost w₂ limit budget level n 1 w₃ code size extent rest → BoundPost tb ts scope w limit budget level v w₃ code size extent rest
  bound_found {i} {scratch} {to} {n} {code} {size = size'} {extent} {rest} {w₁} {w₂} {w₃} l h q ps pt e R M = record {
    spans = M.spans;
    frame = λ small.
        let U = unit_at limit (level_unit level) in
        let o₁ : Outside U (length w) w w₁ = rw e (frame_of (copy_outside ts (get_or scope.starts i 0) (get_or scope.lens i 0) w scratch) (omega (arith, ps small, level_scratch limit l))) in
        let o₂ : Outside U (length w₁) w₁ w₂ = frame_of R.confined.outside (omega (arith, pt small, level_result limit l)) in
        frames (omega arith) (frames (omega arith) o₁ o₂) (M.frame small);
    means = λ {ls} {sc} {p} B room H K d. there B room H K p d;
  }
    where
      there : {ls : Lines} {sc : List Expr} → Book ls limit tb ts → work_units * limit ≤ length w → ScopeHolds ts limit scope sc → KnownScope ls sc → (p : Expr) → DomainAt p sc v
          → Finds w₃ limit level code size' rest (made limit (lift (suc v) 0 p) budget)
      there {ls} {sc} B room H K p d =
          let D = H.domain d in
          let j : length sc - suc v ≡ i = omega (arith, H.counted) in
          let len : get_or scope.lens i 0 ≡ length (cells p) = ap (λ (x : ℕ). get_or scope.lens x 0) (sym j) ∙ D.sized ∙ size_is_length p in
          let S = unit_at limit scratch_unit in
          let c : w₁ ≡ copy_cells ts (get_or scope.starts i 0) (length (cells p)) w S =
          e ∙ ap (λ (x : ℕ). copy_cells ts (get_or scope.starts i 0) x w scratch) len ∙ ap (copy_cells ts (get_or scope.starts i 0) (length (cells p)) w) (ps B.limit)
          in
          let a : At ts (get_or scope.starts i 0) (cells p) D.behind = rw j at D.at in
          let o : length w₁ ≡ length w = rw e (copy_outside ts (get_or scope.starts i 0) (get_or scope.lens i 0) w scratch).long in
          let a₁ : At w₁ S (cells p) (drop (S + length (cells p)) w) =
          rw c (copy_at ts (get_or scope.starts i 0) w S a (omega (arith, at_inside p a)) (omega (arith, unit_inside limit {k = scratch_unit} (omega arith), D.small, size_is_length p)))
          in
          let (k, x, m) = known_domain ls d K in
          let y : Known ls (k + suc v) (lift (suc v) 0 p) = scoped_lift (VariableLine ls) (ConstantOf ls) (suc v) 0 k p x in
          let b = lifted_below ls B.few (k + suc v) (suc v) p
          (scoped_category (VariableLine ls) (ConstantOf ls) (k + suc v) (lift (suc v) 0 p) y) (omega (arith, H.few)) (omega (arith, D.small, B.limit)) in
          let T = unit_at limit result_unit in
          let a₂ : At (take T w₁) S (cells p) (drop (S + length (cells p)) (take T w₁)) =
          at_before {n = T} (omega (arith, unit_below limit {j = scratch_unit} {k = result_unit} (omega arith), D.small, size_is_length p)) a₁
          in
          let R₁ : RaisePost tb w₁ w₂ S (suc v) T limit n = rw (ps B.limit, pt B.limit, add-one v) at R in
          let g : Made limit (lift (suc v) 0 p) n T w₁ w₂ = R₁.made p _ (omega (arith, result_ends limit)) (known_wf B.rows k p x) a₂ b in
          let r : length w₂ ≡ length w₁ = R.confined.outside.long in
          M.means B.limit (omega arith) (made_held (lift (suc v) 0 p) (omega arith) B.limit g)
