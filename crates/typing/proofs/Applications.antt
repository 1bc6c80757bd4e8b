-- The category of what is applied to an argument.
use mathlib.Core.Path.{◌≡◌, sym, ap, ◌∙◌}
use mathlib.Core.Logic.{◌≢◌, inl}
use mathlib.Core.List.{List}
use Prim.Native.Nat.{ℕ, suc, ◌+◌, ◌*◌, ◌-◌, ◌≤◌, ◌<◌}
use native.Mathlib.Omega.{arith}
use lib.ListN.{length, drop}
use Rattle.aut68.specs.Expr as Expr
use Rattle.aut68.specs.Procedure.Category as Category
use Rattle.aut68.specs.Sizes.{largest_limit, work_units, nesting}
use Rattle.aut68.specs.Language.{aut68}
use Rattle.aut68.specs.Expr.{Expr, abs, size, cells}
use Rattle.aut68.specs.Substitution.{substitute}
use Rattle.aut68.specs.Lines.{Lines}
use Rattle.aut68.specs.Procedure.Compare.{compare}
use Rattle.aut68.specs.Rules.Resolved.{ConstantOf, VariableLine, Known}
use Rattle.calculus.specs.Scoped.{ScopedCategory, scoped_category, category_substitute}
use Rattle.calculus.specs.Resolved.{KnownCategory}
use Rattle.cells.specs.Cells.{At, Outside, copy_cells}
use Rattle.cells.specs.Layout.{levels, unit_at, level_unit, side_unit, scratch_unit, result_unit, unit_below, result_ends}
use Rattle.cells.specs.Forests.{size_is_length, at_inside}
use Rattle.cells.specs.Results.{Result, then_refused, then_passed}
use Rattle.cells.specs.Stores.{outside_same, at_kept, at_before}
use Rattle.cells.specs.CopyLaws.{copy_at, copy_outside}
use Rattle.terms.specs.Made.{Made, SubstitutePost}
use Rattle.heads.specs.Book.{Book, known_wf, category_wf}
use Rattle.reduction.specs.Depths.{substituted_below}
use Rattle.reduction.specs.Frames.{frame_of}
use Rattle.comparison.specs.Posts.{Compares}
use Rattle.levels.specs.Places.{FoundAt, Held}
use Rattle.levels.specs.FoundPosts.{FunctionKnown, MadePost}
use Rattle.levels.specs.Spots.{frames, level_below, level_scratch, level_result}
use Rattle.levels.proofs.Making.{made_held, spans_none}
use Rattle.typing.specs.ApplicationPosts.{AppliedPost, applying}
use Rattle.typing.proofs.Comparing.{found_side}

-- an abstraction's parts are smaller
domain_small : {limit : ℕ} (p q : Expr) → size (abs p q) ≤ limit → size p ≤ limit
unfolding size
domain_small p q h = omega arith

body_small : {limit : ℕ} (p q : Expr) → size (abs p q) ≤ limit → size q ≤ limit
unfolding size
body_small p q h = omega arith

module _ {tb ts w : List ℕ} {limit level domain body : ℕ} where
  pub applied_refused : {e : List ℕ} {b extent found size budget code n whole rest : ℕ} → found ≢ 0 → code ≡ found → whole ≡ 0 → rest ≡ budget
      → AppliedPost tb ts e b extent w limit level domain body found size budget w code n whole rest
  applied_refused n z s q = record {
    frame = λ small. outside_same;
    spans = spans_none (λ y. n (sym z ∙ y)) s;
    means = λ a B room kk ka sa at pb F x. rw (z, q) (then_refused _ n x);
  }

  module _ {found size budget a compared rest₁ : ℕ} {w₁ : List ℕ} (l : level + 1 < levels) (z : found ≡ 0) (pa : limit ≤ largest_limit → a ≡ unit_at limit (level_unit (level + 1)))
      (C : Compares tb ts w limit budget a domain nesting w₁ compared rest₁) where
    compared_with : {ls : Lines} {k : ℕ} {f : Category.Function} → Book ls limit tb ts → work_units * limit ≤ length w → k ≤ nesting → FunctionKnown ls k w limit level domain body f
        → (c : Expr) → FoundAt w limit (level + 1) size c × KnownCategory ls k c → Result (λ _. Unit {0}) compared rest₁ (compare aut68 ls limit c f.domain budget)
    unfolding compare ScopedCategory
    compared_with {ls} {k} {f} B room kk F c x =
        C.means ls k c f.domain B (omega arith) (omega arith) room
        (record {
          left = found_side c l (pa B.limit) x.1 x.0.lies;
          right = record {
            known = scoped_category (VariableLine ls) (ConstantOf ls) k f.domain F.1.0;
            small = domain_small f.domain f.body F.0.small;
            rest = _;
            at =
                at_before {n = unit_at limit (side_unit nesting)}
                (omega (arith, level_below limit {level = level} (omega arith), size_is_length f.domain, F.0.domain_in)) F.0.domain_at;
          };
        })

    pub applied_differs : {e : List ℕ} {b extent n code whole rest : ℕ} → compared ≢ 0 → code ≡ compared → whole ≡ 0 → rest ≡ rest₁
        → AppliedPost tb ts e b extent w limit level domain body found size budget w₁ code n whole rest
    unfolding applying
    applied_differs g u s v = record {
      spans = spans_none (λ y. g (sym u ∙ y)) s;
      frame = λ small. frames (omega (arith, level_below limit {level = level} (omega arith))) outside_same (C.frame small (omega arith));
      means = λ x B room kk ka sa at pb F m. rw (u, v) (then_passed _ z m (λ c f. then_refused _ g (compared_with B room kk F c f)));
    }

    pub applied_made : {e : List ℕ} {b extent scratch to n code n' whole rest : ℕ} {w₂ w₃ w₄ : List ℕ} → compared ≡ 0 → 1 ≤ b → (limit ≤ largest_limit → scratch ≡ unit_at limit scratch_unit)
        → (limit ≤ largest_limit → to ≡ unit_at limit result_unit) → w₂ ≡ copy_cells e 1 (b - 1) w₁ scratch → SubstitutePost tb w₂ w₃ body scratch to limit n
        → MadePost w₃ limit rest₁ level n (b + extent) w₄ code n' whole rest → AppliedPost tb ts e b extent w limit level domain body found size budget w₄ code n' whole rest
    unfolding applying ScopedCategory
    applied_made {e} {b} {extent} {scratch} {to} {n} {code} {n'} {whole} {rest} {w₂} {w₃} {w₄} g h ps pt q S M = record {
      spans = M.spans;
      frame = λ small.
          let U = unit_at limit (level_unit level) in
          let o₁ : Outside U (length w) w w₁ = frame_of (C.frame small (omega arith)) (omega (arith, level_below limit {level = level} (omega arith))) in
          let o₂ : Outside U (length w₁) w₁ w₂ = rw q (frame_of (copy_outside e 1 (b - 1) w₁ scratch) (omega (arith, ps small, level_scratch limit {level = level} (omega arith)))) in
          let o₃ : Outside U (length w₂) w₂ w₃ = frame_of S.confined.outside (omega (arith, pt small, level_result limit {level = level} (omega arith))) in
          frames (omega arith) (frames (omega arith) (frames (omega arith) o₁ o₂) o₃) (M.frame small);
      means = λ {ls} {k} x {f} {m} B room kk ka sa at pb F y.
          then_passed _ z y (λ c d. then_passed _ g (compared_with B room kk F c d) (λ _ _. M.means B.limit (long B room) (held B room kk x ka sa at pb f F)));
    }
      where
        long₁ : limit ≤ largest_limit → length w₁ ≡ length w
        long₁ small = (C.frame small (omega arith)).long

        long₂ : length w₂ ≡ length w₁
        long₂ = rw q (copy_outside e 1 (b - 1) w₁ scratch).long

        long : {ls : Lines} → Book ls limit tb ts → work_units * limit ≤ length w → work_units * limit ≤ length w₃
        long B room = omega (arith, long₁ B.limit, long₂, S.confined.outside.long)

        held : {ls : Lines} {k : ℕ} {behind : List ℕ} → Book ls limit tb ts → work_units * limit ≤ length w → k ≤ nesting → (x : Expr) → Known ls k x → Expr.size x ≤ limit → At e 1 (cells x) behind
            → b ≡ 1 + Expr.size x → (f : Category.Function) → FunctionKnown ls k w limit level domain body f → Held w₃ limit n (substitute x 0 f.body)
        held {ls} {k} B room kk x ka sa at pb f F =
            let small = B.limit in
            let Z = unit_at limit scratch_unit in
            let T = unit_at limit result_unit in
            let lx = size_is_length x in
            let lb = size_is_length f.body in
            let r₁ = long₁ small in
            let kb : b - 1 ≡ length (cells x) = omega arith in
            let c : w₂ ≡ copy_cells e 1 (length (cells x)) w₁ Z =
            q ∙ ap (λ (i : ℕ). copy_cells e 1 i w₁ scratch) kb ∙ ap (copy_cells e 1 (length (cells x)) w₁) (ps small)
            in
            let zt : Z + limit ≤ T = unit_below limit (omega arith) in
            let a₁ : At w₂ Z (cells x) (drop (Z + length (cells x)) w₁) =
            rw c (copy_at e 1 w₁ Z at (omega (arith, at_inside x at)) (omega (arith, result_ends limit)))
            in
            let a₂ = at_before {n = T} (omega arith) a₁ in
            let b₁ = at_kept (C.frame small (omega arith)) (inl (omega (arith, F.0.body_in, level_below limit {level = level} (omega arith)))) F.0.body_at in
            let o : Outside Z (Z + length (cells x)) w₁ w₂ = rw c (copy_outside e 1 (length (cells x)) w₁ Z) in
            let b₂ = at_kept o (inl (omega (arith, F.0.body_in, level_scratch limit {level = level} (omega arith)))) b₁ in
            let b₃ = at_before {n = T} (omega (arith, F.0.body_in, level_result limit {level = level} (omega arith))) b₂ in
            let kq : KnownCategory ls (suc k) f.body = F.1.1 in
            let y : KnownCategory ls k (substitute x 0 f.body) = category_substitute (VariableLine ls) (ConstantOf ls) k x f.body ka kq in
            let v = substituted_below ls B.few k x f.body y (omega arith) (omega arith) (omega (arith, body_small f.domain f.body F.0.small)) in
            let S₁ : SubstitutePost tb w₂ w₃ body Z T limit n = rw (ps small, pt small) at S in
            let m : Made limit (substitute x 0 f.body) n T w₂ w₃ =
            S₁.made f.body x _ _ (omega (arith, result_ends limit, long₂)) (category_wf B.rows (suc k) f.body kq) (known_wf B.rows k x ka) b₃ a₂ v
            in
            made_held (substitute x 0 f.body) (omega (arith, long₂)) small m
