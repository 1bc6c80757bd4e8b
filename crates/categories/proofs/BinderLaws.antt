-- The category of an application and of an abstraction, from what the functions below leave.
use mathlib.Core.Path.{◌≡◌}
use mathlib.Core.Logic.{◌≢◌}
use mathlib.Core.List.{List, ◌∷◌}
use Prim.Native.Nat.{ℕ, ◌+◌, ◌*◌, ◌-◌, ◌≤◌, ◌<◌}
use native.Mathlib.Omega.{arith}
use lib.ListN.{length}
use Rattle.aut68.specs.Expr as Expr
use Rattle.aut68.specs.Sizes.{work_units}
use Rattle.aut68.specs.Language.{aut68}
use Rattle.aut68.specs.Procedure.Answer.{and_then, ensure, not_type}
use Rattle.aut68.specs.Expr.{Expr, app, abs, cells, is_type, over_binding}
use Rattle.aut68.specs.Lines.{Lines}
use Rattle.aut68.specs.Procedure.Category.{made, to_function}
use Rattle.aut68.specs.Rules.Resolved.{Scoped}
use Rattle.cells.specs.Layout.{levels, unit_at, level_unit, unit_below}
use Rattle.cells.specs.Forests.{size_is_length}
use Rattle.cells.specs.Posts.{Skipped, Bound}
use Rattle.cells.specs.Results.{Result, then_refused, then_passed}
use Rattle.cells.specs.declared.scope.Scope.{Scope}
use Rattle.heads.specs.Book.{Book, known_wf}
use Rattle.levels.specs.FoundPosts.{Finds, Passes, FunctionKnown, FoundTypePost}
use Rattle.levels.specs.Spots.{frames, function_kept}
use Rattle.levels.specs.Parts.{application_argument, abstraction_front}
use Rattle.levels.specs.BinderPosts.{FunctionOfPost, OverBindingPost}
use Rattle.typing.specs.ApplicationPosts.{AppliedPost}
use Rattle.categories.specs.AnyDepth.{category68}
use Rattle.categories.specs.Places.{Expression}
use Rattle.categories.specs.Posts.{CategoryPost, ApplicationPost, AbstractionPost}
use Rattle.categories.proofs.Clauses.{came, application_clause, abstraction_clause}
use Rattle.categories.proofs.Within.{part, part_length, skip_one, argument_of, function_in, domain_in_lem, body_in_lem}
use Rattle.categories.proofs.KindLaws.{finds_known}

-- ---- an application

module _ {tb ts e : List ℕ} {scope : Scope} {w : List ℕ} {limit budget level b : ℕ} {w₁ w₂ : List ℕ} {found size extent rest₁ code₂ domain body rest₂ : ℕ} (m : 1 ≤ length e)
    (S : Skipped tb e 1 1 b) (C : CategoryPost tb ts (part e b) scope w limit budget level w₁ found size extent rest₁)
    (F : FunctionOfPost tb ts w₁ limit found size rest₁ level w₂ code₂ domain body rest₂) where
  -- where B begins
  function_start : {ls : Lines} {sc : List Expr} (x y : Expr) → Book ls limit tb ts → Expression ls ts e scope limit level sc (app x y) → b ≡ 1 + length (cells x)
  unfolding Scoped
  function_start {sc = sc} x y B E = skip_one x S (known_wf B.rows (length sc) x E.known.0) (application_argument x y E.at)

  function_found : {ls : Lines} {sc : List Expr} (x y : Expr) → Book ls limit tb ts → work_units * limit ≤ length w → Expression ls ts e scope limit level sc (app x y)
      → Result (FunctionKnown ls (length sc) w₂ limit level domain body) code₂ rest₂ (and_then (to_function ls limit) (category68 ls limit sc y budget))
  function_found x y B room E =
      let Y = function_in x y (function_start x y B E) E in
      F.means B (omega (arith, (C.frame B.limit).long)) E.holds.few (finds_known y budget B Y ((C.means y).finds B room Y))

  function_extent : {ls : Lines} {sc : List Expr} (x y : Expr) → Book ls limit tb ts → work_units * limit ≤ length w → Expression ls ts e scope limit level sc (app x y)
      → code₂ ≡ 0 → extent ≡ Expr.size y
  function_extent x y B room E z =
      let Y = function_in x y (function_start x y B E) E in
      (C.means y).spans B room Y (came _ z (function_found x y B room E) ((C.means y).finds B room Y))

  pub application_refused : {n : ℕ} → code₂ ≢ 0 → ApplicationPost tb ts e scope w limit budget level w₂ code₂ n 0 rest₂
  application_refused g = record {
    frame = λ small. frames (omega arith) (C.frame small) (F.frame small);
    within = omega arith;
    means = λ x y. record {
      finds = λ {ls} {sc} B room E. rw (application_clause ls limit sc budget x y) (then_refused _ g (function_found x y B room E));
      spans = λ B room E z. absurd (g z);
    };
  }

  pub application_made : {w₃ w₄ : List ℕ} {found₃ size₃ extent₃ rest₃ code n whole rest : ℕ} → level + 1 < levels → code₂ ≡ 0
      → CategoryPost tb ts (part e 1) scope w₂ limit rest₂ (level + 1) w₃ found₃ size₃ extent₃ rest₃
      → AppliedPost tb ts e b extent w₃ limit level domain body found₃ size₃ rest₃ w₄ code n whole rest → ApplicationPost tb ts e scope w limit budget level w₄ code n whole rest
  unfolding Scoped Expr.size
  application_made {w₃} {w₄} {found₃} {size₃} {extent₃} {rest₃} {code} {n} {whole} {rest} l z D A = record {
    frame = λ small.
        let up : unit_at limit (level_unit level) ≤ unit_at limit (level_unit (level + 1)) = omega (arith, unit_below limit {j = level_unit level} {k = level_unit (level + 1)} (omega arith)) in
        frames (omega arith) (frames up (frames (omega arith) (C.frame small) (F.frame small)) (D.frame small)) (A.frame small);
    within = omega (arith, A.spans.within, C.within, part_length e b, S.within m);
    means = λ x y. record {
      finds = λ {ls} {sc} B room E.
          let X = argument_of x y E in
          let r₁ = (C.frame B.limit).long in
          let r₂ = (F.frame B.limit).long in
          let r₃ = (D.frame B.limit).long in
          let room₂ : work_units * limit ≤ length w₂ = omega arith in
          let next = unit_below limit {j = level_unit level} {k = level_unit (level + 1)} (omega arith) in
          rw (application_clause ls limit sc budget x y)
          (then_passed _ z (function_found x y B room E) (λ f G.
          A.means x B (omega arith) E.holds.few E.known.0 X.small (application_argument x y E.at)
          (omega (arith, function_start x y B E, size_is_length x)) (function_kept limit level (D.frame B.limit) next G.0, G.1)
          (finds_known x rest₂ B X ((D.means x).finds B room₂ X))));
      spans = λ B room E y'. omega (arith, A.spans.is y', function_start x y B E, size_is_length x, function_extent x y B room E z);
    };
  }

-- ---- an abstraction

module _ {tb ts e : List ℕ} {scope : Scope} {w : List ℕ} {limit budget level : ℕ} {w₁ : List ℕ} {found size extent rest₁ code₂ rest₂ : ℕ}
    (C : CategoryPost tb ts (part e 1) scope w limit budget level w₁ found size extent rest₁) (T : FoundTypePost w₁ limit level found size rest₁ code₂ rest₂) where
  domain_type : {ls : Lines} {sc : List Expr} (p t : Expr) → Book ls limit tb ts → work_units * limit ≤ length w → Expression ls ts e scope limit level sc (abs p t)
      → Passes code₂ rest₂ (and_then (λ k. ensure (is_type k) not_type) (category68 ls limit sc p budget))
  domain_type p t B room E = T.means B.limit ((C.means p).finds B room (domain_in_lem p t E))

  domain_extent : {ls : Lines} {sc : List Expr} (p t : Expr) → Book ls limit tb ts → work_units * limit ≤ length w → Expression ls ts e scope limit level sc (abs p t)
      → code₂ ≡ 0 → extent ≡ Expr.size p
  domain_extent p t B room E z =
      let X = domain_in_lem p t E in
      (C.means p).spans B room X (came _ z (domain_type p t B room E) ((C.means p).finds B room X))

  pub abstraction_refused : {n : ℕ} → code₂ ≢ 0 → AbstractionPost tb ts e scope w limit budget level w₁ code₂ n 0 rest₂
  abstraction_refused g = record {
    frame = C.frame;
    within = omega arith;
    means = λ p t. record {
      finds = λ {ls} {sc} B room E. rw (abstraction_clause ls limit sc budget p t) (then_refused _ g (domain_type p t B room E));
      spans = λ B room E z. absurd (g z);
    };
  }

  pub abstraction_made : {i start : ℕ} {inner : Scope} {w₂ w₃ : List ℕ} {found₂ size₂ extent₂ rest₃ code n whole rest : ℕ} → 1 ≤ length e → code₂ ≡ 0 → i ≡ extent + 1 → start ≡ length ts - length e + 1 → Bound scope start extent inner
      → CategoryPost tb ts (part e i) inner w₁ limit rest₂ level w₂ found₂ size₂ extent₂ rest₃
      → OverBindingPost e i w₂ limit level found₂ size₂ extent₂ rest₃ w₃ code n whole rest → AbstractionPost tb ts e scope w limit budget level w₃ code n whole rest
  unfolding Scoped Expr.size
  abstraction_made {i} {start} {inner} {w₂} {w₃} {found₂} {size₂} {extent₂} {rest₃} {code} {n} {whole} {rest} m z q s Y D O = record {
    frame = λ small. frames (omega arith) (frames (omega arith) (C.frame small) (D.frame small)) (O.frame small);
    within = omega (arith, O.spans.within, D.within, part_length e i, C.within, part_length e 1);
    means = λ p t. record {
      finds = λ {ls} {sc} B room E.
          rw (abstraction_clause ls limit sc budget p t)
          (then_passed _ z (domain_type p t B room E) (λ _ _. over p t B room E));
      spans = λ {ls} {sc} B room E y.
          let X = inside p t B room E in
          let g = came _ y (over p t B room E) ((D.means t).finds B (long₁ B room) X) in
          omega (arith, O.spans.is y, domain_extent p t B room E z, (D.means t).spans B (long₁ B room) X g);
    };
  }
    where
      long₁ : {ls : Lines} → Book ls limit tb ts → work_units * limit ≤ length w → work_units * limit ≤ length w₁
      long₁ B room = omega (arith, (C.frame B.limit).long)

      inside : {ls : Lines} {sc : List Expr} (p t : Expr) → Book ls limit tb ts → work_units * limit ≤ length w → Expression ls ts e scope limit level sc (abs p t)
          → Expression ls ts (part e i) inner limit level (p ∷ sc) t
      inside p t B room E =
          let x = domain_extent p t B room E z in
          body_in_lem p t B.limit (omega (arith, size_is_length p)) s x Y E

      over : {ls : Lines} {sc : List Expr} (p t : Expr) → Book ls limit tb ts → work_units * limit ≤ length w → Expression ls ts e scope limit level sc (abs p t)
          → Finds w₃ limit level code n rest (and_then (λ c. made limit (over_binding aut68 p c)) (category68 ls limit (p ∷ sc) t rest₂))
      over p t B room E =
          let r₂ = (D.frame B.limit).long in
          O.means p B.limit (omega (arith, long₁ B room)) (abstraction_front p t E.at) (omega (arith, domain_extent p t B room E z))
          ((D.means t).finds B (long₁ B room) (inside p t B room E))
