-- The function that a category reaches.
use mathlib.Core.Path.{◌≡◌, sym, ap, ◌∙◌}
use mathlib.Core.Logic.{◌≢◌}
use mathlib.Core.List.{List}
use Prim.Native.Nat.{ℕ, ◌+◌, ◌≤◌, ◌<◌}
use native.Mathlib.Omega.{arith}
use Rattle.aut68.specs.Expr as Expr
use Rattle.aut68.specs.Procedure.Category as Category
use Rattle.aut68.specs.Sizes.{largest_limit}
use Rattle.aut68.specs.Lines.{Lines}
use Rattle.cells.specs.Layout.{levels, unit_at, level_unit}
use Rattle.cells.specs.Forests.{size_is_length}
use Rattle.cells.specs.Results.{then_refused, then_passed, result_map}
use Rattle.cells.specs.Stores.{outside_same}
use Rattle.reduction.specs.Frames.{framed_frame}
use Rattle.reduction.specs.FunctionPosts.{FunctionAt, FunctionPost}
use Rattle.reduction.specs.declared.functions.Function.{Function}
use Rattle.levels.specs.FoundPosts.{FunctionKnown}
use Rattle.levels.specs.Parts.{abstraction_domain, abstraction_body}
use Rattle.levels.specs.Spots.{level_scratch}
use Rattle.levels.specs.BinderPosts.{FunctionOfPost}

module _ {ls : Lines} {limit k level at : ℕ} {w' : List ℕ} {r : Function} where
  function_known : at ≡ unit_at limit (level_unit level) → (f : Category.Function) → FunctionAt ls limit k at w' r f → FunctionKnown ls k w' limit level r.domain r.body f
  unfolding Expr.size
  function_known e f x = (
    record {
      small = x.small;
      domain_in = omega (arith, x.small, x.domain_at);
      body_in = omega (arith, x.small, x.body_at);
      behind_domain = _;
      domain_at = rw (sym x.domain_at) at (abstraction_domain f.domain f.body x.lies.at);
      behind_body = _;
      body_at = rw (sym (x.body_at ∙ ap (λ (i : ℕ). at + 1 + i) (size_is_length f.domain))) at (abstraction_body f.domain f.body x.lies.at);
    },
    x.known,
  )

module _ {tb ts w : List ℕ} {limit found size budget level : ℕ} where
  pub function_refused : {domain body : ℕ} → found ≢ 0 → FunctionOfPost tb ts w limit found size budget level w found domain body budget
  function_refused n = record { frame = λ small. outside_same; means = λ B room kk x. then_refused _ n x }

  pub function_found : {w' : List ℕ} {at code : ℕ} {r : Function} {rest : ℕ} → level < levels → found ≡ 0 → (limit ≤ largest_limit → at ≡ unit_at limit (level_unit level))
      → FunctionPost tb ts w w' limit budget at size code r rest → FunctionOfPost tb ts w limit found size budget level w' code r.domain r.body rest
  function_found {w'} {at} {code} {r} l z p F = record {
    frame = λ small. framed_frame F.framed (omega (arith, p small)) (omega (arith, level_scratch limit l));
    means = λ {ls} {k} B room kk x. then_passed _ z x (λ c f.
        let e = p B.limit in
        result_map (function_known e)
        (F.is room B k c f.1 (omega arith) f.0.lies.small f.0.sized (omega (arith, level_scratch limit l)) (rw (sym e) at f.0.lies.at)));
  }
