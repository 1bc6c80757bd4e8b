-- The head step whose kind is told by a number.
use Prim.Native.Nat.{ℕ}
use mathlib.Core.Path.{◌≡◌, sym, subst, ◌∙◌}
use mathlib.Core.List.{List}
use Rattle.std.specs.Prelude.{Option}
use Rattle.aut68.specs.Expr.{Expr}
use Rattle.aut68.specs.Lines.{Lines}
use Rattle.heads.specs.Heads.{HeadIs, no_head, contraction, unfolding_of}
use Rattle.heads.specs.Posts.{kind_of, line_of}
use Rattle.heads.specs.declared.heads.HeadStep.{HeadStep}
use Rattle.reduction.specs.declared.numbered.NumberedHead.{NumberedHead}
use Rattle.reduction.specs.Posts.{StepPost}
use Rattle.reduction.specs.Numbered.{NumberedStepPost}

module _ (s : HeadStep) {kind line : ℕ} (kind-is : kind_of s ≡ kind) (line-is : kind ≡ 2 → line_of s ≡ line) where
  -- the line is that of an unfolding
  head_told : {ls : Lines} {start at kept : ℕ} {e : Expr} → HeadIs ls start kind at kept line e → HeadIs ls start (kind_of s) at kept (line_of s) e
  head_told (no_head q o) = no_head q (kind-is ∙ o)
  head_told (contraction fs a p t q i o d f) = contraction fs a p t q i (kind-is ∙ o) d f
  head_told {ls} {start} {at} {kept} {e} (unfolding_of fs xs l m q j g i o d f) =
      subst (λ (v : ℕ). HeadIs ls start (kind_of s) at kept v e) (sym (line-is o)) (unfolding_of fs xs l m q j g i (kind-is ∙ o) d f)

-- a step of that kind, of that line
pub step_told : {tb ts w w' : List ℕ} {limit : ℕ} {h : NumberedHead} {r : Option ℕ} (s : HeadStep) → kind_of s ≡ h.kind → (h.kind ≡ 2 → line_of s ≡ h.line)
    → StepPost tb ts w w' limit (record { at = h.at; kept = h.kept; step = s }) r → NumberedStepPost tb ts w w' limit h r
step_told s k l S = record {
  framed = S.framed;
  refused = S.refused;
  within = S.within;
  made = λ long B n e K z small a u H _. S.made long B n e K z small a u (head_told s k l H);
}
