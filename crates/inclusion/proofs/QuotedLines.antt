-- The lines of a correct book of AUT-68: each middle and each category is correct in its line's context, after all lines, and
-- whatever steps a reader takes in it keep it so.
use Rattle.std.specs.Prelude.{◌≡◌, ◌⊎◌, ◌↔◌, ℕ}
use Rattle.std.proofs.Common.{inl, inr}
use mathlib.Core.List.{[]}
use Rattle.aut68.specs.Language.{aut68}
use Rattle.aut68.specs.Expr.{Expr, type}
use Rattle.aut68.specs.Lines.{Line, Lines, abbreviation}
use Rattle.aut68.specs.Rules.Names.{IsLine}
use Rattle.aut68.specs.Rules.Steps.{Reduces}
use Rattle.aut68.specs.Rules.Resolved.{Resolved, VariableOf, ConstantOf}
use Rattle.aut68.specs.Rules.CorrectExpressions.{CorrectAs, no_bindings}
use Rattle.aut68.specs.Demands.{CorrectLike}
use Rattle.calculus.specs.Equality.{equal_trans}
use Rattle.calculus.specs.Resolved.{ResolvedLines, lines_closed, known_line}
use Rattle.calculus.specs.Scoped.{ScopedScope, scoped_ends}
use Rattle.inclusion.specs.Serves.{serves_68}
use Rattle.inclusion.specs.Unique.{equal_types}
use Rattle.inclusion.specs.HeadKept.{RightMiddle}
use Rattle.inclusion.specs.Validity.{Valid}
use Rattle.inclusion.specs.Books.{Built, Right, built_right}
use Rattle.inclusion.proofs.StaysInside.{strict_68, Plain, PlainLines, sorted_type, known_as, steps_stay}

module _ {ls : Lines} (B : Built aut68 ls) {v : ℕ} {l : Line} (i : IsLine ls v l) where
  R : Right aut68 ls
  R = built_right B

  W : ResolvedLines ls
  W = R.resolved_lines

  pub quoted_middle : {m e : Expr} → l.kind ≡ abbreviation m → Reduces ls m e → CorrectLike ls l.context [] e l.category
  quoted_middle {m} {e} q r =
      let M : RightMiddle aut68 ls l m = R.lines.middles v l m i q in
      let h : CorrectAs aut68 ls l.context [] m M.found = record { resolved = (W.at i).middle m q; has_category = strict_68 ls l.context M.has } in
      let K = steps_stay B no_bindings h r in
      let T : (M.found ≡ type) ↔ (l.category ≡ type) = equal_types ls W 0 M.found l.category (known_as W no_bindings h) (known_line ls W i) (serves_68 ls M.serves) in
      record {
        correct = K.correct;
        equal = λ d x. equal_trans ls (lines_closed ls W) (K.equal d x) (serves_68 ls M.serves);
        type_too = λ d x. ((λ p. T.0 ((K.type_too d x).0 p)), (λ p. (K.type_too d x).1 (T.1 p)));
      }

  pub quoted_category : PlainLines ls → {e : Expr} → Reduces ls l.category e → (l.category ≡ type) ⊎ CorrectLike ls l.context [] e type
  unfolding ScopedScope
  quoted_category P {e} r = go (P v l i)
    where
      at : Resolved ls l.context 0 l.category → Valid aut68 ls l.context [] l.category → CorrectAs aut68 ls l.context [] l.category type
      at w (inl y) = absurd (scoped_ends (VariableOf ls l.context) (ConstantOf ls) 0 l.category y.is_basic y.ends w)
      at w (inr Z) = sorted_type ls W R.contexts P l.context (R.contexts v l i) Z w tt

      go : Plain ls l.context 0 l.category → (l.category ≡ type) ⊎ CorrectLike ls l.context [] e type
      go (inl q) = inl q
      go (inr w) = inr (steps_stay B no_bindings (at w (R.lines.written v l i)) r)
