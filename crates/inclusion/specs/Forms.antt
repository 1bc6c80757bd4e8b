-- The small actions inside the search for a category.
use Rattle.std.specs.Prelude.{◌≡◌, refl, ◌⊎◌, Bool, true, false, ◌||◌, ℕ, suc, ltb}
use Rattle.std.proofs.Common.{subst, sym, ◌∙◌, inl, inr}
use Rattle.std.proofs.Math.Option.{none}
use Rattle.aut68.specs.Language.{Language, aut68, aut_qe, extended}
use Rattle.aut68.specs.Sizes.{nesting}
use Rattle.aut68.specs.Procedure.Answer.{ensure, Refusal, not_type, too_large}
use Rattle.aut68.specs.Expr.{Expr, type, prop, abs, is_type, ends_in_type, ends_in_prop, Shape, shape, abstraction, other}
use Rattle.aut68.specs.Lines.{Lines}
use Rattle.aut68.specs.Rules.Steps.{Reduces, Equal}
use Rattle.aut68.specs.Rules.Serving.{Basic, a_type, a_prop, Ends, IsType, the_type, a_supertype}
use Rattle.aut68.specs.Rules.Categories.{HeadReduces}
use Rattle.aut68.specs.Rules.Categories
use Rattle.aut68.specs.Procedure.HeadStep.{head_step, left}
use Rattle.aut68.specs.Procedure.Category.{Function, parts, to_function, serves_as_type, opens}
use Rattle.lookup.specs.Answers.{Judged, is_done, is_stop, Finding, no_function, large, judged_then}
use Rattle.calculus.specs.Star.{Star}
use Rattle.calculus.specs.Equality.{abs_steps, equal_after}
use Rattle.calculus.specs.Shapes.{shape_abs, false_not_true}
use Rattle.calculus.specs.HeadForms.{Neutral, head_none, shape_other, normal_neutral, never_abs, hneutral, neutral_not_abs}
use Rattle.calculus.specs.HeadFirst.{HeadsTo, head_to}
use Rattle.calculus.specs.Resolved.{ResolvedLines, lines_closed}
use Rattle.calculus.specs.Actions.{is_type_true}
use Rattle.calculus.specs.HeadSearch.{head_reduces, Ended, is_function, is_other, head_form_finds}
use Rattle.inclusion.specs.Comparing.{type_ends, prop_ends, ends_type, ends_prop}

pub opens_judged : (language : Language) (X : Type 0) (d b : ℕ) → Judged (λ _. Unit {0}) (Finding X) (opens language d b)
unfolding opens ensure
opens_judged aut68 X d b = is_done tt
opens_judged aut_qe X d b = go (ltb d (suc nesting))
  where
    go : (t : Bool) → Judged (λ _. Unit {0}) (Finding X) (ensure t too_large b)
    go true = is_done tt
    go false = is_stop large

-- ---- a domain's category

or_true : (s t : Bool) → (s || t) ≡ true → (s ≡ true) ⊎ (t ≡ true)
or_true true t q = inl refl
or_true false t q = inr q

or_left : (s t : Bool) → s ≡ true → (s || t) ≡ true
or_left true t q = refl
or_left false t q = false_not_true q

or_right : (s t : Bool) → t ≡ true → (s || t) ≡ true
or_right true t q = refl
or_right false t q = q

pub is_type_lem : (language : Language) (k : Expr) → serves_as_type language k ≡ true → IsType language k
unfolding serves_as_type
is_type_lem aut68 k q = subst (IsType aut68) (sym (is_type_true k q)) the_type
is_type_lem aut_qe k q = go (or_true (ends_in_type k) (ends_in_prop k) q)
  where
    go : (ends_in_type k ≡ true) ⊎ (ends_in_prop k ≡ true) → IsType aut_qe k
    go (inl e) = a_supertype extended (record { sort = type; is_basic = a_type; ends = type_ends k e })
    go (inr e) = a_supertype extended (record { sort = prop; is_basic = a_prop; ends = prop_ends k e })

pub type_is : (language : Language) {k : Expr} → IsType language k → serves_as_type language k ≡ true
unfolding serves_as_type is_type ends_in_type
type_is aut68 the_type = refl
type_is aut_qe the_type = or_left (ends_in_type type) (ends_in_prop type) refl
type_is aut_qe {k} (a_supertype x h) = go h.is_basic h.ends
  where
    go : {s : Expr} → Basic s → Ends s k → (ends_in_type k || ends_in_prop k) ≡ true
    go a_type e = or_left (ends_in_type k) (ends_in_prop k) (ends_type e)
    go a_prop e = or_right (ends_in_type k) (ends_in_prop k) (ends_prop e)
type_is aut68 (a_supertype x h) = elim x [ ]

pub ensure_type : {R : Refusal → Type 0} (language : Language) (k : Expr) → (¬ IsType language k → R not_type) → (b : ℕ)
    → Judged (λ _. IsType language k) R (ensure (serves_as_type language k) not_type b)
unfolding ensure
ensure_type {R} language k h b = go (serves_as_type language k) refl
  where
    go : (t : Bool) → serves_as_type language k ≡ t → Judged (λ _. IsType language k) R (ensure t not_type b)
    go true q = is_done (is_type_lem language k q)
    go false q = is_stop (h (λ x. false_not_true (sym q ∙ type_is language x)))

-- ---- head forms

module _ (ls : Lines) where
  pub heads_to : {a b : Expr} → HeadReduces ls a b → HeadsTo ls a b
  heads_to Categories.done = Star.done
  heads_to (Categories.step {a} {b} q h) = Star.more (head_to ls a b q) (heads_to h)

  pub ended_neutral : {f : Expr} → shape f ≡ other → left (head_step ls f) ≡ none → Neutral ls f
  ended_neutral {f} o n = normal_neutral ls (head_none ls f n) (shape_other f o)

  -- a neutral expression equals no abstraction
  pub neutral_apart : {f p q : Expr} → Neutral ls f → ¬ Equal ls f (abs p q)
  neutral_apart {f} n e =
      let (p', q', z, u, v) = abs_steps ls e.from_right in
      never_abs ls (hneutral n) (neutral_not_abs ls n) (subst (λ z. Reduces ls f z) z e.from_left)

  module _ (W : ResolvedLines ls) where
    -- the parts of the abstraction that is reached; or it equals none
    pub to_function_finds : (L : ℕ) (f : Expr) (b : ℕ)
        → Judged (λ (g : Function). HeadReduces ls f (abs g.domain g.body)) (Finding ((p q : Expr) → ¬ Equal ls f (abs p q))) (to_function ls L f b)
    unfolding to_function parts
    to_function_finds L f b = judged_then _ (head_form_finds ls _ L f b) (λ r x. x) (λ g b' h. at g b' h.heads h.ended (shape g) refl)
      where
        at : (g : Expr) (b' : ℕ) → HeadReduces ls f g → Ended ls g → (s : Shape) → shape g ≡ s
            → Judged (λ (g : Function). HeadReduces ls f (abs g.domain g.body)) (Finding ((p q : Expr) → ¬ Equal ls f (abs p q))) (parts s b')
        at g b' h e (abstraction p q) i = is_done (subst (λ z. HeadReduces ls f z) (shape_abs g i) h)
        at g b' h (is_function j) other i = absurd (other_not (sym j ∙ i))
          where
            is : Shape → Type 0
            is (abstraction p t) = Unit {0}
            is other = ⊥

            other_not : {p t : Expr} → abstraction p t ≡ other → ⊥
            other_not e = subst is e tt
        at g b' h (is_other o n) other i =
            is_stop (no_function (λ p q e. neutral_apart (ended_neutral o n) (equal_after ls (lines_closed ls W) (head_reduces ls h) e)))
