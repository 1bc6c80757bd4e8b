-- What the procedure finds as the category of a known expression is known.
use Rattle.std.specs.Prelude.{◌≡◌, Bool, true, false, List, ◌∷◌, ℕ, suc, ◌≤◌}
use Rattle.std.proofs.Math.Path.{refl, subst}
use Rattle.std.proofs.Common.{sym}
use native.Mathlib.Omega.{arith}
use Rattle.std.proofs.Math.ListN.{length}
use Rattle.aut68.specs.Language.{Language, aut68, aut_qe}
use Rattle.aut68.specs.Procedure.Answer.{Answer, done, stop, Act, Refusal, not_function, refuse, ◌>>=◌}
use Rattle.aut68.specs.Expr.{Expr, type, prop, var, bound, const, app, abs, is_sort, Shape, shape, abstraction, other, over_binding}
use Rattle.aut68.specs.Substitution.{lift, substitute, instantiate}
use Rattle.aut68.specs.Lines.{Lines}
use Rattle.aut68.specs.Procedure.Compare.{compare}
use Rattle.aut68.specs.Procedure.Category.{Search, made, head_form, to_function, second_chance, category_at, category}
use Rattle.aut68.specs.Rules.Resolved.{Scoped, ConstantOf, VariableLine, Known}
use Rattle.lookup.specs.Answers.{Judged, is_done, is_stop, judged_done, judged_map, judged_then}
use Rattle.calculus.specs.Shapes.{shape_abs, false_not_true}
use Rattle.calculus.specs.Scoped.{ScopedScope, ScopedCategory, scoped_category, category_under, category_substitute}
use Rattle.calculus.specs.Resolved.{KnownScope, KnownCategory, ResolvedLines, known_line}
use Rattle.calculus.specs.Known.{known_category_steps, known_wanted}
use Rattle.calculus.specs.Bindings.{over_scoped, bound_scoped}
use Rattle.calculus.specs.Actions.{judged_line, nth_domain, made_judged}
use Rattle.calculus.specs.HeadSearch.{head_reduces, head_form_finds}

-- what holds anyway holds of an answer; a refusal is not looked at
abbrev Any : Refusal → Type 0
Any r = Unit {0}

anyway : {A : Type 0} {P : Type 0} → P → (m : Answer ℕ A) → Judged (λ _. P) Any m
anyway p (done a s) = is_done p
anyway p (stop r s) = is_stop tt

whatever : {A : Type 0} (m : Answer ℕ A) → Judged (λ _. Unit {0}) Any m
whatever m = anyway tt m

-- head steps keep what is known
head_form_known : (ls : Lines) → ResolvedLines ls → (L k : ℕ) (f : Expr) → KnownCategory ls k f → (b : ℕ) → Judged (KnownCategory ls k) Any (head_form ls L f b)
head_form_known ls W L k f w b = judged_map (λ g h. known_category_steps ls W k (head_reduces ls h.heads) w) (λ r x. tt) (head_form_finds ls (Unit {0}) L f b)

-- a category that is neither an abstraction nor `type` or `prop` is a known expression
plain_known : (ls : Lines) (k : ℕ) (f : Expr) → KnownCategory ls k f → shape f ≡ other → is_sort f ≡ false → Known ls k f
unfolding Scoped ScopedCategory shape is_sort
plain_known ls k type w s q = false_not_true (sym q)
plain_known ls k prop w s q = false_not_true (sym q)
plain_known ls k (var v) w s q = w
plain_known ls k (bound i) w s q = w
plain_known ls k (const v xs) w s q = w
plain_known ls k (app a b) w s q = w
plain_known ls k (abs p t) w s q = let z : ◌≡◌ {A = ℕ} 0 1 = cc in absurd (omega arith)

second_known : (language : Language) (ls : Lines) (search : Search) (k d : ℕ) (sc : List Expr) (f : Expr) → KnownCategory ls k f → shape f ≡ other → (b : ℕ)
    → Judged (λ _. Known ls k f) Any (second_chance language search d sc f b)
unfolding second_chance
second_known aut68 ls search k d sc f w s b = is_stop tt
second_known aut_qe ls search k d sc f w s b = go (is_sort f) refl
  where
    go : (t : Bool) → is_sort f ≡ t → Judged (λ _. Known ls k f) Any ((elim t as (λ _. Act ℕ Expr) [ true ↦ refuse not_function | false ↦ search d sc f ]) b)
    go true q = is_stop tt
    go false q = anyway (plain_known ls k f w s q) (search d sc f b)

module _ (language : Language) (ls : Lines) (W : ResolvedLines ls) (L : ℕ) (search : Search) where
  -- a function's body with A put in
  body_known : (k : ℕ) (a f : Expr) {p q : Expr} → Known ls k a → KnownCategory ls k f → shape f ≡ abstraction p q → KnownCategory ls k (substitute a 0 q)
  unfolding ScopedCategory
  body_known k a f {p} {q} w x e =
      let y : KnownCategory ls k (abs p q) = subst (KnownCategory ls k) (shape_abs f e) x in
      category_substitute (VariableLine ls) (ConstantOf ls) k a q w y.1

  -- `<A>B`, once the head form f of B's category is there; `cat` seeks A's
  applied_known : (d : ℕ) (sc : List Expr) (a f : Expr) (cat : Act ℕ Expr) → Known ls (length sc) a → KnownCategory ls (length sc) f → (t : Shape) → shape f ≡ t → (b : ℕ)
      → Judged (KnownCategory ls (length sc)) Any
      ((elim t as (λ _. Act ℕ Expr) [
        | abstraction p q ↦ (do
          found ← cat
          _ ← compare language ls L found p
          made L (substitute a 0 q))
        | other ↦ (do
          g ← second_chance language search d sc f
          h ← to_function ls L g
          found ← cat
          _ ← compare language ls L found h.domain
          made L (app a f))
      ]) b)
  unfolding ScopedCategory
  applied_known d sc a f cat w x (abstraction p q) e b =
      judged_then _ (whatever _) (λ r z. z) (λ _ b₁ _.
      judged_then _ (whatever _) (λ r z. z) (λ _ b₂ _.
      made_judged L (substitute a 0 q) (body_known (length sc) a f w x e) tt b₂))
  applied_known d sc a f cat w x other e b =
      judged_then _ (second_known language ls search (length sc) d sc f x e b) (λ r z. z) (λ g b₁ y.
      judged_then _ (whatever _) (λ r z. z) (λ h b₂ _.
      judged_then _ (whatever _) (λ r z. z) (λ _ b₃ _.
      judged_then _ (whatever _) (λ r z. z) (λ _ b₄ _.
      made_judged L (app a f) (w, y) tt b₄))))

  pub at_known : (d : ℕ) (sc : List Expr) (e : Expr) → Known ls (length sc) e → KnownScope ls sc → (b : ℕ)
      → Judged (KnownCategory ls (length sc)) Any (category_at language ls L search d sc e b)
  unfolding category_at Scoped ScopedScope ScopedCategory
  at_known d sc type w s b = is_stop tt
  at_known d sc prop w s b = is_stop tt
  at_known d sc (var v) w s b =
      let z : 0 ≤ length sc = omega arith in
      judged_then _ (whatever _) (λ r x. x) (λ _ b₁ _.
      judged_line _ b₁ w.is_line
      (made_judged L w.line.category (category_under (VariableLine ls) (ConstantOf ls) z w.line.category (known_line ls W w.is_line)) tt b₁))
  at_known d sc (bound i) w s b =
      judged_then _ (whatever _) (λ r x. x) (λ _ b₁ _.
      judged_then _ (nth_domain Any sc i w b₁) (λ r x. x) (λ p b₂ h.
      made_judged L (lift (suc i) 0 p) (scoped_category (VariableLine ls) (ConstantOf ls) (length sc) (lift (suc i) 0 p) (bound_scoped language ls (VariableLine ls) h s)) tt b₂))
  at_known d sc (const v xs) w s b =
      let l = w.0.line in
      judged_then _ (whatever _) (λ r x. x) (λ _ b₁ _.
      judged_line _ b₁ w.0.is_line
      (judged_then _ (whatever _) (λ r x. x) (λ _ b₂ _.
      made_judged L (instantiate l.context xs 0 l.category) (known_wanted ls W (length sc) l.context xs w.0.is_line w.1) tt b₂)))
  at_known d sc (app a e) w s b =
      judged_then _ (whatever _) (λ r x. x) (λ _ b₁ _.
      judged_then _ (at_known (suc d) sc e w.1 s b₁) (λ r x. x) (λ c b₂ hc.
      judged_then _ (head_form_known ls W L (length sc) c hc b₂) (λ r x. x) (λ f b₃ hf.
      applied_known (suc (suc d)) sc a f (category_at language ls L search (suc d) sc a) w.0 hf (shape f) refl b₃)))
  at_known d sc (abs p t) w s b =
      judged_then _ (whatever _) (λ r x. x) (λ _ b₁ _.
      judged_then _ (whatever _) (λ r x. x) (λ _ b₂ _.
      judged_then _ (whatever _) (λ r x. x) (λ _ b₃ _.
      judged_then _ (at_known (suc d) (p ∷ sc) t w.1 (w.0, s) b₃) (λ r x. x) (λ c b₄ hc.
      made_judged L (over_binding language p c) (over_scoped language ls (VariableLine ls) (length sc) p c w.0 hc) tt b₄))))

-- so is the whole procedure's
pub found_known : (language : Language) (ls : Lines) → ResolvedLines ls → (L d : ℕ) (sc : List Expr) → KnownScope ls sc → (e c : Expr) (b b' : ℕ) → Known ls (length sc) e
    → category language ls L d sc e b ≡ done c b' → KnownCategory ls (length sc) c
unfolding category
found_known language ls W L d sc s e c b b' w q = judged_done (at_known language ls W L _ d sc e w s b) q
