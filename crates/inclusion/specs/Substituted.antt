-- The substitution lemma: bound and context variables replaced, all at once, by expressions whose categories serve.
use Rattle.std.specs.Prelude.{◌≡◌, Bool, List, ◌∷◌, ℕ, zero, suc, ◌<◌, length}
use Rattle.std.proofs.Math.Path.{refl, sym}
use Rattle.std.proofs.Common.{ap, ◌∙◌, arith}
use Rattle.std.proofs.Math.Bool.{true, false}
use Rattle.aut68.specs.Language.{Language, aut68, aut_qe, Extended}
use Rattle.aut68.specs.Expr.{Expr, Exprs, type, prop, var, bound, const, app, abs, nil, cons, snoc, is_type, over_binding}
use Rattle.aut68.specs.Substitution.{lift, substitute, instantiate}
use Rattle.aut68.specs.Lines.{Line, Lines}
use Rattle.aut68.specs.Rules.Names.{IsLine, Context}
use Rattle.aut68.specs.Rules.Steps.{Reduces, Equal}
use Rattle.aut68.specs.Rules.Serving.{Supertype, Serves, IsType, the_type, a_supertype}
use Rattle.aut68.specs.Rules.Categories.{DomainAt, innermost, outside}
use Rattle.aut68.specs.Rules.Resolved.{Scoped, AllScoped, VariableOf, ConstantOf, Resolved, VariableLine, Known}
use Rattle.calculus.specs.Renaming.{up, sub, subs, raise, sub_lift}
use Rattle.calculus.specs.Equality.{equal_path}
use Rattle.calculus.specs.Scoped.{ScopedScope, ScopedCategory, scoped_category, scoped_ren, scoped_sub, category_sub}
use Rattle.calculus.specs.Resolved.{AllResolved, resolved_known, AllKnown, KnownScope, KnownCategory, ResolvedLines, lines_closed}
use Rattle.lookup.specs.Contexts.{RightContexts}
use Rattle.inclusion.specs.Endings.{ends_sub}
use Rattle.inclusion.specs.Serves.{path_serves, serves_trans, serves_then_equal}
use Rattle.calculus.specs.Known.{constant_count, known_category_steps, known_wanted}
use Rattle.inclusion.specs.Liberal.{Liberal, by_variable, by_bound, by_constant, by_application, by_equal, by_abstraction, Fits, none_fits, more_fits, known_liberal}
use Rattle.inclusion.specs.Agreeing.{raise_lift, raise_once, sub_substitute, subs_snoc}
use Rattle.inclusion.specs.Weakening.{ren_closed, line_closed}
use Rattle.inclusion.specs.Prefixes.{Placed, placed_first, placed_next, covered_category, covered_wanted, sub_covered}
use Rattle.inclusion.specs.SubstitutedSteps.{reduces_sub_category, equal_sub, serves_sub}
use Rattle.inclusion.specs.Keeping.{Kept, kept_path, kept_raise, kept_app, kept_second, kept_abs}

-- σ for the bound variables of the scope sc and θ for the variables of the context ctx, all in the context ctx' and the scope sc'
pub record Replaces (language : Language) (ls : Lines) (ctx ctx' : List ℕ) (sc sc' : List Expr) (σ θ : ℕ → Expr) : Type 0 where
  pub bounds : {p : Expr} {i : ℕ} → DomainAt p sc i → Kept language ls ctx' sc' (σ i) (sub σ θ (lift (suc i) 0 p))
  pub variables : {v : ℕ} {l : Line} → VariableOf ls ctx v → IsLine ls v l → Kept language ls ctx' sc' (θ v) (sub σ θ l.category)
  pub resolved_bounds : (i : ℕ) → i < length sc → Resolved ls ctx' (length sc') (σ i)
  pub resolved_variables : (v : ℕ) → VariableOf ls ctx v → Resolved ls ctx' (length sc') (θ v)
  pub known_variables : (v : ℕ) → VariableLine ls v → Known ls (length sc') (θ v)
  pub known_scope : KnownScope ls sc'

pub all_snoc : (X : ℕ → Type 0) (C : ℕ → ℕ → Type 0) (k : ℕ) (xs : Exprs) (a : Expr) → AllScoped X C k xs → Scoped X C k a → AllScoped X C k (snoc xs a)
unfolding Scoped snoc
all_snoc X C k nil a w x = (x, tt)
all_snoc X C k (cons b xs) a w x = (w.0, all_snoc X C k xs a w.1 x)

known_raise : (ls : Lines) (k : ℕ) (e : Expr) → Known ls k e → Known ls (suc k) (raise e)
known_raise ls k e w = scoped_ren (VariableLine ls) (ConstantOf ls) suc {k = k} {k' = suc k} (λ j m. omega arith) e w

resolved_raise : (ls : Lines) (ctx : List ℕ) (k : ℕ) (e : Expr) → Resolved ls ctx k e → Resolved ls ctx (suc k) (raise e)
resolved_raise ls ctx k e w = scoped_ren (VariableOf ls ctx) (ConstantOf ls) suc {k = k} {k' = suc k} (λ j m. omega arith) e w

module _ (language : Language) (ls : Lines) (W : ResolvedLines ls) (ctx ctx' : List ℕ) where
  bounds_known : {sc sc' : List Expr} {σ θ : ℕ → Expr} → Replaces language ls ctx ctx' sc sc' σ θ → (i : ℕ) → i < length sc → Known ls (length sc') (σ i)
  bounds_known {sc' = sc'} {σ = σ} R i l = resolved_known ls ctx' (length sc') (σ i) (R.resolved_bounds i l)

  pub sub_known : {sc sc' : List Expr} {σ θ : ℕ → Expr} → Replaces language ls ctx ctx' sc sc' σ θ → (e : Expr) → Known ls (length sc) e → Known ls (length sc') (sub σ θ e)
  sub_known {sc} {sc'} {σ} {θ} R e w = scoped_sub _ _ _ σ θ (length sc) (length sc') (bounds_known R) R.known_variables e w

  pub sub_resolved : {sc sc' : List Expr} {σ θ : ℕ → Expr} → Replaces language ls ctx ctx' sc sc' σ θ → (e : Expr) → Resolved ls ctx (length sc) e → Resolved ls ctx' (length sc') (sub σ θ e)
  sub_resolved {sc} {sc'} {σ} {θ} R e w = scoped_sub _ _ _ σ θ (length sc) (length sc') R.resolved_bounds R.resolved_variables e w

  -- under one more binding
  replaces_under : {sc sc' : List Expr} {σ θ : ℕ → Expr} (p : Expr) → Replaces language ls ctx ctx' sc sc' σ θ → Known ls (length sc) p
      → Replaces language ls ctx ctx' (p ∷ sc) (sub σ θ p ∷ sc') (up σ) (λ v. raise (θ v))
  unfolding up Scoped ScopedScope
  replaces_under {sc} {sc'} {σ} {θ} p R w =
      record {
        bounds = λ d. at_bound d;
        variables = λ u i. at_variable u i;
        resolved_bounds = known;
        resolved_variables = λ v h. resolved_raise ls ctx' (length sc') (θ v) (R.resolved_variables v h);
        known_variables = λ v h. known_raise ls (length sc') (θ v) (R.known_variables v h);
        known_scope = (sub_known R p w, R.known_scope);
      }
    where
      deeper : (e : Expr) → raise (sub σ θ e) ≡ sub (up σ) (λ v. raise (θ v)) (raise e)
      deeper e = sym (sub_lift σ θ e)

      at_bound : {q : Expr} {i : ℕ} → DomainAt q (p ∷ sc) i → Kept language ls ctx' (sub σ θ p ∷ sc') (up σ i) (sub (up σ) (λ v. raise (θ v)) (lift (suc i) 0 q))
      at_bound innermost =
          record {
            found = lift 1 0 (sub σ θ p);
            has = by_bound innermost refl;
            serves = path_serves language ls (sym (raise_once (sub σ θ p)) ∙ deeper p ∙ ap (sub (up σ) (λ v. raise (θ v))) (raise_once p));
          }
      at_bound {q} (outside {i = i} d) =
          kept_path language ls W ctx' (kept_raise language ls W ctx' (sub σ θ p) (R.bounds d))
          (deeper (lift (suc i) 0 q) ∙ ap (sub (up σ) (λ v. raise (θ v))) (raise_lift (suc i) q))

      at_variable : {v : ℕ} {l : Line} → VariableOf ls ctx v → IsLine ls v l → Kept language ls ctx' (sub σ θ p ∷ sc') (raise (θ v)) (sub (up σ) (λ v. raise (θ v)) l.category)
      at_variable {l = l} u i =
          kept_path language ls W ctx' (kept_raise language ls W ctx' (sub σ θ p) (R.variables u i))
          (deeper l.category ∙ ap (sub (up σ) (λ v. raise (θ v))) (ren_closed suc l.category (line_closed ls W i)))

      known : (i : ℕ) → i < suc (length sc) → Resolved ls ctx' (suc (length sc')) (up σ i)
      known zero h = omega arith
      known (suc i) h = resolved_raise ls ctx' (length sc') (σ i) (R.resolved_bounds i (omega arith))

  app_sub : (σ θ : ℕ → Expr) {sc sc' : List Expr} {a b c k p q : Expr} → Kept language ls ctx' sc' (sub σ θ b) (sub σ θ c) → Liberal language ls ctx sc b c → Reduces ls c (abs p q)
      → Kept language ls ctx' sc' (sub σ θ a) (sub σ θ k) → Liberal language ls ctx sc a k → Serves language ls k p → Known ls (length sc) a → Known ls (length sc) b → KnownScope ls sc
      → Kept language ls ctx' sc' (app (sub σ θ a) (sub σ θ b)) (sub σ θ (substitute a 0 q))
  unfolding sub ScopedCategory
  app_sub σ θ {sc} {sc'} {a} {b} {c} {k} {p} {q} kb hb red ka ha e wa wb s =
      let w : KnownCategory ls (length sc) c = known_liberal language ls ctx W hb wb s in
      let wf : KnownCategory ls (length sc) (abs p q) = known_category_steps ls W (length sc) red w in
      kept_path language ls W ctx'
      (kept_app language ls W ctx' kb (reduces_sub_category ls W red σ θ (length sc) w) ka
      (serves_sub ls W e σ θ (length sc) (known_liberal language ls ctx W ha wa s) (scoped_category (VariableLine ls) (ConstantOf ls) (length sc) p wf.0)))
      (sym (sub_substitute σ θ a q))

  second_sub : (σ θ : ℕ → Expr) {sc sc' : List Expr} {a b c f d k p q : Expr} → Extended language → Replaces language ls ctx ctx' sc sc' σ θ
      → Kept language ls ctx' sc' (sub σ θ b) (sub σ θ c) → Liberal language ls ctx sc b c → Equal ls c f → Resolved ls ctx (length sc) f
      → Kept language ls ctx' sc' (sub σ θ f) (sub σ θ d) → Liberal language ls ctx sc f d → Supertype d → Reduces ls d (abs p q)
      → Kept language ls ctx' sc' (sub σ θ a) (sub σ θ k) → Liberal language ls ctx sc a k → Serves language ls k p → Known ls (length sc) a → Known ls (length sc) b → KnownScope ls sc
      → Kept language ls ctx' sc' (app (sub σ θ a) (sub σ θ b)) (app (sub σ θ a) (sub σ θ f))
  unfolding sub ScopedCategory
  second_sub σ θ {sc} {sc'} {a} {b} {c} {f} {d} {k} {p} {q} x R kb hb e rf kf hf y red ka ha g wa wb s =
      let wf : Known ls (length sc) f = resolved_known ls ctx (length sc) f rf in
      let w : KnownCategory ls (length sc) d = known_liberal language ls ctx W hf wf s in
      let wr : KnownCategory ls (length sc) (abs p q) = known_category_steps ls W (length sc) red w in
      kept_second language ls W ctx' x kb (equal_sub ls W e σ θ (length sc) (known_liberal language ls ctx W hb wb s) (scoped_category (VariableLine ls) (ConstantOf ls) (length sc) f wf))
      (sub_resolved R f rf) kf (record { sort = y.sort; is_basic = y.is_basic; ends = ends_sub σ θ y.is_basic y.ends }) (reduces_sub_category ls W red σ θ (length sc) w) ka
      (serves_sub ls W g σ θ (length sc) (known_liberal language ls ctx W ha wa s) (scoped_category (VariableLine ls) (ConstantOf ls) (length sc) p wr.0))
      R.known_scope

  -- no expression is `type`
  is_type_known : (k : ℕ) (e : Expr) → Known ls k e → is_type e ≡ false
  unfolding is_type Scoped
  is_type_known k type w = absurd w
  is_type_known k prop w = refl
  is_type_known k (var v) w = refl
  is_type_known k (bound i) w = refl
  is_type_known k (const v xs) w = refl
  is_type_known k (app a b) w = refl
  is_type_known k (abs p t) w = refl

  is_type_sub : {sc sc' : List Expr} {σ θ : ℕ → Expr} → Replaces language ls ctx ctx' sc sc' σ θ → (c : Expr) → KnownCategory ls (length sc) c → is_type (sub σ θ c) ≡ is_type c
  unfolding is_type sub ScopedCategory
  is_type_sub R type w = refl
  is_type_sub R prop w = refl
  is_type_sub {sc' = sc'} {θ = θ} R (var v) w = is_type_known (length sc') (θ v) (R.known_variables v w)
  is_type_sub {sc' = sc'} {σ = σ} R (bound i) w = is_type_known (length sc') (σ i) (bounds_known R i w)
  is_type_sub R (const v xs) w = refl
  is_type_sub R (app a b) w = refl
  is_type_sub R (abs p t) w = refl

  over_sub : (σ θ : ℕ → Expr) (p c : Expr) → is_type (sub (up σ) (λ v. raise (θ v)) c) ≡ is_type c
      → sub σ θ (over_binding language p c) ≡ over_binding language (sub σ θ p) (sub (up σ) (λ v. raise (θ v)) c)
  unfolding over_binding sub
  over_sub σ θ p c q = go language
    where
      at : (t : Bool) → sub σ θ (elim t [ true ↦ type | false ↦ abs p c ]) ≡ elim t as (λ _. Expr) [ true ↦ type | false ↦ abs (sub σ θ p) (sub (up σ) (λ v. raise (θ v)) c) ]
      at true = refl
      at false = refl

      go : (language : Language) → sub σ θ (over_binding language p c) ≡ over_binding language (sub σ θ p) (sub (up σ) (λ v. raise (θ v)) c)
      go aut68 = at (is_type c) ∙ ap (λ t. elim t as (λ _. Expr) [ true ↦ type | false ↦ abs (sub σ θ p) (sub (up σ) (λ v. raise (θ v)) c) ]) (sym q)
      go aut_qe = refl

  pub is_type_put : {k : Expr} (σ θ : ℕ → Expr) → IsType language k → IsType language (sub σ θ k)
  unfolding sub
  is_type_put σ θ the_type = the_type
  is_type_put σ θ (a_supertype x h) = a_supertype x (record { sort = h.sort; is_basic = h.is_basic; ends = ends_sub σ θ h.is_basic h.ends })

  pub sub_category : {sc sc' : List Expr} {σ θ : ℕ → Expr} → Replaces language ls ctx ctx' sc sc' σ θ → (e : Expr) → KnownCategory ls (length sc) e → KnownCategory ls (length sc') (sub σ θ e)
  sub_category {sc} {sc'} {σ} {θ} R e w = category_sub (VariableLine ls) (ConstantOf ls) (VariableLine ls) σ θ (length sc) (length sc') (bounds_known R) R.known_variables e w

  abs_sub : (σ θ : ℕ → Expr) {sc sc' : List Expr} {p t k c : Expr} → Replaces language ls ctx ctx' sc sc' σ θ → Replaces language ls ctx ctx' (p ∷ sc) (sub σ θ p ∷ sc') (up σ) (λ v. raise (θ v))
      → Kept language ls ctx' sc' (sub σ θ p) (sub σ θ k) → IsType language k
      → Kept language ls ctx' (sub σ θ p ∷ sc') (sub (up σ) (λ v. raise (θ v)) t) (sub (up σ) (λ v. raise (θ v)) c)
      → Liberal language ls ctx (p ∷ sc) t c → Known ls (length sc) p → Known ls (suc (length sc)) t → KnownScope ls sc
      → Kept language ls ctx' sc' (abs (sub σ θ p) (sub (up σ) (λ v. raise (θ v)) t)) (sub σ θ (over_binding language p c))
  unfolding Scoped ScopedScope
  abs_sub σ θ {sc} {sc'} {p} {t} {k} {c} R R' kp ip kt ht wp wt s =
      let wc : KnownCategory ls (suc (length sc)) c = known_liberal language ls ctx W ht wt (wp, s) in
      kept_path language ls W ctx'
      (kept_abs language ls W ctx' kp (is_type_put σ θ ip) kt (sub_known R p wp) (sub_known R' t wt) (sub_category R' c wc) R.known_scope)
      (sym (over_sub σ θ p c (is_type_sub R' c wc)))

  module _ (contexts : RightContexts ls) where
    known_of : (k : ℕ) (e : Expr) → Resolved ls ctx k e → Known ls k e
    known_of k e w = resolved_known ls ctx k e w

    fit_one : (σ θ : ℕ → Expr) {sc sc' : List Expr} {w : ℕ} {context vs : List ℕ} {v : ℕ} {l : Line} {earlier ys : Exprs} {a k : Expr}
        → Context ls w context → Placed context (v ∷ vs) earlier → AllKnown ls (length sc) earlier → KnownScope ls sc → Known ls (length sc) a
        → IsLine ls v l → Liberal language ls ctx sc a k → Kept language ls ctx' sc' (sub σ θ a) (sub σ θ k) → Serves language ls k (instantiate context earlier 0 l.category)
        → Fits language ls ctx' sc' context vs (subs σ θ (snoc earlier a)) ys
        → Fits language ls ctx' sc' context (v ∷ vs) (subs σ θ earlier) (cons (sub σ θ a) ys)
    fit_one σ θ {sc} {context = context} {l = l} {earlier = earlier} {a = a} C P we s wa i hk kk e f =
        more_fits i kk.has
        (serves_trans language ls (lines_closed ls W) kk.serves
        (serves_then_equal language ls (lines_closed ls W)
        (serves_sub ls W e σ θ (length sc) (known_liberal language ls ctx W hk wa s) (known_wanted ls W (length sc) context earlier i we))
        (equal_path ls (sub_covered ls W σ θ context earlier l.category (covered_wanted ls W contexts C P i)))))
        (rw (subs_snoc σ θ earlier a) at f)

    mutual
      unfolding sub Scoped ScopedScope

      pub liberal_sub : {sc : List Expr} {e c : Expr} → Liberal language ls ctx sc e c → (sc' : List Expr) (σ θ : ℕ → Expr) → Replaces language ls ctx ctx' sc sc' σ θ
          → Resolved ls ctx (length sc) e → KnownScope ls sc → Kept language ls ctx' sc' (sub σ θ e) (sub σ θ c)
      liberal_sub (by_variable i q) sc' σ θ R w s = kept_path language ls W ctx' (R.variables w i) (ap (sub σ θ) (sym q))
      liberal_sub (by_bound d q) sc' σ θ R w s = kept_path language ls W ctx' (R.bounds d) (ap (sub σ θ) (sym q))
      liberal_sub (by_constant {l = l} {xs = xs} i f q) sc' σ θ R w s =
          record {
            found = instantiate l.context (subs σ θ xs) 0 l.category;
            has = by_constant i (fits_sub f sc' σ θ R w.1 s l.indicator (contexts _ _ i) (placed_first l.context) tt) refl;
            serves = path_serves language ls (sym (ap (sub σ θ) q ∙ sub_covered ls W σ θ l.context xs l.category (covered_category ls W xs i (constant_count ls W w.0 i))));
          }
      liberal_sub {sc} (by_application {a = a} {b = b} hb red ha e r) sc' σ θ R w s =
          kept_path language ls W ctx'
          (app_sub σ θ (liberal_sub hb sc' σ θ R w.1 s) hb red (liberal_sub ha sc' σ θ R w.0 s) ha e (known_of (length sc) a w.0) (known_of (length sc) b w.1) s)
          (ap (sub σ θ) (sym r))
      liberal_sub {sc} (by_equal {a = a} {b = b} x hb e wf hf y red ha g r) sc' σ θ R w s =
          kept_path language ls W ctx'
          (second_sub σ θ x R (liberal_sub hb sc' σ θ R w.1 s) hb e wf (liberal_sub hf sc' σ θ R wf s) hf y red (liberal_sub ha sc' σ θ R w.0 s) ha g
          (known_of (length sc) a w.0) (known_of (length sc) b w.1) s)
          (ap (sub σ θ) (sym r))
      liberal_sub {sc} (by_abstraction {p = p} {t = t} hp ip ht r) sc' σ θ R w s =
          let wp = known_of (length sc) p w.0 in
          let R' = replaces_under p R wp in
          kept_path language ls W ctx'
          (abs_sub σ θ R R' (liberal_sub hp sc' σ θ R w.0 s) ip (liberal_sub ht (sub σ θ p ∷ sc') (up σ) (λ v. raise (θ v)) R' w.1 (wp, s))
          ht wp (known_of (suc (length sc)) t w.1) s)
          (ap (sub σ θ) (sym r))

      pub fits_sub : {sc : List Expr} {context vs : List ℕ} {earlier xs : Exprs} → Fits language ls ctx sc context vs earlier xs → (sc' : List Expr) (σ θ : ℕ → Expr)
          → Replaces language ls ctx ctx' sc sc' σ θ
          → AllResolved ls ctx (length sc) xs → KnownScope ls sc → (w : ℕ) → Context ls w context → Placed context vs earlier → AllKnown ls (length sc) earlier
          → Fits language ls ctx' sc' context vs (subs σ θ earlier) (subs σ θ xs)
      fits_sub none_fits sc' σ θ R x s w C P we = none_fits
      fits_sub {sc} (more_fits {earlier = earlier} {a = a} i hk e f) sc' σ θ R x s w C P we =
          let wa = known_of (length sc) a x.0 in
          fit_one σ θ C P we s wa i hk (liberal_sub hk sc' σ θ R x.0 s) e
          (fits_sub f sc' σ θ R x.1 s w C (placed_next a P) (all_snoc (VariableLine ls) (ConstantOf ls) (length sc) earlier a we wa))
