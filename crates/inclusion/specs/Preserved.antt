-- A step keeps the category, up to serving: what is reached has a category that serves for the earlier one.
use Rattle.std.specs.Prelude.{◌≡◌, refl, Bool, true, false, List, ◌∷◌, ℕ, suc, length}
use Rattle.std.proofs.Common.{sym, ◌∙◌, subst}
use Rattle.aut68.specs.Language.{Language, aut68, aut_qe, Extended, extended}
use Rattle.aut68.specs.Expr.{Expr, Exprs, type, const, app, abs, cons, snoc, is_type, over_binding}
use Rattle.aut68.specs.Substitution.{substitute, instantiate}
use Rattle.aut68.specs.Lines.{Lines}
use Rattle.aut68.specs.Rules.Steps.{Step, StepIn, beta, delta, in_arguments, in_a, in_b, in_domain, in_body, in_first, in_rest, Reduces, done, step, Equal}
use Rattle.aut68.specs.Rules.Serving.{Supertype, Serves}
use Rattle.aut68.specs.Rules.Resolved.{Scoped, Resolved, Known}
use Rattle.lookup.specs.Contexts.{RightContexts}
use Rattle.calculus.specs.Reductions.{steps_one}
use Rattle.calculus.specs.Equality.{Equals, equal_none, equal_more, equal_refl, equal_sym, equal_trans, equal_path, equal_step, equal_app, equal_abs, equal_substitute, equal_instantiate, equals_refl}
use Rattle.calculus.specs.Scoped.{ScopedScope}
use Rattle.calculus.specs.Resolved.{KnownScope, AllResolved, ResolvedLines, lines_closed, resolved_known}
use Rattle.inclusion.specs.Serves.{equal_serves, serves_trans, serves_then_equal}
use Rattle.inclusion.specs.Liberal.{Liberal, by_constant, by_application, by_equal, by_abstraction, Fits, none_fits, more_fits, known_liberal}
use Rattle.inclusion.specs.Unique.{app_reached}
use Rattle.inclusion.specs.Keeping.{Kept, kept_same, kept_serves, kept_equal, kept_path, kept_app, kept_second, kept_abs}
use Rattle.inclusion.specs.Replacing.{liberal_substitute, liberal_domain}
use Rattle.inclusion.specs.HeadKept.{RightMiddles, keep_function, keep_delta, domains_agree, resolved_steps}

-- one argument further, on both sides
equals_snoc : (ls : Lines) {xs ys : Exprs} {a b : Expr} → Equals ls xs ys → Equal ls a b → Equals ls (snoc xs a) (snoc ys b)
unfolding snoc
equals_snoc ls equal_none e = equal_more e equal_none
equals_snoc ls (equal_more h k) e = equal_more h (equals_snoc ls k e)

step_in_equals : (ls : Lines) {xs ys : Exprs} → StepIn ls xs ys → Equals ls xs ys
step_in_equals ls (in_first {xs = xs} s) = equal_more (equal_step ls s) (equals_refl ls xs)
step_in_equals ls (in_rest {a = a} s) = equal_more (equal_refl ls a) (step_in_equals ls s)

over_extended : {language : Language} → Extended language → (p c : Expr) → over_binding language p c ≡ abs p c
unfolding over_binding
over_extended extended p c = refl

over_domain : (language : Language) (ls : Lines) {p p' : Expr} (c : Expr) → Equal ls p p' → Equal ls (over_binding language p c) (over_binding language p' c)
unfolding over_binding
over_domain aut68 ls {p} {p'} c e = go (is_type c)
  where
    go : (t : Bool) → Equal ls (elim t as (λ _. Expr) [ true ↦ type | false ↦ abs p c ]) (elim t as (λ _. Expr) [ true ↦ type | false ↦ abs p' c ])
    go true = equal_refl ls type
    go false = equal_abs ls e (equal_refl ls c)
over_domain aut_qe ls c e = equal_abs ls e (equal_refl ls c)

module _ (language : Language) (ls : Lines) (W : ResolvedLines ls) (contexts : RightContexts ls) (right : RightMiddles language ls) (ctx : List ℕ) where
  -- ---- contraction

  keep_second : {sc : List Expr} {a p t c f d k p' q' : Expr} → Extended language → Liberal language ls ctx sc (abs p t) c → Equal ls c f → Resolved ls ctx (length sc) f
      → Liberal language ls ctx sc f d → Supertype d → Reduces ls d (abs p' q')
      → Liberal language ls ctx sc a k → Serves language ls k p' → Resolved ls ctx (length sc) a → Known ls (length sc) p → Resolved ls ctx (suc (length sc)) t → KnownScope ls sc
      → Kept language ls ctx sc (substitute a 0 t) (app a f)
  keep_second {sc} {a} {f = f} x (by_abstraction {p = p} {c = c} hp ip ht r) e wf hf y rd ha m wa wp wt s =
      let closed = lines_closed ls W in
      let same = r ∙ over_extended x p c in
      let ef : Equal ls f (abs p c) = equal_sym ls (subst (λ z. Equal ls z f) same e) in
      let ep = domains_agree language ls W contexts right ctx hf y rd ef wf s in
      kept_equal language ls W ctx (liberal_substitute language ls W contexts ctx ha (serves_then_equal language ls closed m (equal_sym ls ep)) ht wa wp wt s)
      (equal_trans ls closed (app_reached ls W done) (equal_app ls (equal_refl ls a) (equal_sym ls ef)))

  keep_beta : {sc : List Expr} {a p t r : Expr} → Liberal language ls ctx sc (app a (abs p t)) r → Resolved ls ctx (length sc) (app a (abs p t)) → KnownScope ls sc
      → Kept language ls ctx sc (substitute a 0 t) r
  unfolding Scoped
  keep_beta {sc} {p = p} (by_application hb red ha e q) w s =
      kept_path language ls W ctx (keep_function language ls W contexts right ctx hb red ha e w.0 (resolved_known ls ctx (length sc) p w.1.0) w.1.1 s) (sym q)
  keep_beta {sc} {p = p} (by_equal x hb e wf hf y rd ha m q) w s =
      kept_path language ls W ctx (keep_second x hb e wf hf y rd ha m w.0 (resolved_known ls ctx (length sc) p w.1.0) w.1.1 s) (sym q)

  -- ---- inside arguments

  fits_equals : {sc : List Expr} {context vs : List ℕ} {earlier earlier' xs : Exprs} → Fits language ls ctx sc context vs earlier xs → Equals ls earlier earlier'
      → Fits language ls ctx sc context vs earlier' xs
  fits_equals none_fits h = none_fits
  fits_equals (more_fits {context = context} {l = l} {a = a} i k e f) h =
      more_fits i k (serves_then_equal language ls (lines_closed ls W) e (equal_instantiate ls (lines_closed ls W) context 0 l.category h))
      (fits_equals f (equals_snoc ls h (equal_refl ls a)))

  fits_first : {sc : List Expr} {context vs : List ℕ} {earlier xs : Exprs} {a a' : Expr} → Fits language ls ctx sc context vs earlier (cons a xs) → Equal ls a a'
      → ((k : Expr) → Liberal language ls ctx sc a k → Kept language ls ctx sc a' k) → Fits language ls ctx sc context vs earlier (cons a' xs)
  fits_first (more_fits {earlier = earlier} {k = k} i h e f) q g =
      more_fits i (g k h).has (serves_trans language ls (lines_closed ls W) (g k h).serves e) (fits_equals f (equals_snoc ls (equals_refl ls earlier) q))

  fits_rest : {sc : List Expr} {context vs : List ℕ} {earlier xs ys : Exprs} {a : Expr} → Fits language ls ctx sc context vs earlier (cons a xs)
      → ((context vs : List ℕ) (earlier : Exprs) → Fits language ls ctx sc context vs earlier xs → Fits language ls ctx sc context vs earlier ys)
      → Fits language ls ctx sc context vs earlier (cons a ys)
  fits_rest (more_fits i h e f) g = more_fits i h e (g _ _ _ f)

  keep_arguments : {sc : List Expr} {v : ℕ} {xs ys : Exprs} {r : Expr} → Liberal language ls ctx sc (const v xs) r → Equals ls xs ys
      → ((context vs : List ℕ) (earlier : Exprs) → Fits language ls ctx sc context vs earlier xs → Fits language ls ctx sc context vs earlier ys) → Kept language ls ctx sc (const v ys) r
  keep_arguments {ys = ys} (by_constant {l = l} i f q) h g =
      record {
        found = instantiate l.context ys 0 l.category;
        has = by_constant i (g _ _ _ f) refl;
        serves =
            equal_serves language ls
            (equal_trans ls (lines_closed ls W) (equal_sym ls (equal_instantiate ls (lines_closed ls W) l.context 0 l.category h)) (equal_path ls (sym q)));
      }

  -- ---- inside applications and abstractions

  keep_a : {sc : List Expr} {a a' b r : Expr} → Liberal language ls ctx sc (app a b) r → Equal ls a a' → ((k : Expr) → Liberal language ls ctx sc a k → Kept language ls ctx sc a' k)
      → KnownScope ls sc → Kept language ls ctx sc (app a' b) r
  keep_a (by_application {k = k} {q = q} hb red ha e i) x g s =
      kept_equal language ls W ctx (kept_app language ls W ctx (kept_same language ls W ctx hb) red (g k ha) e)
      (equal_trans ls (lines_closed ls W) (equal_substitute ls (lines_closed ls W) 0 (equal_sym ls x) (equal_refl ls q)) (equal_path ls (sym i)))
  keep_a (by_equal {f = f} {k = k} z hb e wf hf y rd ha m i) x g s =
      kept_equal language ls W ctx (kept_second language ls W ctx z (kept_same language ls W ctx hb) e wf (kept_same language ls W ctx hf) y rd (g k ha) m s)
      (equal_trans ls (lines_closed ls W) (equal_app ls (equal_sym ls x) (equal_refl ls f)) (equal_path ls (sym i)))

  keep_b : {sc : List Expr} {a b b' r : Expr} → Liberal language ls ctx sc (app a b) r → ((c : Expr) → Liberal language ls ctx sc b c → Kept language ls ctx sc b' c) → KnownScope ls sc
      → Kept language ls ctx sc (app a b') r
  keep_b (by_application {c = c} hb red ha e i) g s = kept_path language ls W ctx (kept_app language ls W ctx (g c hb) red (kept_same language ls W ctx ha) e) (sym i)
  keep_b (by_equal {c = c} z hb e wf hf y rd ha m i) g s =
      kept_path language ls W ctx (kept_second language ls W ctx z (g c hb) e wf (kept_same language ls W ctx hf) y rd (kept_same language ls W ctx ha) m s) (sym i)

  keep_domain : {sc : List Expr} {p p' t c : Expr} → Liberal language ls ctx sc (abs p t) c → Equal ls p p' → ((k : Expr) → Liberal language ls ctx sc p k → Kept language ls ctx sc p' k)
      → Known ls (length sc) p → Known ls (length sc) p' → Resolved ls ctx (suc (length sc)) t → KnownScope ls sc → Kept language ls ctx sc (abs p' t) c
  unfolding ScopedScope
  keep_domain {sc} {p} {p'} {t} (by_abstraction {k = k} {c = c} hp ip ht i) e g wp wp' wt s =
      let kt = resolved_known ls ctx (suc (length sc)) t wt in
      kept_equal language ls W ctx
      (kept_abs language ls W ctx (g k hp) ip (liberal_domain language ls W contexts ctx (equal_sym ls e) ht wp wp' wt s) wp' kt (known_liberal language ls ctx W ht kt (wp, s)) s)
      (equal_trans ls (lines_closed ls W) (over_domain language ls c (equal_sym ls e)) (equal_path ls (sym i)))

  keep_body : {sc : List Expr} {p t t' c : Expr} → Liberal language ls ctx sc (abs p t) c → ((k : Expr) → Liberal language ls ctx (p ∷ sc) t k → Kept language ls ctx (p ∷ sc) t' k)
      → Known ls (length sc) p → Known ls (suc (length sc)) t → Known ls (suc (length sc)) t' → KnownScope ls sc → Kept language ls ctx sc (abs p t') c
  unfolding ScopedScope
  keep_body (by_abstraction {c = c} hp ip ht i) g wp wt wt' s =
      kept_path language ls W ctx (kept_abs language ls W ctx (kept_same language ls W ctx hp) ip (g c ht) wp wt' (known_liberal language ls ctx W ht wt (wp, s)) s) (sym i)

  -- ---- one step

  known_of : (k : ℕ) (e : Expr) → Resolved ls ctx k e → Known ls k e
  known_of k e w = resolved_known ls ctx k e w

  after : (k : ℕ) {e e' : Expr} → Step ls e e' → Resolved ls ctx k e → Resolved ls ctx k e'
  after k s w = resolved_steps language ls W contexts right ctx k (steps_one ls s) w

  mutual
    unfolding Scoped ScopedScope

    pub step_kept : {e e' : Expr} → Step ls e e' → (sc : List Expr) (c : Expr) → Liberal language ls ctx sc e c → Resolved ls ctx (length sc) e → KnownScope ls sc → Kept language ls ctx sc e' c
    step_kept (beta q) sc c h w s = subst (λ z. Kept language ls ctx sc z c) (sym q) (keep_beta h w s)
    step_kept (delta i k q) sc c h w s = subst (λ z. Kept language ls ctx sc z c) (sym q) (keep_delta language ls W contexts right ctx h i k w s)
    step_kept (in_arguments x) sc c h w s = keep_arguments h (step_in_equals ls x) (λ context vs earlier f. fits_kept x sc context vs earlier f w.1 s)
    step_kept (in_a x) sc c h w s = keep_a h (equal_step ls x) (λ k g. step_kept x sc k g w.0 s) s
    step_kept (in_b x) sc c h w s = keep_b h (λ k g. step_kept x sc k g w.1 s) s
    step_kept (in_domain {p = p} {p' = p'} x) sc c h w s =
        keep_domain h (equal_step ls x) (λ k g. step_kept x sc k g w.0 s) (known_of (length sc) p w.0) (known_of (length sc) p' (after (length sc) x w.0)) w.1 s
    step_kept (in_body {p = p} {t = t} {t' = t'} x) sc c h w s =
        let kp = known_of (length sc) p w.0 in
        keep_body h (λ k g. step_kept x (p ∷ sc) k g w.1 (kp, s)) kp (known_of (suc (length sc)) t w.1) (known_of (suc (length sc)) t' (after (suc (length sc)) x w.1)) s

    fits_kept : {xs ys : Exprs} → StepIn ls xs ys → (sc : List Expr) (context vs : List ℕ) (earlier : Exprs) → Fits language ls ctx sc context vs earlier xs
        → AllResolved ls ctx (length sc) xs → KnownScope ls sc
        → Fits language ls ctx sc context vs earlier ys
    fits_kept (in_first x) sc context vs earlier f w s = fits_first f (equal_step ls x) (λ k g. step_kept x sc k g w.0 s)
    fits_kept (in_rest x) sc context vs earlier f w s = fits_rest f (λ context vs earlier g. fits_kept x sc context vs earlier g w.1 s)

  -- ---- any steps

  pub steps_kept : {e e' : Expr} → Reduces ls e e' → (sc : List Expr) (c : Expr) → Liberal language ls ctx sc e c → Resolved ls ctx (length sc) e → KnownScope ls sc → Kept language ls ctx sc e' c
  steps_kept done sc c h w s = kept_same language ls W ctx h
  steps_kept (step x r) sc c h w s =
      let k = step_kept x sc c h w s in
      kept_serves language ls W ctx (steps_kept r sc k.found k.has (after (length sc) x w) s) k.serves
