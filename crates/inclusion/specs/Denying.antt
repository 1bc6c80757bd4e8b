-- Why an application has no category, from what was found before.
use Rattle.std.proofs.Common.{subst, sym}
use Rattle.std.specs.Prelude.{List, ◌∷◌, ℕ, length}
use Rattle.aut68.specs.Language.{Language, Extended}
use Rattle.aut68.specs.Expr.{Expr, Exprs, const, app, abs, nil, cons, snoc}
use Rattle.aut68.specs.Substitution.{instantiate}
use Rattle.aut68.specs.Lines.{Line, Lines}
use Rattle.aut68.specs.Rules.Names.{IsLine}
use Rattle.aut68.specs.Rules.Steps.{Reduces, Equal}
use Rattle.aut68.specs.Rules.Serving.{Basic, itself, Supertype, Serves, IsType}
use Rattle.aut68.specs.Rules.Resolved.{ConstantOf, Resolved, VariableLine, Known}
use Rattle.lookup.specs.LineNumbers.{line_unique}
use Rattle.lookup.specs.Contexts.{RightContexts}
use Rattle.calculus.specs.Equality.{equal_sym, equal_trans, equal_steps, equal_after, equal_abs_inv, abs_steps}
use Rattle.calculus.specs.HeadForms.{HeadNormal, habs, hneutral, Neutral, IsAbs, neutral_steps, neutral_not_abs}
use Rattle.calculus.specs.Parallel.{ClosedMiddles}
use Rattle.calculus.specs.HeadFirst.{HeadFirst, head_first}
use Rattle.calculus.specs.Scoped.{scoped_ends}
use Rattle.calculus.specs.Resolved.{KnownScope, ResolvedLines, lines_closed, resolved_known}
use Rattle.inclusion.specs.Endings.{ends_steps}
use Rattle.inclusion.specs.Serves.{Reached, equal_then_serves, serves_then_equal, serves_reached}
use Rattle.calculus.specs.Known.{known_steps}
use Rattle.inclusion.specs.Liberal.{Liberal, by_constant, by_application, by_equal, by_abstraction, Fits, more_fits}
use Rattle.inclusion.specs.Unique.{liberal_unique}
use Rattle.inclusion.specs.Neutral.{equal_alike, alike_unique}
use Rattle.inclusion.specs.Keeping.{Kept}
use Rattle.inclusion.specs.HeadKept.{RightMiddles, heads_kept, heads_steps, domains_agree}
use Rattle.inclusion.specs.Forms.{neutral_apart}

module _ (language : Language) (ls : Lines) (ctx : List ℕ) where
  -- what a category rests on
  pub constant_fits : {sc : List Expr} {v : ℕ} {xs : Exprs} {r : Expr} {l : Line} → IsLine ls v l → Liberal language ls ctx sc (const v xs) r → Fits language ls ctx sc l.context l.context nil xs
  constant_fits {sc} {v} {xs} k (by_constant h f q) = subst (λ (l : Line). Fits language ls ctx sc l.context l.context nil xs) (line_unique h k) f

  pub function_category : {sc : List Expr} {a b r : Expr} → Liberal language ls ctx sc (app a b) r → (c : Expr) × Liberal language ls ctx sc b c
  function_category (by_application {c = c} hb red ha e q) = (c, hb)
  function_category (by_equal {c = c} x hb e wf hf y rd ha k q) = (c, hb)

  pub argument_category : {sc : List Expr} {a b r : Expr} → Liberal language ls ctx sc (app a b) r → (k : Expr) × Liberal language ls ctx sc a k
  argument_category (by_application {k = k} hb red ha e q) = (k, ha)
  argument_category (by_equal {k = k} x hb e wf hf y rd ha m q) = (k, ha)

  pub domain_category : {sc : List Expr} {p t r : Expr} → Liberal language ls ctx sc (abs p t) r → (k : Expr) × Liberal language ls ctx sc p k × IsType language k
  domain_category (by_abstraction {k = k} hp ip ht q) = (k, hp, ip)

  pub body_category : {sc : List Expr} {p t r : Expr} → Liberal language ls ctx sc (abs p t) r → (c : Expr) × Liberal language ls ctx (p ∷ sc) t c
  body_category (by_abstraction {c = c} hp ip ht q) = (c, ht)

  pub first_fits : {sc : List Expr} {context vs : List ℕ} {v : ℕ} {earlier xs : Exprs} {a : Expr} {l : Line} → IsLine ls v l → Fits language ls ctx sc context (v ∷ vs) earlier (cons a xs)
      → (k : Expr) × Liberal language ls ctx sc a k × Serves language ls k (instantiate context earlier 0 l.category)
  first_fits {context = context} {earlier = earlier} i (more_fits {k = k} h c e f) =
      (k, c, subst (λ (l : Line). Serves language ls k (instantiate context earlier 0 l.category)) (line_unique h i) e)

  pub others_fit : {sc : List Expr} {context vs : List ℕ} {v : ℕ} {earlier xs : Exprs} {a : Expr} → Fits language ls ctx sc context (v ∷ vs) earlier (cons a xs)
      → Fits language ls ctx sc context vs (snoc earlier a) xs
  others_fit (more_fits h c e f) = f

module _ (language : Language) (ls : Lines) (W : ResolvedLines ls) (contexts : RightContexts ls) (right : RightMiddles language ls) (ctx : List ℕ) (sc : List Expr) (s : KnownScope ls sc) where
  one_category : {e c c' : Expr} → Known ls (length sc) e → Liberal language ls ctx sc e c → Liberal language ls ctx sc e c' → Equal ls c c'
  one_category w h k = liberal_unique ls W language ctx h k w s

  -- B's category reaches a function, but A's category does not serve for the domain
  pub no_argument : {a b c k p q : Expr} → Resolved ls ctx (length sc) a → Resolved ls ctx (length sc) b → Liberal language ls ctx sc b c → Reduces ls c (abs p q) → Liberal language ls ctx sc a k
      → ¬ Serves language ls k p → (r : Expr) → ¬ Liberal language ls ctx sc (app a b) r
  no_argument {a} {b} {p = p} {q = q} wa wb hc red hk deny r (by_application hb red' ha e i) =
      let C = lines_closed ls W in
      let ec = one_category (resolved_known ls ctx (length sc) b wb) hc hb in
      let ek = one_category (resolved_known ls ctx (length sc) a wa) hk ha in
      let parts = equal_abs_inv ls (equal_trans ls C (equal_after ls C red ec) (equal_steps ls red')) in
      deny (equal_then_serves language ls C ek (serves_then_equal language ls C e (equal_sym ls parts.0)))
  no_argument {a} {b} {p = p} {q = q} wa wb hc red hk deny r (by_equal x hb e wf hf y rd ha m i) =
      let C = lines_closed ls W in
      let ec = one_category (resolved_known ls ctx (length sc) b wb) hc hb in
      let ek = one_category (resolved_known ls ctx (length sc) a wa) hk ha in
      let ef = equal_sym ls (equal_after ls C red (equal_trans ls C ec e)) in
      let ep = domains_agree language ls W contexts right ctx hf y rd ef wf s in
      deny (equal_then_serves language ls C ek (serves_then_equal language ls C m (equal_sym ls ep)))

  -- B's category has a head form f that is no abstraction
  pub no_function_lem : {a b c f : Expr} → Resolved ls ctx (length sc) b → Liberal language ls ctx sc b c → Reduces ls c f → Neutral ls f
      → ((g d p q : Expr) → Extended language → Equal ls f g → Resolved ls ctx (length sc) g → Liberal language ls ctx sc g d → Supertype d → Reduces ls d (abs p q) → (k : Expr)
      → Liberal language ls ctx sc a k → Serves language ls k p → ⊥)
      → (r : Expr) → ¬ Liberal language ls ctx sc (app a b) r
  no_function_lem {b = b} wb hc red n deny r (by_application hb red' ha e i) =
      let C = lines_closed ls W in
      let ec = one_category (resolved_known ls ctx (length sc) b wb) hc hb in
      neutral_apart ls n (equal_trans ls C (equal_after ls C red ec) (equal_steps ls red'))
  no_function_lem {b = b} wb hc red n deny r (by_equal {f = g} {d = d} {k = k} {p = p} {q = q} x hb e wf hf y rd ha m i) =
      let C = lines_closed ls W in
      let ec = one_category (resolved_known ls ctx (length sc) b wb) hc hb in
      deny g d p q x (equal_after ls C red (equal_trans ls C ec e)) wf hf y rd k ha m

  -- `type` and `prop` are equal to no expression
  pub sort_apart : {f g : Expr} → Basic f → Equal ls f g → ¬ Resolved ls ctx (length sc) g
  sort_apart {f} {g} b e w =
      scoped_ends (VariableLine ls) (ConstantOf ls) (length sc) e.common b (ends_steps ls b itself e.from_left)
      (known_steps ls W (length sc) e.from_right (resolved_known ls ctx (length sc) g w))

  -- whatever equal expression was taken, f's category reaches a function with that domain
  pub second_agrees : {f d g d' p q : Expr} → Neutral ls f → Liberal language ls ctx sc f d → Equal ls f g → Resolved ls ctx (length sc) g → Liberal language ls ctx sc g d' → Supertype d'
      → Reduces ls d' (abs p q)
      → Reached language ls d p q
  second_agrees {f} {d} {g} {d'} {p} {q} n hf e w hg y rd =
      serves_reached language ls C (equal_then_serves language ls C same K.serves) rd
    where
      C : ClosedMiddles ls
      C = lines_closed ls W

      m : Neutral ls e.common
      m = neutral_steps ls n e.from_left

      F : HeadFirst ls C g e.common
      F = head_first ls C e.from_right (hneutral m)

      not_abs : {h : Expr} → HeadNormal ls h → Reduces ls h e.common → Neutral ls h
      not_abs habs r =
          let (p₁, q₁, z, u, v) = abs_steps ls r in
          absurd (neutral_not_abs ls m (subst IsAbs (sym z) tt))
      not_abs (hneutral k) r = k

      K : Kept language ls ctx sc F.form d'
      K = heads_kept language ls W contexts right ctx F.heads sc d' hg y w s

      near : Equal ls f F.form
      near = equal_trans ls C e (equal_steps ls (heads_steps language ls W contexts right ctx F.heads))

      same : Equal ls d K.found
      same = alike_unique ls W language ctx (equal_alike ls W n (not_abs F.normal F.reaches) near) hf K.has
