-- What the substitution lemma is used for: an argument for the bound variable, arguments for a context's variables,
-- an equal domain, and an expression without bindings under some.
use Rattle.std.specs.Prelude.{◌≡◌, Bool, length}
use Rattle.std.proofs.Math.Path.{refl, ap}
use Rattle.std.proofs.Common.{sym, ◌∙◌, subst, arith, eqb-true}
use Rattle.std.proofs.Math.Bool.{true, false}
use mathlib.Core.List.{List, [], ◌∷◌}
use Prim.Native.Nat.{ℕ, zero, suc, ◌<◌}
use Rattle.std.proofs.Math.Dec.{eqb}
use Rattle.std.proofs.lemmas.Bool.{eqb-false}
use Rattle.aut68.specs.Language.{Language}
use Rattle.aut68.specs.Expr.{Expr, Exprs, var, bound, nil, cons, count_exprs}
use Rattle.aut68.specs.Substitution.{lift, substitute, instantiate}
use Rattle.aut68.specs.Lines.{Line, Lines}
use Rattle.aut68.specs.Rules.Names.{IsLine, Member, here, there, Context}
use Rattle.aut68.specs.Rules.Steps.{Equal}
use Rattle.aut68.specs.Rules.Serving.{Serves}
use Rattle.aut68.specs.Rules.Categories.{DomainAt, innermost, outside}
use Rattle.aut68.specs.Rules.Resolved.{Scoped, VariableOf, ConstantOf, Resolved, Known}
use Rattle.calculus.specs.Renaming.{sub, raise, one, inst, arg, pick, unf, ClosedAt, sub_closed, sub_id, sub_ren}
use Rattle.calculus.specs.Cutoffs.{inst_is, unf_is}
use Rattle.lookup.specs.LineNumbers.{line_unique}
use Rattle.calculus.specs.Equality.{equal_lift}
use Rattle.calculus.specs.Scoped.{ScopedScope, scoped_arg}
use Rattle.calculus.specs.Resolved.{AllKnown, AllResolved, KnownScope, ResolvedLines, lines_closed}
use Rattle.lookup.specs.Contexts.{RightContexts}
use Rattle.calculus.specs.Known.{known_arg}
use Rattle.inclusion.specs.Liberal.{Liberal, by_variable, by_bound, Fits, none_fits, more_fits}
use Rattle.inclusion.specs.Agreeing.{raise_lift, raise_once, appends, appends_snoc, instantiate_more}
use Rattle.inclusion.specs.Weakening.{line_closed}
use Rattle.inclusion.specs.Prefixes.{Placed, placed_first, placed_next, CoveredCategory, covered_wanted}
use Rattle.inclusion.specs.Keeping.{Kept, kept_same, kept_serves, kept_equal, kept_path}
use Rattle.inclusion.specs.Substituted.{Replaces, liberal_sub}

module _ (language : Language) (ls : Lines) (W : ResolvedLines ls) (contexts : RightContexts ls) (ctx : List ℕ) where
  sub_closed_id : (σ : ℕ → Expr) (e : Expr) → ClosedAt 0 e → sub σ var e ≡ e
  sub_closed_id σ e c = sub_closed {σ' = bound} var (λ i l. absurd (omega arith)) e c ∙ sub_id e

  -- the context's variables stay
  variables_stay : (sc : List Expr) (σ : ℕ → Expr) {v : ℕ} {l : Line} → IsLine ls v l → Kept language ls ctx sc (var v) (sub σ var l.category)
  variables_stay sc σ {l = l} i = kept_path language ls W ctx (kept_same language ls W ctx (by_variable i refl)) (sym (sub_closed_id σ l.category (line_closed ls W i)))

  -- ---- an argument for the innermost bound variable

  down : (a e : Expr) → sub (one a) var (raise e) ≡ e
  unfolding one
  down a e = sub_ren (one a) var suc e ∙ sub_id e

  replaces_one : {sc : List Expr} {a k p : Expr} → Liberal language ls ctx sc a k → Serves language ls k p → Resolved ls ctx (length sc) a → KnownScope ls sc
      → Replaces language ls ctx ctx (p ∷ sc) sc (one a) var
  unfolding one Scoped
  replaces_one {sc} {a} {k} {p} h e w s =
      record { bounds = λ d. at d; variables = λ u i. variables_stay sc (one a) i; resolved_bounds = known; resolved_variables = λ v x. x; known_variables = λ v x. x; known_scope = s }
    where
      at : {q : Expr} {i : ℕ} → DomainAt q (p ∷ sc) i → Kept language ls ctx sc (one a i) (sub (one a) var (lift (suc i) 0 q))
      at innermost = kept_path language ls W ctx (kept_serves language ls W ctx (kept_same language ls W ctx h) e) (sym (down a p) ∙ ap (sub (one a) var) (raise_once p))
      at {q} (outside {i = i} d) =
          kept_path language ls W ctx (kept_same language ls W ctx (by_bound d refl)) (sym (down a (lift (suc i) 0 q)) ∙ ap (sub (one a) var) (raise_lift (suc i) q))

      known : (i : ℕ) → i < suc (length sc) → Resolved ls ctx (length sc) (one a i)
      known zero l = w
      known (suc i) l = omega arith

  pub liberal_substitute : {sc : List Expr} {a k p t c : Expr} → Liberal language ls ctx sc a k → Serves language ls k p → Liberal language ls ctx (p ∷ sc) t c
      → Resolved ls ctx (length sc) a → Known ls (length sc) p → Resolved ls ctx (suc (length sc)) t → KnownScope ls sc
      → Kept language ls ctx sc (substitute a 0 t) (substitute a 0 c)
  unfolding inst ScopedScope
  liberal_substitute {sc} {a} {k} {p} {t} {c} h e ht wa wp wt s =
      rw (inst_is a t, inst_is a c)
      (liberal_sub language ls W ctx ctx contexts ht sc (one a) var (replaces_one h e wa s) wt (wp, s))

  -- ---- an equal domain

  replaces_domain : {sc : List Expr} {p p' : Expr} → Equal ls p' p → Known ls (length sc) p' → KnownScope ls sc → Replaces language ls ctx ctx (p ∷ sc) (p' ∷ sc) bound var
  unfolding Scoped ScopedScope
  replaces_domain {sc} {p} {p'} e w s =
      record { bounds = λ d. at d; variables = λ u i. variables_stay (p' ∷ sc) bound i; resolved_bounds = λ i l. l; resolved_variables = λ v x. x; known_variables = λ v x. x; known_scope = (w, s) }
    where
      at : {q : Expr} {i : ℕ} → DomainAt q (p ∷ sc) i → Kept language ls ctx (p' ∷ sc) (bound i) (sub bound var (lift (suc i) 0 q))
      at innermost =
          kept_path language ls W ctx (kept_equal language ls W ctx (kept_same language ls W ctx (by_bound innermost refl)) (equal_lift ls (lines_closed ls W) 1 0 e)) (sym (sub_id (lift 1 0 p)))
      at {q} (outside {i = i} d) = kept_path language ls W ctx (kept_same language ls W ctx (by_bound (outside d) refl)) (sym (sub_id (lift (suc (suc i)) 0 q)))

  pub liberal_domain : {sc : List Expr} {p p' t c : Expr} → Equal ls p' p → Liberal language ls ctx (p ∷ sc) t c
      → Known ls (length sc) p → Known ls (length sc) p' → Resolved ls ctx (suc (length sc)) t → KnownScope ls sc → Kept language ls ctx (p' ∷ sc) t c
  unfolding ScopedScope
  liberal_domain {sc} {p} {p'} {t} {c} e ht wp wp' wt s =
      rw (sub_id t, sub_id c) at
      (liberal_sub language ls W ctx ctx contexts ht (p' ∷ sc) bound var (replaces_domain e wp' s) wt (wp, s))

  -- ---- under bindings

  -- an expression of a narrower context, in this one
  replaces_wider : {sc : List Expr} (narrow : List ℕ) → ((v : ℕ) → VariableOf ls narrow v → VariableOf ls ctx v) → KnownScope ls sc → Replaces language ls narrow ctx [] sc bound var
  unfolding Scoped
  replaces_wider {sc} narrow f s =
      record {
        bounds = λ d. absurd (below d);
        variables = λ u i. variables_stay sc bound i;
        resolved_bounds = λ i l. absurd (omega arith);
        resolved_variables = f;
        known_variables = λ v x. x;
        known_scope = s;
      }
    where
      below : {p : Expr} {i : ℕ} → DomainAt p [] i → ⊥
      below d = elim d [ ]

  pub liberal_wider : {sc : List Expr} {e c : Expr} (narrow : List ℕ) → ((v : ℕ) → VariableOf ls narrow v → VariableOf ls ctx v) → Liberal language ls narrow [] e c → Resolved ls narrow 0 e
      → KnownScope ls sc
      → Kept language ls ctx sc e c
  unfolding ScopedScope
  liberal_wider {sc} {e} {c} narrow f h w s =
      rw (sub_id e, sub_id c) at (liberal_sub language ls W narrow ctx contexts h sc bound var (replaces_wider narrow f s) w tt)

  -- ---- arguments for the variables of a context

  other_member : {u v : ℕ} {vs : List ℕ} → Member v (u ∷ vs) → (v ≡ u → ⊥) → Member v vs
  other_member here n = absurd (n refl)
  other_member (there m) n = m

  instantiate_covered : (us : List ℕ) (xs ys : Exprs) (c : Expr) → CoveredCategory ls W us xs c → instantiate us xs 0 c ≡ sub bound (arg (appends xs ys) us) c
  unfolding instantiate sub
  instantiate_covered us xs ys c w = instantiate_more (ConstantOf ls) us xs ys c w

  -- each argument, found by its variable
  fit_arg : {sc : List Expr} {context vs : List ℕ} {earlier xs : Exprs} → Fits language ls ctx sc context vs earlier xs → {w : ℕ} → Context ls w context → Placed context vs earlier
      → (all : Exprs) → appends earlier xs ≡ all → {v : ℕ} {l : Line} → Member v vs → IsLine ls v l → Kept language ls ctx sc (arg xs vs v) (sub bound (arg all context) l.category)
  unfolding arg
  fit_arg none_fits C P all q m i = elim m [ ]
  fit_arg {sc} (more_fits {context = context} {vs = vs} {v = u} {l = k} {earlier = earlier} {xs = xs} {a = a} j h e f) C P all q {v} {l} m i =
      at (λ n. fit_arg f C (placed_next a P) all (appends_snoc earlier a xs ∙ q) n i) (eqb v u) refl
    where
      at : (Member v vs → Kept language ls ctx sc (arg xs vs v) (sub bound (arg all context) l.category)) → (t : Bool) → eqb v u ≡ t
          → Kept language ls ctx sc (pick t a (arg xs vs v)) (sub bound (arg all context) l.category)
      at g true x =
          let same : k ≡ l = line_unique j (subst (λ z. IsLine ls z l) (eqb-true v u x) i) in
          kept_path language ls W ctx (kept_serves language ls W ctx (kept_same language ls W ctx h) e)
          (instantiate_covered context earlier (cons a xs) k.category (covered_wanted ls W contexts C P j)
          ∙ ap (λ z. sub bound (arg z context) k.category) q ∙ ap (λ (z : Line). sub bound (arg all context) z.category) same)
      at g false x = g (other_member m (eqb-false v u x))

  replaces_context : {sc : List Expr} {w : ℕ} {context : List ℕ} {xs : Exprs} → Context ls w context → Fits language ls ctx sc context context nil xs
      → count_exprs xs ≡ length context → AllResolved ls ctx (length sc) xs → AllKnown ls (length sc) xs → KnownScope ls sc
      → Replaces language ls context ctx [] sc bound (arg xs context)
  unfolding appends
  replaces_context {sc} {context = context} {xs} C f n r x s =
      record {
        bounds = λ d. absurd (below d);
        variables = λ u i. fit_arg f C (placed_first context) xs refl u.in_context i;
        resolved_bounds = λ i l. absurd (omega arith);
        resolved_variables = λ v h. scoped_arg (VariableOf ls ctx) (ConstantOf ls) (length sc) xs context v r n h.in_context;
        known_variables = λ v h. known_arg ls W (length sc) xs context v x h;
        known_scope = s;
      }
    where
      below : {p : Expr} {i : ℕ} → DomainAt p [] i → ⊥
      below d = elim d [ ]

  pub liberal_instantiate : {sc : List Expr} {w : ℕ} {context : List ℕ} {xs : Exprs} {m c : Expr} → Context ls w context → Fits language ls ctx sc context context nil xs
      → Liberal language ls context [] m c → Resolved ls context 0 m → count_exprs xs ≡ length context → AllResolved ls ctx (length sc) xs → AllKnown ls (length sc) xs → KnownScope ls sc
      → Kept language ls ctx sc (instantiate context xs 0 m) (instantiate context xs 0 c)
  unfolding unf ScopedScope
  liberal_instantiate {sc} {context = context} {xs} {m} {c} C f h wm n r x s =
      rw (unf_is context xs m, unf_is context xs c)
      (liberal_sub language ls W context ctx contexts h sc bound (arg xs context) (replaces_context C f n r x s) wm tt)
