-- Categories are valid: they end in `type` or `prop`, or have a category that does.
use Rattle.std.specs.Prelude.{◌≡◌, ◌⊎◌, Bool, List, [], ◌∷◌, ℕ, suc, ◌≤◌}
use Rattle.std.proofs.Math.Path.{refl}
use Rattle.std.proofs.Common.{sym, subst, arith}
use Rattle.std.proofs.Math.Logic.{inl, inr}
use Rattle.std.proofs.Math.Bool.{true, false}
use Rattle.std.proofs.Math.ListN.{length}
use Rattle.aut68.specs.Language.{Language, aut68, aut_qe}
use Rattle.aut68.specs.Expr.{Expr, Exprs, type, const, app, abs, nil, is_type, count_exprs, over_binding}
use Rattle.aut68.specs.Substitution.{lift, substitute, instantiate}
use Rattle.aut68.specs.Lines.{Line, Lines}
use Rattle.aut68.specs.Rules.Names.{IsLine, Context}
use Rattle.aut68.specs.Rules.Steps.{Reduces}
use Rattle.aut68.specs.Rules.Serving.{Basic, a_type, a_prop, Ends, itself, before, Supertype, Serves, IsType, the_type, a_supertype}
use Rattle.aut68.specs.Rules.Categories.{DomainAt, innermost, outside}
use Rattle.aut68.specs.Rules.Resolved.{Scoped, VariableOf, ConstantOf, Resolved, VariableLine, Known}
use Rattle.lookup.specs.Contexts.{RightContexts, context_nested}
use Rattle.calculus.specs.Renaming.{inst, one, unf, arg, ren}
use Rattle.calculus.specs.Cutoffs.{inst_is, unf_is}
use Rattle.calculus.specs.HeadFirst.{HeadsTo}
use Rattle.calculus.specs.Scoped.{category_cases, scoped_under, scoped_substitute, scoped_instantiate, scoped_arg}
use Rattle.calculus.specs.Resolved.{KnownScope, ResolvedLines, resolved_known}
use Rattle.inclusion.specs.Endings.{ends_steps, ends_sub}
use Rattle.calculus.specs.Known.{constant_count}
use Rattle.inclusion.specs.Liberal.{Liberal, by_application, by_abstraction, Fits, InContext, known_liberal}
use Rattle.inclusion.specs.Agreeing.{raise_lift, raise_once}
use Rattle.inclusion.specs.Weakening.{liberal_raise, supertype_ren}
use Rattle.calculus.specs.Actions.{is_type_true}
use Rattle.inclusion.specs.Keeping.{Kept, served_supertype}
use Rattle.inclusion.specs.Replacing.{liberal_substitute, liberal_instantiate, liberal_wider}
use Rattle.inclusion.specs.HeadKept.{RightMiddles, all_known, heads_kept, heads_steps, resolved_steps}

-- a category that ends in `type` or `prop`
pub record Sorted (language : Language) (ls : Lines) (ctx : List ℕ) (sc : List Expr) (e : Expr) : Type 0 where
  pub category : Expr
  pub has : Liberal language ls ctx sc e category
  pub super : Supertype category

abbrev pub Valid : Language → Lines → List ℕ → List Expr → Expr → Type 0
Valid language ls ctx sc c = Supertype c ⊎ Sorted language ls ctx sc c

-- each domain of the scope is sorted in the scope before it
pub data SortedScope (language : Language) (ls : Lines) (ctx : List ℕ) : List Expr → Type 0 where
  no_binding : SortedScope language ls ctx []
  one_binding : {p : Expr} {sc : List Expr} → Sorted language ls ctx sc p → SortedScope language ls ctx sc → SortedScope language ls ctx (p ∷ sc)

-- every line's category is valid, and its middle right
pub record RightLines (language : Language) (ls : Lines) : Type 0 where
  pub middles : RightMiddles language ls
  pub written : (v : ℕ) (l : Line) → IsLine ls v l → Valid language ls l.context [] l.category

pub type_super : {language : Language} {k : Expr} → IsType language k → Supertype k
type_super the_type = record { sort = type; is_basic = a_type; ends = itself }
type_super (a_supertype x h) = h

super_steps : (ls : Lines) {e e' : Expr} → Reduces ls e e' → Supertype e → Supertype e'
super_steps ls r h = record { sort = h.sort; is_basic = h.is_basic; ends = ends_steps ls h.is_basic h.ends r }

super_substitute : (a : Expr) {q : Expr} → Supertype q → Supertype (substitute a 0 q)
unfolding inst
super_substitute a {q} h = record { sort = h.sort; is_basic = h.is_basic; ends = rw (inst_is a q) (ends_sub (one a) _ h.is_basic h.ends) }

super_instantiate : (us : List ℕ) (xs : Exprs) {q : Expr} → Supertype q → Supertype (instantiate us xs 0 q)
unfolding unf
super_instantiate us xs {q} h = record { sort = h.sort; is_basic = h.is_basic; ends = rw (unf_is us xs q) (ends_sub _ (arg xs us) h.is_basic h.ends) }

pub super_body : {p t : Expr} → Supertype (abs p t) → Supertype t
super_body {p} {t} h = go h.is_basic h.ends
  where
    go : {s : Expr} → Basic s → Ends s (abs p t) → Supertype t
    go b itself = elim b [ ]
    go {s} b (before e) = record { sort = s; is_basic = b; ends = e }

super_over : (language : Language) (p : Expr) {c : Expr} → Supertype c → Supertype (over_binding language p c)
unfolding over_binding
super_over aut68 p {c} h = go (is_type c)
  where
    go : (t : Bool) → Supertype (elim t [ true ↦ type | false ↦ abs p c ])
    go true = record { sort = type; is_basic = a_type; ends = itself }
    go false = record { sort = h.sort; is_basic = h.is_basic; ends = before h.ends }
super_over aut_qe p {c} h = record { sort = h.sort; is_basic = h.is_basic; ends = before h.ends }

over_super : (language : Language) (p : Expr) {c : Expr} → Supertype (over_binding language p c) → Supertype c
unfolding over_binding
over_super aut68 p {c} h = go (is_type c) refl h
  where
    go : (t : Bool) → is_type c ≡ t → Supertype (elim t as (λ _. Expr) [ true ↦ type | false ↦ abs p c ]) → Supertype c
    go true q h = subst Supertype (sym (is_type_true c q)) h
    go false q h = super_body h
over_super aut_qe p {c} h = super_body h

-- what ends in `type` or `prop` has no category
pub no_category : {language : Language} {ls : Lines} {ctx : List ℕ} {s e : Expr} {sc : List Expr} {c : Expr} → Basic s → Ends s e → ¬ Liberal language ls ctx sc e c
no_category a_type itself h = elim h [ ]
no_category a_prop itself h = elim h [ ]
no_category b (before e) (by_abstraction hp ip ht i) = no_category b e ht

module _ (language : Language) (ls : Lines) (W : ResolvedLines ls) (ctx : List ℕ) where
  pub kept_sorted : {sc : List Expr} {e k : Expr} → Kept language ls ctx sc e k → Supertype k → Known ls (length sc) e → KnownScope ls sc → Sorted language ls ctx sc e
  kept_sorted {sc} h y w s =
      record { category = h.found; has = h.has; super = served_supertype language ls W ctx (length sc) (known_liberal language ls ctx W h.has w s) h.serves y }

  -- what has a category is an expression
  pub sorted_resolved : (k : ℕ) {sc : List Expr} {e : Expr} → InContext ls ctx k e → Sorted language ls ctx sc e → Resolved ls ctx k e
  sorted_resolved k {sc} {e} w h = go (category_cases (VariableOf ls ctx) (ConstantOf ls) k e w)
    where
      go : Supertype e ⊎ Resolved ls ctx k e → Resolved ls ctx k e
      go (inl x) = absurd (no_category x.is_basic x.ends h.has)
      go (inr x) = x

  pub sorted_raise : {sc : List Expr} {e : Expr} (p : Expr) → Sorted language ls ctx sc e → Sorted language ls ctx (p ∷ sc) (ren suc e)
  sorted_raise p h = record { category = ren suc h.category; has = liberal_raise ls W language ctx p h.has; super = supertype_ren suc h.super }

  pub valid_bound : {p : Expr} {sc : List Expr} {i : ℕ} → DomainAt p sc i → SortedScope language ls ctx sc → Sorted language ls ctx sc (lift (suc i) 0 p)
  valid_bound {p} {sc} innermost (one_binding h T) = subst (λ z. Sorted language ls ctx sc z) (raise_once p) (sorted_raise p h)
  valid_bound {p} {sc} (outside {q = q} {i = i} d) (one_binding h T) = subst (λ z. Sorted language ls ctx sc z) (raise_lift (suc i) p) (sorted_raise q (valid_bound d T))

  -- the category of an abstraction, from those of its domain and of its body's category
  pub valid_abstraction : {sc : List Expr} {p k : Expr} (c : Expr) → Liberal language ls ctx sc p k → IsType language k → Valid language ls ctx (p ∷ sc) c
      → Valid language ls ctx sc (over_binding language p c)
  unfolding over_binding
  valid_abstraction {p = p} c hp ip (inl y) = inl (super_over language p y)
  valid_abstraction {sc} {p} c hp ip (inr h) =
      inr (subst (λ z. Sorted language ls ctx sc z) (sym (over_sorted language))
      (record { category = over_binding language p h.category; has = by_abstraction hp ip h.has refl; super = super_over language p h.super }))
    where
      over_sorted : (l : Language) → over_binding l p c ≡ abs p c
      over_sorted aut68 = go (is_type c) refl
        where
          go : (t : Bool) → is_type c ≡ t → elim t as (λ _. Expr) [ true ↦ type | false ↦ abs p c ] ≡ abs p c
          go true q = absurd (no_category a_type (subst (λ z. Ends type z) (sym (is_type_true c q)) itself) h.has)
          go false q = refl
      over_sorted aut_qe = refl

  -- an application to something whose category is sorted
  pub valid_second : {sc : List Expr} {a f k p q : Expr} (h : Sorted language ls ctx sc f) → Reduces ls h.category (abs p q) → Liberal language ls ctx sc a k → Serves language ls k p
      → Sorted language ls ctx sc (app a f)
  valid_second {a = a} {q = q} h r ha e =
      record { category = substitute a 0 q; has = by_application h.has r ha e refl; super = super_substitute a (super_body (super_steps ls r h.super)) }

module _ (language : Language) (ls : Lines) (W : ResolvedLines ls) (contexts : RightContexts ls) (right : RightLines language ls) (ctx : List ℕ) where
  line_sorted : {v : ℕ} {l : Line} → IsLine ls v l → Sorted language ls l.context [] l.category → Resolved ls l.context 0 l.category
  line_sorted {l = l} i h = sorted_resolved language ls W l.context 0 (W.at i).category h

  pub valid_variable : {n : ℕ} → Context ls n ctx → {sc : List Expr} {v : ℕ} {l : Line} → VariableOf ls ctx v → IsLine ls v l → KnownScope ls sc → Valid language ls ctx sc l.category
  valid_variable C {sc} {v} {l} h i s = go (right.written v l i)
    where
      wider : (u : ℕ) → VariableOf ls l.context u → VariableOf ls ctx u
      wider u x = record { line = x.line; is_line = x.is_line; is_variable = x.is_variable; in_context = context_nested contexts C v u l h.in_context i x.in_context }

      go : Valid language ls l.context [] l.category → Valid language ls ctx sc l.category
      go (inl y) = inl y
      go (inr S) =
          let w = line_sorted i S in
          inr (kept_sorted language ls W ctx (liberal_wider language ls W contexts ctx l.context wider S.has w s) S.super
          (under l.category (resolved_known ls l.context 0 l.category w)) s)
        where
          under : (e : Expr) → Known ls 0 e → Known ls (length sc) e
          under e w =
              let z : 0 ≤ length sc = omega arith in
              scoped_under (VariableLine ls) (ConstantOf ls) z e w

  pub valid_constant : {sc : List Expr} {v : ℕ} {l : Line} {xs : Exprs} → IsLine ls v l → Fits language ls ctx sc l.context l.context nil xs
      → Resolved ls ctx (length sc) (const v xs) → KnownScope ls sc → Valid language ls ctx sc (instantiate l.context xs 0 l.category)
  unfolding Scoped
  valid_constant {sc} {v} {l} {xs} i f w s = go (right.written v l i)
    where
      count : count_exprs xs ≡ length l.context
      count = constant_count ls W w.0 i

      go : Valid language ls l.context [] l.category → Valid language ls ctx sc (instantiate l.context xs 0 l.category)
      go (inl y) = inl (super_instantiate l.context xs y)
      go (inr S) =
          let wl = line_sorted i S in
          let all = all_known ls ctx (length sc) xs w.1 in
          inr (kept_sorted language ls W ctx (liberal_instantiate language ls W contexts ctx (contexts v l i) f S.has wl count w.1 all s) (super_instantiate l.context xs S.super)
          (scoped_instantiate (VariableLine ls) (ConstantOf ls) (VariableOf ls l.context) (length sc) l.context xs l.category
          (λ u x. scoped_arg (VariableLine ls) (ConstantOf ls) (length sc) xs l.context u all count x.in_context) wl) s)

  pub valid_application : {sc : List Expr} {a c k p q : Expr} → Valid language ls ctx sc c → InContext ls ctx (length sc) c → HeadsTo ls c (abs p q) → Liberal language ls ctx sc a k
      → Serves language ls k p
      → Resolved ls ctx (length sc) a → KnownScope ls sc → Valid language ls ctx sc (substitute a 0 q)
  unfolding Scoped
  valid_application {a = a} (inl y) w r ha e wa s = inl (super_substitute a (super_body (super_steps ls (heads_steps language ls W contexts right.middles ctx r) y)))
  valid_application {sc} {a} {c} {k} {p} {q} (inr h) w r ha e wa s =
      let wc : Resolved ls ctx (length sc) c = sorted_resolved language ls W ctx (length sc) w h in
      let wf : Resolved ls ctx (length sc) (abs p q) = resolved_steps language ls W contexts right.middles ctx (length sc) (heads_steps language ls W contexts right.middles ctx r) wc in
      let S = kept_sorted language ls W ctx (heads_kept language ls W contexts right.middles ctx r sc h.category h.has h.super wc s) h.super
      (resolved_known ls ctx (length sc) (abs p q) wf) s in
      inr (go wf S.has S.super)
    where
      go : {d : Expr} → Resolved ls ctx (length sc) (abs p q) → Liberal language ls ctx sc (abs p q) d → Supertype d → Sorted language ls ctx sc (substitute a 0 q)
      go wf (by_abstraction {c = b} hp ip ht i) y =
          kept_sorted language ls W ctx (liberal_substitute language ls W contexts ctx ha e ht wa (resolved_known ls ctx (length sc) p wf.0) wf.1 s)
          (super_substitute a (over_super language p (subst Supertype i y)))
          (scoped_substitute (VariableLine ls) (ConstantOf ls) (length sc) a q (resolved_known ls ctx (length sc) a wa) (resolved_known ls ctx (suc (length sc)) q wf.1)) s
