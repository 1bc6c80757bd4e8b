-- A more liberal relation than the rules' own, with the same categories up to equality: where AUT-QE looks at the head form of B's
-- category, it takes any equal expression that has a category. The rules' categories are among its own (`category-liberal`).
use Rattle.std.specs.Prelude.{◌≡◌, ◌⊎◌, List, [], ◌∷◌, ℕ, suc, ◌≤◌}
use Rattle.std.proofs.Math.Path.{subst}
use Rattle.std.proofs.Common.{sym, inl, inr}
use native.Mathlib.Omega.{arith}
use Rattle.std.proofs.Math.ListN.{length}
use Rattle.aut68.specs.Language.{Language, Extended}
use Rattle.aut68.specs.Expr.{Expr, Exprs, var, bound, const, app, abs, nil, cons, snoc, shape, other, over_binding}
use Rattle.aut68.specs.Substitution.{lift, substitute, instantiate}
use Rattle.aut68.specs.Lines.{Line, Lines}
use Rattle.aut68.specs.Rules.Names.{IsLine, Context}
use Rattle.lookup.specs.Contexts.{RightContexts, context_nested}
use Rattle.aut68.specs.Rules.Steps.{Reduces, Equal}
use Rattle.aut68.specs.Rules.Serving.{Basic, a_type, a_prop, Ends, itself, before, Supertype, Serves, IsType}
use Rattle.aut68.specs.Rules.Categories.{DomainAt, Category}
use Rattle.aut68.specs.Rules.Resolved.{Scoped, VariableOf, ConstantOf, Resolved, VariableLine, Known}
use Rattle.calculus.specs.HeadForms.{shape_other}
use Rattle.calculus.specs.Scoped.{ScopedScope, ScopedCategory, category_cases, category_map, category_steps, scoped_map, scoped_category, scoped_arg, category_under}
use Rattle.calculus.specs.Scoped.{category_substitute, category_instantiate}
use Rattle.calculus.specs.Resolved.{ResolvedScope, variable_line, KnownScope, KnownCategory, ResolvedLines, known_line}
use Rattle.calculus.specs.Known.{constant_count, line_in_context, kept_middles}
use Rattle.calculus.specs.Bindings.{over_scoped, bound_scoped}

module _ (language : Language) (ls : Lines) (ctx : List ℕ) where
  mutual
    pub data Liberal : List Expr → Expr → Expr → Type 0 where
      by_variable : {sc : List Expr} {v : ℕ} {l : Line} {r : Expr} → IsLine ls v l → r ≡ l.category → Liberal sc (var v) r
      by_bound : {sc : List Expr} {i : ℕ} {p r : Expr} → DomainAt p sc i → r ≡ lift (suc i) 0 p → Liberal sc (bound i) r
      by_constant : {sc : List Expr} {v : ℕ} {l : Line} {xs : Exprs} {r : Expr}
          → IsLine ls v l → Fits sc l.context l.context nil xs → r ≡ instantiate l.context xs 0 l.category
          → Liberal sc (const v xs) r
      by_application : {sc : List Expr} {a b c k p q r : Expr}
          → Liberal sc b c → Reduces ls c (abs p q) → Liberal sc a k → Serves language ls k p → r ≡ substitute a 0 q
          → Liberal sc (app a b) r
      by_equal : {sc : List Expr} {a b c f d k p q r : Expr} → Extended language
          → Liberal sc b c → Equal ls c f → Resolved ls ctx (length sc) f
          → Liberal sc f d → Supertype d → Reduces ls d (abs p q) → Liberal sc a k → Serves language ls k p → r ≡ app a f
          → Liberal sc (app a b) r
      by_abstraction : {sc : List Expr} {p t k c r : Expr} → Liberal sc p k → IsType language k → Liberal (p ∷ sc) t c → r ≡ over_binding language p c
          → Liberal sc (abs p t) r

    pub data Fits : List Expr → List ℕ → List ℕ → Exprs → Exprs → Type 0 where
      none_fits : {sc : List Expr} {context : List ℕ} {earlier : Exprs} → Fits sc context [] earlier nil
      more_fits : {sc : List Expr} {context vs : List ℕ} {v : ℕ} {l : Line} {earlier xs : Exprs} {a k : Expr}
          → IsLine ls v l → Liberal sc a k → Serves language ls k (instantiate context earlier 0 l.category) → Fits sc context vs (snoc earlier a) xs
          → Fits sc context (v ∷ vs) earlier (cons a xs)

-- ---- categories are known

module _ (language : Language) (ls : Lines) (X : ℕ → Type 0) where
  abbrev In : ℕ → Expr → Type 0
  In = Scoped X (ConstantOf ls)

  abbrev InCategory : ℕ → Expr → Type 0
  InCategory = ScopedCategory X (ConstantOf ls)

  -- X holds of the variables in the categories of those it holds of, and of the context's
  module _ (ctx : List ℕ) (W : ResolvedLines ls) (variables : (v : ℕ) (l : Line) → X v → IsLine ls v l → InCategory 0 l.category) (inX : (v : ℕ) → VariableOf ls ctx v → X v) where
    pub scoped_liberal : {sc : List Expr} {e c : Expr} → Liberal language ls ctx sc e c → In (length sc) e → ScopedScope X (ConstantOf ls) sc → InCategory (length sc) c
    unfolding Scoped ScopedScope ScopedCategory
    scoped_liberal {sc} (by_variable {l = l} i q) w s =
        let z : 0 ≤ length sc = omega arith in
        subst (InCategory (length sc)) (sym q) (category_under X (ConstantOf ls) z l.category (variables _ l w i))
    scoped_liberal {sc} (by_bound {i = i} {p = p} d q) w s =
        subst (InCategory (length sc)) (sym q) (scoped_category X (ConstantOf ls) (length sc) (lift (suc i) 0 p) (bound_scoped language ls X d s))
    scoped_liberal {sc} (by_constant {l = l} {xs = xs} i f q) w s =
        subst (InCategory (length sc)) (sym q)
        (category_instantiate X (ConstantOf ls) _ (length sc) l.context xs l.category
        (λ v m. scoped_arg X (ConstantOf ls) (length sc) xs l.context v w.1 (constant_count ls W w.0 i) m) (line_in_context ls W i))
    scoped_liberal {sc} (by_application {a = a} {q = q} hb red ha e i) w s =
        let x = category_steps ls (ConstantOf ls) X (kept_middles ls W) (length sc) red (scoped_liberal hb w.1 s) in
        subst (InCategory (length sc)) (sym i) (category_substitute X (ConstantOf ls) (length sc) a q w.0 x.1)
    scoped_liberal {sc} (by_equal {a = a} {f = f} x hb e wf hf d red ha k i) w s =
        subst (InCategory (length sc)) (sym i) (w.0, scoped_map (VariableOf ls ctx) X (ConstantOf ls) (ConstantOf ls) inX (λ v n h. h) (length sc) f wf)
    scoped_liberal {sc} (by_abstraction {p = p} {c = c} hp ip ht i) w s =
        subst (InCategory (length sc)) (sym i) (over_scoped language ls X (length sc) p c w.0 (scoped_liberal ht w.1 (w.0, s)))

-- in any context
module _ (language : Language) (ls : Lines) (ctx : List ℕ) (W : ResolvedLines ls) where
  pub known_liberal : {sc : List Expr} {e c : Expr} → Liberal language ls ctx sc e c → Known ls (length sc) e → KnownScope ls sc → KnownCategory ls (length sc) c
  known_liberal h w s = scoped_liberal language ls (VariableLine ls) ctx W (λ v l x i. known_line ls W i) (λ v x. variable_line x) h w s

-- in the context
abbrev pub InContext : Lines → List ℕ → ℕ → Expr → Type 0
InContext ls ctx = ScopedCategory (VariableOf ls ctx) (ConstantOf ls)

-- the variables in the categories of a context's variables are in the context
abbrev pub NestedContext : Lines → List ℕ → Type 0
NestedContext ls ctx = (v : ℕ) (l : Line) → VariableOf ls ctx v → IsLine ls v l → InContext ls ctx 0 l.category

pub nested_context : {ls : Lines} → ResolvedLines ls → RightContexts ls → {n : ℕ} {ctx : List ℕ} → Context ls n ctx → NestedContext ls ctx
nested_context {ls} W R {ctx = ctx} C v l h i = category_map _ _ _ _ wider (λ u n x. x) 0 l.category (W.at i).category
  where
    wider : (u : ℕ) → VariableOf ls l.context u → VariableOf ls ctx u
    wider u x = record { line = x.line; is_line = x.is_line; is_variable = x.is_variable; in_context = context_nested R C v u l h.in_context i x.in_context }

module _ (language : Language) (ls : Lines) (ctx : List ℕ) (W : ResolvedLines ls) (N : NestedContext ls ctx) where
  pub resolved_liberal : {sc : List Expr} {e c : Expr} → Liberal language ls ctx sc e c → Resolved ls ctx (length sc) e → ResolvedScope ls ctx sc → InContext ls ctx (length sc) c
  resolved_liberal h w s = scoped_liberal language ls (VariableOf ls ctx) ctx W (λ v l x i. N v l x i) (λ v x. x) h w s

  -- ---- the rules' categories

  -- a head form that has a category and is no abstraction is an expression
  pub head_resolved : (k : ℕ) {sc : List Expr} {f d : Expr} → InContext ls ctx k f → shape f ≡ other → Category language ls sc f d → Resolved ls ctx k f
  head_resolved k {sc} {f} {d} w q h = go (category_cases (VariableOf ls ctx) (ConstantOf ls) k f w)
    where
      none : {s f : Expr} → Basic s → Ends s f → shape f ≡ other → Category language ls sc f d → ⊥
      none a_type itself q h = elim h [ ]
      none a_prop itself q h = elim h [ ]
      none b (before {p = p} {t = t} e) q h = shape_other (abs p t) q tt

      go : Supertype f ⊎ Resolved ls ctx k f → Resolved ls ctx k f
      go (inl x) = absurd (none x.is_basic x.ends q h)
      go (inr x) = x

  pub in_context_steps : (k : ℕ) {m n : Expr} → Reduces ls m n → InContext ls ctx k m → InContext ls ctx k n
  in_context_steps k h w = category_steps ls (ConstantOf ls) (VariableOf ls ctx) (kept_middles ls W) k h w
