-- A head step keeps the category of what ends in `type` or `prop`, up to serving; and so such a category names the domain of every
-- function that is reached.
use Rattle.std.specs.Prelude.{◌≡◌, refl, ◌⊎◌, Bool, true, false, List, [], ℕ, suc, length}
use Rattle.std.proofs.Common.{ap, ◌∙◌, inl, inr}
use Rattle.std.proofs.Math.Path.{sym, subst}
use Rattle.aut68.specs.Language.{Language, aut68, aut_qe}
use Rattle.aut68.specs.Expr.{Expr, Exprs, type, const, app, abs, nil, is_type, over_binding}
use Rattle.aut68.specs.Substitution.{substitute, instantiate}
use Rattle.aut68.specs.Lines.{Line, Lines, abbreviation, line_of}
use Rattle.aut68.specs.Rules.Names.{IsLine}
use Rattle.aut68.specs.Rules.Steps.{Step, beta, delta, in_b, Reduces, Equal}
use Rattle.aut68.specs.Rules.Steps
use Rattle.aut68.specs.Rules.Serving.{Basic, Ends, itself, before, Supertype, Serves}
use Rattle.aut68.specs.Rules.Resolved.{Scoped, VariableOf, ConstantOf, Resolved, VariableLine, Known}
use Rattle.lookup.specs.LineNumbers.{line_unique, abbreviation_line}
use Rattle.lookup.specs.Contexts.{RightContexts}
use Rattle.calculus.specs.Star.{done, more}
use Rattle.calculus.specs.Renaming.{inst, one, unf, arg}
use Rattle.calculus.specs.Cutoffs.{inst_is, unf_is}
use Rattle.calculus.specs.Reductions.{type_no_abs, steps_one, steps_eq}
use Rattle.calculus.specs.Equality.{equal_refl, equal_sym, equal_trans, equal_steps, equal_substitute, equal_abs_inv, equal_after, abs_steps}
use Rattle.calculus.specs.HeadForms.{HeadNormal, habs, hneutral, never_abs, neutral_not_abs}
use Rattle.calculus.specs.HeadFirst.{HeadTo, hbeta, hdelta, hunder, HeadsTo, HeadFirst, head_first}
use Rattle.calculus.specs.Scoped.{ScopedScope, ScopedCategory, scoped_ends, scoped_substitute, category_cases, scoped_steps}
use Rattle.calculus.specs.Resolved.{AllKnown, KnownScope, KnownCategory, AllResolved, ResolvedLines, lines_closed, known_line, resolved_known}
use Rattle.inclusion.specs.Endings.{ends_one, ends_sub}
use Rattle.inclusion.specs.Serves.{Reached, serves_then_equal, serves_reached}
use Rattle.calculus.specs.Known.{constant_count, kept_middles, known_category_steps}
use Rattle.inclusion.specs.Knowing.{reaches_ends}
use Rattle.inclusion.specs.Liberal.{Liberal, by_constant, by_application, by_equal, by_abstraction, Fits, known_liberal}
use Rattle.inclusion.specs.SubstitutedSteps.{serves_sub}
use Rattle.inclusion.specs.Keeping.{Kept, kept_same, kept_serves, kept_equal, kept_path, kept_app, served_supertype}
use Rattle.inclusion.specs.Replacing.{liberal_substitute, liberal_instantiate}

-- the category of an abstraction names its domain
pub over_reaches : (language : Language) (ls : Lines) (p c : Expr) {p' q' : Expr} → Reduces ls (over_binding language p c) (abs p' q') → Equal ls p p' × Equal ls c q'
unfolding over_binding
over_reaches aut68 ls p c {p'} {q'} r = go (is_type c) r
  where
    go : (t : Bool) → Reduces ls (elim t as (λ _. Expr) [ true ↦ type | false ↦ abs p c ]) (abs p' q') → Equal ls p p' × Equal ls c q'
    go true r = absurd (type_no_abs ls r)
    go false r = equal_abs_inv ls (equal_steps ls r)
over_reaches aut_qe ls p c r = equal_abs_inv ls (equal_steps ls r)

-- every middle has a category that serves for the written one
pub record RightMiddle (language : Language) (ls : Lines) (l : Line) (m : Expr) : Type 0 where
  pub found : Expr
  pub has : Liberal language ls l.context [] m found
  pub serves : Serves language ls found l.category

abbrev pub RightMiddles : Language → Lines → Type 0
RightMiddles language ls = (v : ℕ) (l : Line) (m : Expr) → IsLine ls v l → l.kind ≡ abbreviation m → RightMiddle language ls l m

-- what ends in `type` or `prop` after an argument is put in did so before
pub ends_back : (ls : Lines) (k : ℕ) {s : Expr} (a q : Expr) → Basic s → Known ls k a → KnownCategory ls (suc k) q → Ends s (substitute a 0 q) → Ends s q
unfolding inst
ends_back ls k {s} a q b wa wq h = go (category_cases (VariableLine ls) (ConstantOf ls) (suc k) q wq)
  where
    go : Supertype q ⊎ Known ls (suc k) q → Ends s q
    go (inl x) =
        let e : Ends x.sort (substitute a 0 q) = rw (inst_is a q) (ends_sub (one a) _ x.is_basic x.ends) in
        subst (λ z. Ends z q) (ends_one x.is_basic b e h) x.ends
    go (inr x) = absurd (scoped_ends (VariableLine ls) (ConstantOf ls) k (substitute a 0 q) b h (scoped_substitute (VariableLine ls) (ConstantOf ls) k a q wa x))

pub all_known : (ls : Lines) (ctx : List ℕ) (k : ℕ) (xs : Exprs) → AllResolved ls ctx k xs → AllKnown ls k xs
unfolding Scoped
all_known ls ctx k nil w = tt
all_known ls ctx k (Exprs.cons a xs) w = (resolved_known ls ctx k a w.0, all_known ls ctx k xs w.1)

module _ (language : Language) (ls : Lines) (W : ResolvedLines ls) (contexts : RightContexts ls) (right : RightMiddles language ls) (ctx : List ℕ) where
  -- ---- contraction

  pub keep_function : {sc : List Expr} {a p t c k p' q' : Expr} → Liberal language ls ctx sc (abs p t) c → Reduces ls c (abs p' q') → Liberal language ls ctx sc a k → Serves language ls k p'
      → Resolved ls ctx (length sc) a → Known ls (length sc) p → Resolved ls ctx (suc (length sc)) t → KnownScope ls sc → Kept language ls ctx sc (substitute a 0 t) (substitute a 0 q')
  keep_function {a = a} {p' = p'} {q' = q'} (by_abstraction {p = p} {c = c} hp ip ht r) red ha e wa wp wt s =
      let closed = lines_closed ls W in
      let (ep, ec) = over_reaches language ls p c (subst (λ z. Reduces ls z (abs p' q')) r red) in
      kept_equal language ls W ctx (liberal_substitute language ls W contexts ctx ha (serves_then_equal language ls closed e (equal_sym ls ep)) ht wa wp wt s)
      (equal_substitute ls closed 0 (equal_refl ls a) ec)

  -- ---- unfolding

  serves_put : (us : List ℕ) (xs : Exprs) {a b : Expr} → Serves language ls a b → KnownCategory ls 0 a → KnownCategory ls 0 b
      → Serves language ls (instantiate us xs 0 a) (instantiate us xs 0 b)
  unfolding unf
  serves_put us xs {a} {b} e x y = rw (unf_is us xs a, unf_is us xs b) (serves_sub ls W e _ (arg xs us) 0 x y)

  pub keep_middle : {sc : List Expr} {v : ℕ} {l : Line} {xs : Exprs} {m : Expr} → IsLine ls v l → l.kind ≡ abbreviation m → Fits language ls ctx sc l.context l.context nil xs
      → Resolved ls ctx (length sc) (const v xs) → KnownScope ls sc → Kept language ls ctx sc (instantiate l.context xs 0 m) (instantiate l.context xs 0 l.category)
  unfolding Scoped ScopedScope
  keep_middle {sc} {v} {l} {xs} {m} i q f w s =
      let M = right v l m i q in
      let wm : Resolved ls l.context 0 m = (W.at i).middle m q in
      kept_serves language ls W ctx
      (liberal_instantiate language ls W contexts ctx (contexts v l i) f M.has wm (constant_count ls W w.0 i) w.1 (all_known ls ctx (length sc) xs w.1) s)
      (serves_put l.context xs M.serves (known_liberal language ls l.context W M.has (resolved_known ls l.context 0 m wm) tt) (known_line ls W i))

  pub keep_delta : {sc : List Expr} {v : ℕ} {l : Line} {xs : Exprs} {m r : Expr} → Liberal language ls ctx sc (const v xs) r → IsLine ls v l → l.kind ≡ abbreviation m
      → Resolved ls ctx (length sc) (const v xs) → KnownScope ls sc → Kept language ls ctx sc (instantiate l.context xs 0 m) r
  keep_delta {sc} {l = l} {xs} {m} {r} (by_constant {l = k} j f q) i e w s =
      let same : k ≡ l = line_unique j i in
      let f' : Fits language ls ctx sc l.context l.context nil xs = subst (λ (z : Line). Fits language ls ctx sc z.context z.context nil xs) same f in
      kept_path language ls W ctx (keep_middle i e f' w s) (ap (λ (z : Line). instantiate z.context xs 0 z.category) (sym same) ∙ sym q)

  -- ---- head steps

  function_ends : {sc : List Expr} (a : Expr) {b c p q : Expr} → Liberal language ls ctx sc b c → Reduces ls c (abs p q) → Supertype (substitute a 0 q) → Resolved ls ctx (length sc) a
      → Resolved ls ctx (length sc) b → KnownScope ls sc
      → Supertype c
  unfolding ScopedCategory
  function_ends {sc} a {b} {c} {p} {q} hb red d wa wb s =
      let wc : KnownCategory ls (length sc) c = known_liberal language ls ctx W hb (resolved_known ls ctx (length sc) b wb) s in
      let wf : KnownCategory ls (length sc) (abs p q) = known_category_steps ls W (length sc) red wc in
      let e : Ends d.sort q = ends_back ls (length sc) a q d.is_basic (resolved_known ls ctx (length sc) a wa) wf.1 d.ends in
      record { sort = d.sort; is_basic = d.is_basic; ends = reaches_ends ls W (length sc) d.is_basic wc red (before e) }

  no_application : {a f : Expr} → ¬ Supertype (app a f)
  no_application {a} {f} h = go h.is_basic h.ends
    where
      go : {s : Expr} → Basic s → Ends s (app a f) → ⊥
      go b itself = elim b [ ]

  pub head_kept : {e e' : Expr} → HeadTo ls e e' → (sc : List Expr) (d : Expr) → Liberal language ls ctx sc e d → Supertype d → Resolved ls ctx (length sc) e → KnownScope ls sc
      → Kept language ls ctx sc e' d
  unfolding Scoped
  head_kept (hbeta {a = a} {p = p} {t = t} q) sc d (by_application hb red ha e i) y w s =
      subst (λ z. Kept language ls ctx sc z d) (inst_is a t ∙ sym q)
      (kept_path language ls W ctx (keep_function hb red ha e w.0 (resolved_known ls ctx (length sc) p w.1.0) w.1.1 s) (sym i))
  head_kept (hbeta q) sc d (by_equal x hb e wf hf z red ha k i) y w s = absurd (no_application (subst Supertype i y))
  head_kept (hdelta {v = v} {m = m} {r = r} k q) sc d h y w s =
      subst (λ z. Kept language ls ctx sc z d) (unf_is (line_of ls v).context r m ∙ sym q) (keep_delta h (abbreviation_line ls v k) k w s)
  head_kept (hunder x) sc d (by_application {a = a} {c = c} hb red ha e i) y w s =
      let y' : Supertype c = function_ends a hb red (subst Supertype i y) w.0 w.1 s in
      kept_path language ls W ctx (kept_app language ls W ctx (head_kept x sc c hb y' w.1 s) red (kept_same language ls W ctx ha) e) (sym i)
  head_kept (hunder x) sc d (by_equal z hb e wf hf u red ha k i) y w s = absurd (no_application (subst Supertype i y))

  pub head_step_of : {e e' : Expr} → HeadTo ls e e' → Step ls e e'
  head_step_of (hbeta {a = a} {t = t} q) = beta (q ∙ sym (inst_is a t))
  head_step_of (hdelta {v = v} {m = m} {r = r} k q) = delta (abbreviation_line ls v k) k (q ∙ sym (unf_is (line_of ls v).context r m))
  head_step_of (hunder x) = in_b (head_step_of x)

  pub heads_steps : {e e' : Expr} → HeadsTo ls e e' → Reduces ls e e'
  heads_steps done = Steps.done
  heads_steps (more x h) = Steps.step (head_step_of x) (heads_steps h)

  pub resolved_steps : (k : ℕ) {e e' : Expr} → Reduces ls e e' → Resolved ls ctx k e → Resolved ls ctx k e'
  resolved_steps k r w = scoped_steps ls (ConstantOf ls) (VariableOf ls ctx) (kept_middles ls W) k r w

  pub heads_kept : {e e' : Expr} → HeadsTo ls e e' → (sc : List Expr) (d : Expr) → Liberal language ls ctx sc e d → Supertype d → Resolved ls ctx (length sc) e → KnownScope ls sc
      → Kept language ls ctx sc e' d
  heads_kept done sc d h y w s = kept_same language ls W ctx h
  heads_kept (more {b = b} x r) sc d h y w s =
      let k = head_kept x sc d h y w s in
      let w' : Resolved ls ctx (length sc) b = resolved_steps (length sc) (steps_one ls (head_step_of x)) w in
      let y' = served_supertype language ls W ctx (length sc) (known_liberal language ls ctx W k.has (resolved_known ls ctx (length sc) b w') s) k.serves y in
      kept_serves language ls W ctx (heads_kept r sc k.found k.has y' w' s) k.serves

  -- ---- domains

  pub normal_abs : {h : Expr} → HeadNormal ls h → {p q : Expr} → Reduces ls h (abs p q) → (p' : Expr) × (q' : Expr) × (h ≡ abs p' q')
  normal_abs (habs {p} {t}) r = (p, t, refl)
  normal_abs (hneutral n) r = absurd (never_abs ls (hneutral n) (neutral_not_abs ls n) r)

  -- an abstraction that a head form is
  abs_domain : {sc : List Expr} {p t d : Expr} → Kept language ls ctx sc (abs p t) d → {p' q' : Expr} → Reduces ls d (abs p' q') → Equal ls p p'
  abs_domain {p = p} {t = t} k r = go k.has (serves_reached language ls (lines_closed ls W) k.serves r)
    where
      go : {sc : List Expr} {c p' q' : Expr} → Liberal language ls ctx sc (abs p t) c → Reached language ls c p' q' → Equal ls p p'
      go (by_abstraction {c = c} hp ip ht i) f =
          let (ep, ec) = over_reaches language ls p c (subst (λ z. Reduces ls z (abs f.domain f.body)) i f.reaches) in
          equal_trans ls (lines_closed ls W) ep (equal_sym ls f.domains)

  -- f has a category that reaches `[x,p]..` and is equal to `[x,p']..`: the domains are equal
  pub domains_agree : {sc : List Expr} {f d p q p' q' : Expr} → Liberal language ls ctx sc f d → Supertype d → Reduces ls d (abs p q) → Equal ls f (abs p' q')
      → Resolved ls ctx (length sc) f → KnownScope ls sc → Equal ls p' p
  domains_agree {sc} {f} {d} {p} {q} {p'} {q'} hf y r e w s = go (normal_abs F.normal F.reaches)
    where
      common : (p₁ : Expr) × (q₁ : Expr) × (e.common ≡ abs p₁ q₁) × Reduces ls p' p₁ × Reduces ls q' q₁
      common = abs_steps ls e.from_right

      F : HeadFirst ls (lines_closed ls W) f (abs common.0 common.1)
      F = head_first ls (lines_closed ls W) (steps_eq ls e.from_left common.2) habs

      K : Kept language ls ctx sc F.form d
      K = heads_kept F.heads sc d hf y w s

      go : (p₂ : Expr) × (q₂ : Expr) × (F.form ≡ abs p₂ q₂) → Equal ls p' p
      go (p₂, q₂, i) =
          let C = lines_closed ls W in
          let k : Kept language ls ctx sc (abs p₂ q₂) d = subst (λ z. Kept language ls ctx sc z d) i K in
          let h : Equal ls (abs p₂ q₂) (abs p' q') = subst (λ z. Equal ls z (abs p' q')) i (equal_after ls C (heads_steps F.heads) e) in
          equal_trans ls C (equal_sym ls (equal_abs_inv ls h).0) (abs_domain k r)
