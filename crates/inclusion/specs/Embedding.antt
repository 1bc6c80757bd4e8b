-- Each category that the rules give is reached from one of the liberal relation, which is valid.
use Rattle.std.specs.Prelude.{◌≡◌, refl, Bool, true, false, List, [], ◌∷◌, ℕ, suc, length}
use Rattle.std.proofs.Common.{sym, subst, inl, inr}
use Rattle.std.proofs.Math.Option.{none}
use Rattle.aut68.specs.Language.{Language, aut68, aut_qe, Extended}
use Rattle.aut68.specs.Expr.{Expr, Exprs, type, app, abs, is_type, shape, other, over_binding}
use Rattle.aut68.specs.Substitution.{substitute}
use Rattle.aut68.specs.Lines.{Lines}
use Rattle.aut68.specs.Rules.Names.{Context}
use Rattle.aut68.specs.Rules.Steps.{Reduces, Equal}
use Rattle.aut68.specs.Rules.Steps
use Rattle.aut68.specs.Rules.Serving.{Serves, IsType}
use Rattle.aut68.specs.Rules.Categories.{HeadReduces, Category, of_variable, of_bound, of_constant, of_application, of_second_chance, of_abstraction, Fit, all_fit, one_fits}
use Rattle.aut68.specs.Procedure.HeadStep.{head_step, left}
use Rattle.aut68.specs.Rules.Resolved.{Scoped, VariableOf, ConstantOf, Resolved}
use Rattle.lookup.specs.Contexts.{RightContexts}
use Rattle.calculus.specs.Reductions.{steps_trans, steps_eq, steps_app, steps_abs, type_steps}
use Rattle.calculus.specs.Equality.{equal_sym, equal_steps, equal_abs_inv, abs_steps}
use Rattle.calculus.specs.HeadForms.{HeadNormal, habs, hneutral, Neutral, IsAbs, head_none, shape_other, normal_neutral, neutral_not_abs}
use Rattle.calculus.specs.HeadFirst.{HeadsTo, HeadFirst, head_first}
use Rattle.calculus.specs.Scoped.{ScopedScope, scoped_ends}
use Rattle.calculus.specs.Resolved.{KnownScope, KnownCategory, AllResolved, ResolvedScope, ResolvedLines, lines_closed, resolved_known}
use Rattle.inclusion.specs.Endings.{ends_steps}
use Rattle.inclusion.specs.Serves.{equal_serves, serves_then_equal, equal_then_serves, serves_reached}
use Rattle.calculus.specs.HeadSearch.{head_reduces}
use Rattle.inclusion.specs.Liberal.{Liberal, by_variable, by_bound, by_constant, by_application, by_equal, by_abstraction, Fits, none_fits, more_fits, InContext}
use Rattle.inclusion.specs.Liberal.{NestedContext, known_liberal, resolved_liberal, in_context_steps, head_resolved}
use Rattle.calculus.specs.Actions.{is_type_true}
use Rattle.inclusion.specs.Unique.{known_type, is_type_false}
use Rattle.inclusion.specs.Neutral.{equal_alike, alike_unique}
use Rattle.inclusion.specs.Keeping.{reduces_substitute, is_type_served}
use Rattle.inclusion.specs.HeadKept.{heads_kept, heads_steps, resolved_steps, normal_abs}
use Rattle.inclusion.specs.Validity.{Sorted, Valid, SortedScope, one_binding, RightLines, type_super, kept_sorted, sorted_resolved, valid_variable, valid_bound}
use Rattle.inclusion.specs.Validity.{valid_constant, valid_application, valid_second, valid_abstraction}

pub scope_known : (ls : Lines) (ctx : List ℕ) (sc : List Expr) → ResolvedScope ls ctx sc → KnownScope ls sc
unfolding ScopedScope
scope_known ls ctx [] s = tt
scope_known ls ctx (p ∷ sc) s = (resolved_known ls ctx (length sc) p s.0, scope_known ls ctx sc s.1)

over_reduces : (language : Language) (ls : Lines) → ResolvedLines ls → (k : ℕ) (p c d : Expr) → KnownCategory ls k c → Reduces ls c d → Reduces ls (over_binding language p c) (over_binding language p d)
unfolding over_binding
over_reduces aut68 ls W k p c d w r = go (is_type c) (is_type d) refl refl
  where
    go : (t t' : Bool) → is_type c ≡ t → is_type d ≡ t' → Reduces ls (elim t as (λ _. Expr) [ true ↦ type | false ↦ abs p c ]) (elim t' as (λ _. Expr) [ true ↦ type | false ↦ abs p d ])
    go true true e e' = Steps.done
    go true false e e' = absurd (is_type_false d e' (type_steps ls (subst (λ z. Reduces ls z d) (is_type_true c e) r)))
    go false true e e' = absurd (is_type_false c e (known_type ls W k c w (subst (λ z. Equal ls c z) (is_type_true d e') (equal_steps ls r))))
    go false false e e' = steps_abs ls Steps.done r
over_reduces aut_qe ls W k p c d w r = steps_abs ls Steps.done r

pub record Embedded (language : Language) (ls : Lines) (ctx : List ℕ) (sc : List Expr) (e c : Expr) : Type 0 where
  pub category : Expr
  pub liberal : Liberal language ls ctx sc e category
  pub reaches : Reduces ls category c
  pub valid : Valid language ls ctx sc category

module _ (language : Language) (ls : Lines) (W : ResolvedLines ls) (contexts : RightContexts ls) (right : RightLines language ls)
    (ctx : List ℕ) {n : ℕ} (C : Context ls n ctx) (N : NestedContext ls ctx) where
  embed_application : {sc : List Expr} {a b c k p q r : Expr} → Embedded language ls ctx sc b c → Reduces ls c (abs p q) → Embedded language ls ctx sc a k → Serves language ls k p
      → r ≡ substitute a 0 q
      → Resolved ls ctx (length sc) a → Resolved ls ctx (length sc) b → ResolvedScope ls ctx sc → Embedded language ls ctx sc (app a b) r
  embed_application {sc} {a} {b} {c} {k} {p} {q} {r} B red A e i wa wb s = go (normal_abs language ls W contexts right.middles ctx F.normal F.reaches)
    where
      F : HeadFirst ls (lines_closed ls W) B.category (abs p q)
      F = head_first ls (lines_closed ls W) (steps_trans ls B.reaches red) habs

      go : (p' : Expr) × (q' : Expr) × (F.form ≡ abs p' q') → Embedded language ls ctx sc (app a b) r
      go (p', q', j) =
          let heads : HeadsTo ls B.category (abs p' q') = subst (λ z. HeadsTo ls B.category z) j F.heads in
          let later : Reduces ls (abs p' q') (abs p q) = subst (λ z. Reduces ls z (abs p q)) j F.reaches in
          let (x, y, z, u, v) = abs_steps ls later in
          let ep : Equal ls p p' = equal_sym ls (equal_abs_inv ls (equal_steps ls later)).0 in
          let vq : Reduces ls q' q = steps_eq ls v (body_same z) in
          let es : Serves language ls A.category p' =
          equal_then_serves language ls (lines_closed ls W) (equal_steps ls A.reaches) (serves_then_equal language ls (lines_closed ls W) e ep) in
          record {
            category = substitute a 0 q';
            liberal = by_application B.liberal (heads_steps language ls W contexts right.middles ctx heads) A.liberal es refl;
            reaches = steps_eq ls (reduces_substitute ls (lines_closed ls W) a vq) (sym i);
            valid =
                valid_application language ls W contexts right ctx B.valid (resolved_liberal language ls ctx W N B.liberal wb s) heads A.liberal es wa (scope_known ls ctx sc s);
          }
        where
          body_same : {p₁ q₁ p₂ q₂ : Expr} → abs p₁ q₁ ≡ abs p₂ q₂ → q₂ ≡ q₁
          body_same e = cc

  embed_second : {sc : List Expr} {a b c f d k p q r : Expr} → Extended language → Embedded language ls ctx sc b c → HeadReduces ls c f → left (head_step ls f) ≡ none → shape f ≡ other
      → (Resolved ls ctx (length sc) f → Embedded language ls ctx sc f d) → Category language ls sc f d → Reduces ls d (abs p q) → Embedded language ls ctx sc a k → Serves language ls k p
      → r ≡ app a f
      → Resolved ls ctx (length sc) a → Resolved ls ctx (length sc) b → ResolvedScope ls ctx sc → Embedded language ls ctx sc (app a b) r
  embed_second {sc} {a} {b} {c} {f} {d} {k} {p} {q} {r} x B red n o F' hf rd A e i wa wb s = go B.valid
    where
      reach : Reduces ls B.category f
      reach = steps_trans ls B.reaches (head_reduces ls red)

      neutral : Neutral ls f
      neutral = normal_neutral ls (head_none ls f n) (shape_other f o)

      F : HeadFirst ls (lines_closed ls W) B.category f
      F = head_first ls (lines_closed ls W) reach (hneutral neutral)

      inside : InContext ls ctx (length sc) B.category
      inside = resolved_liberal language ls ctx W N B.liberal wb s

      wf : Resolved ls ctx (length sc) f
      wf = head_resolved language ls ctx W N (length sc) (in_context_steps language ls ctx W N (length sc) reach inside) o hf

      E : Embedded language ls ctx sc f d
      E = F' wf

      not_abs : {h : Expr} → HeadNormal ls h → Reduces ls h f → Neutral ls h
      not_abs habs r =
          let (p₁, q₁, z, u, v) = abs_steps ls r in
          absurd (neutral_not_abs ls neutral (subst IsAbs (sym z) tt))
      not_abs (hneutral m) r = m

      go : Valid language ls ctx sc B.category → Embedded language ls ctx sc (app a b) r
      go (inl y) = absurd (scoped_ends (VariableOf ls ctx) (ConstantOf ls) (length sc) f y.is_basic (ends_steps ls y.is_basic y.ends reach) wf)
      go (inr S) =
          let M = right.middles in
          let known = scope_known ls ctx sc s in
          let wc : Resolved ls ctx (length sc) B.category = sorted_resolved language ls W ctx (length sc) inside S in
          let wh : Resolved ls ctx (length sc) F.form = resolved_steps language ls W contexts M ctx (length sc) (heads_steps language ls W contexts M ctx F.heads) wc in
          let T = kept_sorted language ls W ctx (heads_kept language ls W contexts M ctx F.heads sc S.category S.has S.super wc known) S.super
          (resolved_known ls ctx (length sc) F.form wh) known in
          let same : Equal ls T.category E.category =
          alike_unique ls W language ctx (equal_alike ls W (not_abs F.normal F.reaches) neutral (equal_steps ls F.reaches)) T.has E.liberal in
          let g = serves_reached language ls (lines_closed ls W) (equal_serves language ls same) (steps_trans ls E.reaches rd) in
          let es : Serves language ls A.category g.domain =
          equal_then_serves language ls (lines_closed ls W) (equal_steps ls A.reaches) (serves_then_equal language ls (lines_closed ls W) e g.domains) in
          record {
            category = app a F.form;
            liberal =
                by_equal x B.liberal (equal_steps ls (heads_steps language ls W contexts M ctx F.heads)) wh T.has T.super g.reaches A.liberal es refl;
            reaches = steps_eq ls (steps_app ls Steps.done F.reaches) (sym i);
            valid = inr (valid_second language ls W ctx T g.reaches A.liberal es);
          }

  embed_abstraction : {sc : List Expr} {p t k c r : Expr} → Embedded language ls ctx sc p k → IsType language k → Embedded language ls ctx (p ∷ sc) t c → r ≡ over_binding language p c
      → Resolved ls ctx (length sc) p → Resolved ls ctx (suc (length sc)) t → ResolvedScope ls ctx sc → Embedded language ls ctx sc (abs p t) r
  unfolding ScopedScope
  embed_abstraction {sc} {p} {t} {k} {c} P ip T i wp wt s =
      let known = scope_known ls ctx sc s in
      let kp = resolved_known ls ctx (length sc) p wp in
      let it = is_type_served language ls W (length sc) P.category k (known_liberal language ls ctx W P.liberal kp known) (equal_serves language ls (equal_steps ls P.reaches)) ip in
      record {
        category = over_binding language p T.category;
        liberal = by_abstraction P.liberal it T.liberal refl;
        reaches =
            steps_eq ls
            (over_reduces language ls W (suc (length sc)) p T.category c (known_liberal language ls ctx W T.liberal (resolved_known ls ctx (suc (length sc)) t wt) (kp, known)) T.reaches)
            (sym i);
        valid = valid_abstraction language ls W ctx T.category P.liberal it T.valid;
      }

  sorted_domain : {sc : List Expr} {p k : Expr} → Embedded language ls ctx sc p k → IsType language k → Resolved ls ctx (length sc) p → ResolvedScope ls ctx sc → Sorted language ls ctx sc p
  sorted_domain {sc} {p} {k} P ip wp s =
      let it = is_type_served language ls W (length sc) P.category k (known_liberal language ls ctx W P.liberal (resolved_known ls ctx (length sc) p wp) (scope_known ls ctx sc s))
      (equal_serves language ls (equal_steps ls P.reaches)) ip in
      record { category = P.category; has = P.liberal; super = type_super it }

  mutual
    unfolding Scoped ScopedScope

    pub embed : {sc : List Expr} {e c : Expr} → Category language ls sc e c → Resolved ls ctx (length sc) e → ResolvedScope ls ctx sc → SortedScope language ls ctx sc → Embedded language ls ctx sc e c
    embed {sc} (of_variable {l = l} {r = r} i q) w s T =
        record {
          category = r;
          liberal = by_variable i q;
          reaches = Steps.done;
          valid = subst (λ z. Valid language ls ctx sc z) (sym q) (valid_variable language ls W contexts right ctx C w i (scope_known ls ctx sc s));
        }
    embed {sc} (of_bound {r = r} d q) w s T =
        record { category = r; liberal = by_bound d q; reaches = Steps.done; valid = subst (λ z. Valid language ls ctx sc z) (sym q) (inr (valid_bound language ls W ctx d T)) }
    embed {sc} (of_constant {l = l} {xs = xs} {r = r} i f q) w s T =
        let g = embed_fit f w.1 s T in
        record {
          category = r;
          liberal = by_constant i g q;
          reaches = Steps.done;
          valid = subst (λ z. Valid language ls ctx sc z) (sym q) (valid_constant language ls W contexts right ctx i g w (scope_known ls ctx sc s));
        }
    embed (of_application hb red ha e i) w s T = embed_application (embed hb w.1 s T) red (embed ha w.0 s T) e i w.0 w.1 s
    embed (of_second_chance x hb red n o hf rd ha e i) w s T =
        embed_second x (embed hb w.1 s T) red n o (λ wf. embed hf wf s T) hf rd (embed ha w.0 s T) e i w.0 w.1 s
    embed (of_abstraction {p = p} hp ip ht i) w s T =
        let P = embed hp w.0 s T in
        embed_abstraction P ip (embed ht w.1 (w.0, s) (one_binding (sorted_domain P ip w.0 s) T)) i w.0 w.1 s

    pub embed_fit : {sc : List Expr} {context vs : List ℕ} {earlier xs : Exprs} → Fit language ls sc context vs earlier xs → AllResolved ls ctx (length sc) xs → ResolvedScope ls ctx sc
        → SortedScope language ls ctx sc
        → Fits language ls ctx sc context vs earlier xs
    embed_fit all_fit w s T = none_fits
    embed_fit (one_fits i h e f) w s T =
        let A = embed h w.0 s T in
        more_fits i A.liberal (equal_then_serves language ls (lines_closed ls W) (equal_steps ls A.reaches) e) (embed_fit f w.1 s T)
