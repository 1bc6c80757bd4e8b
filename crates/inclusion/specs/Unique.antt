-- All categories of an expression are equal.
use Rattle.std.specs.Prelude.{◌≡◌, ◌↔◌, Bool, List, ℕ, suc, length}
use Rattle.std.proofs.Math.Path.{refl, sym, ap}
use Rattle.std.proofs.Common.{subst, ◌∙◌, arith}
use Rattle.std.proofs.Math.Bool.{true, false}
use Rattle.aut68.specs.Language.{Language, aut68, aut_qe}
use Rattle.aut68.specs.Expr.{Expr, type, app, abs, is_type, over_binding}
use Rattle.aut68.specs.Substitution.{lift, substitute, instantiate}
use Rattle.aut68.specs.Lines.{Line, Lines}
use Rattle.aut68.specs.Rules.Steps.{Reduces, Equal, beta}
use Rattle.aut68.specs.Rules.Serving.{a_type, Ends, itself, before}
use Rattle.aut68.specs.Rules.Categories.{DomainAt, innermost, outside}
use Rattle.aut68.specs.Rules.Resolved.{Scoped, Known}
use Rattle.lookup.specs.LineNumbers.{line_unique}
use Rattle.calculus.specs.Reductions.{type_no_abs}
use Rattle.calculus.specs.Equality.{equal_refl, equal_sym, equal_trans, equal_path, equal_step, equal_steps, equal_after, equal_app, equal_abs, equal_abs_inv, equal_substitute, abs_steps}
use Rattle.calculus.specs.Scoped.{ScopedScope}
use Rattle.calculus.specs.Resolved.{KnownScope, KnownCategory, ResolvedLines, lines_closed}
use Rattle.calculus.specs.Actions.{is_type_true}
use Rattle.inclusion.specs.Knowing.{equal_ends}
use Rattle.inclusion.specs.Liberal.{Liberal, by_variable, by_bound, by_constant, by_application, by_equal, by_abstraction, known_liberal}

pub domain_one : {p p' : Expr} {sc : List Expr} {i : ℕ} → DomainAt p sc i → DomainAt p' sc i → p ≡ p'
domain_one innermost innermost = refl
domain_one (outside d) (outside e) = domain_one d e

pub is_type_false : (e : Expr) → is_type e ≡ false → ¬ (e ≡ type)
unfolding is_type
is_type_false e q h =
    let r : is_type type ≡ false = ap is_type (sym h) ∙ q in
    let z : ◌≡◌ {A = ℕ} 0 1 = cc in
    omega arith

module _ (ls : Lines) (W : ResolvedLines ls) where
  -- an application to a function, and the same after a step
  pub app_reached : {a c p q : Expr} → Reduces ls c (abs p q) → Equal ls (substitute a 0 q) (app a c)
  app_reached {a} {c} {p} {q} r =
      equal_sym ls (equal_trans ls (lines_closed ls W) (equal_app ls (equal_refl ls a) (equal_steps ls r)) (equal_step ls (beta refl)))

  abs_not_type : {p t : Expr} → ¬ Equal ls (abs p t) type
  abs_not_type {p} {t} h =
      let (p', t', q, x, y) = abs_steps ls h.from_left in
      type_no_abs ls (subst (λ z. Reduces ls type z) q h.from_right)

  -- nothing but `type` is equal to `type`
  pub known_type : (k : ℕ) (c : Expr) → KnownCategory ls k c → Equal ls c type → c ≡ type
  known_type k c w h = go c (equal_ends ls W k a_type w h itself) h
    where
      go : (c : Expr) → Ends type c → Equal ls c type → c ≡ type
      go c itself h = refl
      go c (before e) h = absurd (abs_not_type h)

  -- equal categories are `type` together
  pub equal_types : (k : ℕ) (c d : Expr) → KnownCategory ls k c → KnownCategory ls k d → Equal ls c d → (c ≡ type) ↔ (d ≡ type)
  equal_types k c d w x h = ((λ q. known_type k d x (subst (λ z. Equal ls d z) q (equal_sym ls h))), (λ q. known_type k c w (subst (λ z. Equal ls c z) q h)))

  pub over_equal : (language : Language) (k : ℕ) (p c c' : Expr) → KnownCategory ls k c → KnownCategory ls k c' → Equal ls c c' → Equal ls (over_binding language p c) (over_binding language p c')
  unfolding over_binding
  over_equal aut68 k p c c' w w' h = go (is_type c) (is_type c') refl refl
    where
      go : (t t' : Bool) → is_type c ≡ t → is_type c' ≡ t' → Equal ls (elim t [ true ↦ type | false ↦ abs p c ]) (elim t' [ true ↦ type | false ↦ abs p c' ])
      go true true e e' = equal_refl ls type
      go true false e e' = absurd (is_type_false c' e' (known_type k c' w' (subst (λ z. Equal ls c' z) (is_type_true c e) (equal_sym ls h))))
      go false true e e' = absurd (is_type_false c e (known_type k c w (subst (λ z. Equal ls c z) (is_type_true c' e') h)))
      go false false e e' = equal_abs ls (equal_refl ls p) h
  over_equal aut_qe k p c c' w w' h = equal_abs ls (equal_refl ls p) h

  module _ (language : Language) (ctx : List ℕ) where
    pub liberal_unique : {sc : List Expr} {e c c' : Expr} → Liberal language ls ctx sc e c → Liberal language ls ctx sc e c' → Known ls (length sc) e → KnownScope ls sc → Equal ls c c'
    unfolding Scoped ScopedScope
    liberal_unique (by_variable h q) (by_variable k r) w s = equal_path ls (q ∙ ap (λ (l : Line). l.category) (line_unique h k) ∙ sym r)
    liberal_unique (by_bound {i = i} d q) (by_bound d' r) w s = equal_path ls (q ∙ ap (lift (suc i) 0) (domain_one d d') ∙ sym r)
    liberal_unique (by_constant {xs = xs} h f q) (by_constant k g r) w s =
        equal_path ls (q ∙ ap (λ (l : Line). instantiate l.context xs 0 l.category) (line_unique h k) ∙ sym r)
    liberal_unique (by_application {a = a} {q = q} hb red ha e r) (by_application {q = q'} hb' red' ha' e' r') w s =
        let h = liberal_unique hb hb' w.1 s in
        let k = equal_sym ls (equal_after ls (lines_closed ls W) red' (equal_sym ls (equal_after ls (lines_closed ls W) red h))) in
        rw (r, r') (equal_substitute ls (lines_closed ls W) 0 (equal_refl ls a) (equal_abs_inv ls k).1)
    liberal_unique (by_application {a = a} {q = q} hb red ha e r) (by_equal {f = f} x hb' e' wf hf d rd ha' k r') w s =
        let h = liberal_unique hb hb' w.1 s in
        rw (r, r') (equal_trans ls (lines_closed ls W) (app_reached red) (equal_app ls (equal_refl ls a) (equal_trans ls (lines_closed ls W) h e')))
    liberal_unique (by_equal {a = a} {f = f} x hb e wf hf d rd ha k r) (by_application {q = q} hb' red ha' e' r') w s =
        let h = liberal_unique hb hb' w.1 s in
        rw (r, r') (equal_sym ls (equal_trans ls (lines_closed ls W) (app_reached red) (equal_app ls (equal_refl ls a) (equal_trans ls (lines_closed ls W) (equal_sym ls h) e))))
    liberal_unique (by_equal {a = a} x hb e wf hf d rd ha k r) (by_equal x' hb' e' wf' hf' d' rd' ha' k' r') w s =
        let h = liberal_unique hb hb' w.1 s in
        rw (r, r') (equal_app ls (equal_refl ls a) (equal_trans ls (lines_closed ls W) (equal_sym ls e) (equal_trans ls (lines_closed ls W) h e')))
    liberal_unique {sc} (by_abstraction {p = p} {c = c} hp ip ht r) (by_abstraction {c = c'} hp' ip' ht' r') w s =
        rw (r, r')
        (over_equal language (suc (length sc)) p c c' (known_liberal language ls ctx W ht w.1 (w.0, s)) (known_liberal language ls ctx W ht' w.1 (w.0, s))
        (liberal_unique ht ht' w.1 (w.0, s)))
