-- Categories under a renaming of the bound variables: further bindings around an expression change nothing.
use Rattle.std.specs.Prelude.{◌≡◌, refl, Bool, true, false, List, ◌∷◌, ℕ, zero, suc, ◌<◌, length}
use Rattle.std.proofs.Common.{ap, sym, ◌∙◌, arith}
use Rattle.aut68.specs.Language.{Language, aut68, aut_qe}
use Rattle.aut68.specs.Expr.{Expr, Exprs, type, prop, var, bound, const, app, abs, is_type, over_binding}
use Rattle.aut68.specs.Substitution.{lift, substitute, instantiate}
use Rattle.aut68.specs.Lines.{Line, Lines}
use Rattle.aut68.specs.Rules.Names.{IsLine}
use Rattle.aut68.specs.Rules.Steps.{Reduces, Equal}
use Rattle.aut68.specs.Rules.Serving.{Supertype, Serves, IsType, the_type, a_supertype}
use Rattle.aut68.specs.Rules.Categories.{DomainAt, innermost, outside}
use Rattle.aut68.specs.Rules.Resolved.{VariableOf, ConstantOf, VariableLine}
use Rattle.calculus.specs.Renaming.{ren, rens, upr, raise, ClosedAt, ren_inst, ren_unf, lift_ren, ren_is_sub, sub_closed, sub_id}
use Rattle.calculus.specs.Cutoffs.{inst_is, unf_is}
use Rattle.calculus.specs.Reductions.{steps_map}
use Rattle.calculus.specs.Parallel.{par_ren, step_par, par_steps}
use Rattle.calculus.specs.Scoped.{category_closed, scoped_ren}
use Rattle.calculus.specs.Resolved.{ResolvedLines, lines_closed, known_line}
use Rattle.inclusion.specs.Endings.{ends_ren, drops_ren}
use Rattle.inclusion.specs.Liberal.{Liberal, by_variable, by_bound, by_constant, by_application, by_equal, by_abstraction, Fits, none_fits, more_fits}
use Rattle.inclusion.specs.Agreeing.{raise_lift, raise_once, rens_snoc}

-- what has no loose bound variables stays
pub ren_closed : (ρ : ℕ → ℕ) (e : Expr) → ClosedAt 0 e → ren ρ e ≡ e
ren_closed ρ e c = ren_is_sub ρ e ∙ sub_closed {σ' = bound} var (λ i l. absurd (omega arith)) e c ∙ sub_id e

pub ren_substitute : (ρ : ℕ → ℕ) (a t : Expr) → ren ρ (substitute a 0 t) ≡ substitute (ren ρ a) 0 (ren (upr ρ) t)
ren_substitute ρ a t = ap (ren ρ) (inst_is a t) ∙ ren_inst ρ a t ∙ sym (inst_is (ren ρ a) (ren (upr ρ) t))

pub ren_instantiate : (ρ : ℕ → ℕ) (us : List ℕ) (xs : Exprs) (m : Expr) → ClosedAt 0 m → ren ρ (instantiate us xs 0 m) ≡ instantiate us (rens ρ xs) 0 m
ren_instantiate ρ us xs m c = ap (ren ρ) (unf_is us xs m) ∙ ren_unf us m c ρ xs ∙ sym (unf_is us (rens ρ xs) m)

is_type_ren : (ρ : ℕ → ℕ) (e : Expr) → is_type (ren ρ e) ≡ is_type e
unfolding ren is_type
is_type_ren ρ type = refl
is_type_ren ρ prop = refl
is_type_ren ρ (var v) = refl
is_type_ren ρ (bound i) = refl
is_type_ren ρ (const v xs) = refl
is_type_ren ρ (app a b) = refl
is_type_ren ρ (abs p t) = refl

over_ren : (language : Language) (ρ : ℕ → ℕ) (p c : Expr) → ren ρ (over_binding language p c) ≡ over_binding language (ren ρ p) (ren (upr ρ) c)
unfolding over_binding ren
over_ren aut68 ρ p c = go (is_type c) ∙ ap (λ t. elim t as (λ _. Expr) [ true ↦ type | false ↦ abs (ren ρ p) (ren (upr ρ) c) ]) (sym (is_type_ren (upr ρ) c))
  where
    go : (t : Bool) → ren ρ (elim t [ true ↦ type | false ↦ abs p c ]) ≡ elim t as (λ _. Expr) [ true ↦ type | false ↦ abs (ren ρ p) (ren (upr ρ) c) ]
    go true = refl
    go false = refl
over_ren aut_qe ρ p c = refl

pub supertype_ren : {e : Expr} (ρ : ℕ → ℕ) → Supertype e → Supertype (ren ρ e)
supertype_ren ρ h = record { sort = h.sort; is_basic = h.is_basic; ends = ends_ren ρ h.is_basic h.ends }

is_type_kept : {language : Language} {k : Expr} (ρ : ℕ → ℕ) → IsType language k → IsType language (ren ρ k)
unfolding ren
is_type_kept ρ the_type = the_type
is_type_kept ρ (a_supertype x h) = a_supertype x (supertype_ren ρ h)

-- a domain of sc, and where it stands in sc'
pub record Moved (sc' : List Expr) (ρ : ℕ → ℕ) (p : Expr) (i : ℕ) : Type 0 where
  pub domain : Expr
  pub is_at : DomainAt domain sc' (ρ i)
  pub same : lift (suc (ρ i)) 0 domain ≡ ren ρ (lift (suc i) 0 p)

pub record Wider (sc sc' : List Expr) (ρ : ℕ → ℕ) : Type 0 where
  pub below : (i : ℕ) → i < length sc → ρ i < length sc'
  pub moved : {p : Expr} {i : ℕ} → DomainAt p sc i → Moved sc' ρ p i

wider_under : {sc sc' : List Expr} {ρ : ℕ → ℕ} (p : Expr) → Wider sc sc' ρ → Wider (p ∷ sc) (ren ρ p ∷ sc') (upr ρ)
unfolding upr
wider_under {sc} {sc'} {ρ} p h = record { below = lower; moved = λ d. go d }
  where
    lower : (i : ℕ) → i < suc (length sc) → upr ρ i < suc (length sc')
    lower zero l = omega arith
    lower (suc i) l = let m = h.below i (omega arith) in omega arith

    go : {q : Expr} {i : ℕ} → DomainAt q (p ∷ sc) i → Moved (ren ρ p ∷ sc') (upr ρ) q i
    go innermost = record { domain = ren ρ p; is_at = innermost; same = sym (raise_once (ren ρ p)) ∙ sym (lift_ren ρ p) ∙ ap (ren (upr ρ)) (raise_once p) }
    go {q} (outside {i = i} d) =
        let m = h.moved d in
        record {
          domain = m.domain;
          is_at = outside m.is_at;
          same = sym (raise_lift (suc (ρ i)) m.domain) ∙ ap raise m.same ∙ sym (lift_ren ρ (lift (suc i) 0 q)) ∙ ap (ren (upr ρ)) (raise_lift (suc i) q);
        }

module _ (ls : Lines) (W : ResolvedLines ls) where
  pub line_closed : {v : ℕ} {l : Line} → IsLine ls v l → ClosedAt 0 l.category
  line_closed {l = l} i = category_closed (VariableLine ls) (ConstantOf ls) 0 l.category (known_line ls W i)

  pub reduces_ren : (ρ : ℕ → ℕ) {a b : Expr} → Reduces ls a b → Reduces ls (ren ρ a) (ren ρ b)
  reduces_ren ρ h = steps_map ls (ren ρ) (λ a b s. par_steps ls (par_ren ls (lines_closed ls W) ρ (step_par ls s))) h

  pub equal_ren : (ρ : ℕ → ℕ) {a b : Expr} → Equal ls a b → Equal ls (ren ρ a) (ren ρ b)
  equal_ren ρ h = record { common = ren ρ h.common; from_left = reduces_ren ρ h.from_left; from_right = reduces_ren ρ h.from_right }

  module _ (language : Language) where
    pub serves_ren : (ρ : ℕ → ℕ) {a b : Expr} → Serves language ls a b → Serves language ls (ren ρ a) (ren ρ b)
    serves_ren ρ h = record {
      left = ren ρ h.left;
      right = ren ρ h.right;
      from_found = reduces_ren ρ h.from_found;
      from_wanted = reduces_ren ρ h.from_wanted;
      drops = drops_ren language ρ h.drops;
    }

    module _ (ctx : List ℕ) where
      mutual
        unfolding ren

        pub liberal_ren : {sc : List Expr} {e c : Expr} → Liberal language ls ctx sc e c → (sc' : List Expr) (ρ : ℕ → ℕ) → Wider sc sc' ρ → Liberal language ls ctx sc' (ren ρ e) (ren ρ c)
        liberal_ren (by_variable {l = l} i q) sc' ρ h = by_variable i (ap (ren ρ) q ∙ ren_closed ρ l.category (line_closed i))
        liberal_ren (by_bound d q) sc' ρ h = by_bound (h.moved d).is_at (ap (ren ρ) q ∙ sym (h.moved d).same)
        liberal_ren (by_constant {l = l} {xs = xs} i f q) sc' ρ h =
            by_constant i (fits_ren f sc' ρ h) (ap (ren ρ) q ∙ ren_instantiate ρ l.context xs l.category (line_closed i))
        liberal_ren (by_application {a = a} {q = q} hb red ha e r) sc' ρ h =
            by_application (liberal_ren hb sc' ρ h) (reduces_ren ρ red) (liberal_ren ha sc' ρ h) (serves_ren ρ e) (ap (ren ρ) r ∙ ren_substitute ρ a q)
        liberal_ren (by_equal {f = f} x hb e wf hf d rd ha k r) sc' ρ h =
            by_equal x (liberal_ren hb sc' ρ h) (equal_ren ρ e) (scoped_ren (VariableOf ls ctx) (ConstantOf ls) ρ h.below f wf)
            (liberal_ren hf sc' ρ h) (supertype_ren ρ d) (reduces_ren ρ rd) (liberal_ren ha sc' ρ h) (serves_ren ρ k) (ap (ren ρ) r)
        liberal_ren (by_abstraction {p = p} {c = c} hp ip ht r) sc' ρ h =
            by_abstraction (liberal_ren hp sc' ρ h) (is_type_kept ρ ip) (liberal_ren ht (ren ρ p ∷ sc') (upr ρ) (wider_under p h)) (ap (ren ρ) r ∙ over_ren language ρ p c)

        pub fits_ren : {sc : List Expr} {context vs : List ℕ} {earlier xs : Exprs} → Fits language ls ctx sc context vs earlier xs → (sc' : List Expr) (ρ : ℕ → ℕ) → Wider sc sc' ρ
            → Fits language ls ctx sc' context vs (rens ρ earlier) (rens ρ xs)
        fits_ren none_fits sc' ρ h = none_fits
        fits_ren (more_fits {context = context} {l = l} {earlier = earlier} {a = a} i hk e f) sc' ρ h =
            more_fits i (liberal_ren hk sc' ρ h)
            (rw (ren_instantiate ρ context earlier l.category (line_closed i)) at (serves_ren ρ e))
            (rw (rens_snoc ρ earlier a) at (fits_ren f sc' ρ h))

      -- one more binding
      pub liberal_raise : {sc : List Expr} {e c : Expr} (p : Expr) → Liberal language ls ctx sc e c → Liberal language ls ctx (p ∷ sc) (raise e) (raise c)
      liberal_raise {sc} p h = liberal_ren h (p ∷ sc) suc (record { below = λ i l. omega arith; moved = λ d. go d })
        where
          go : {q : Expr} {i : ℕ} → DomainAt q sc i → Moved (p ∷ sc) suc q i
          go {q} {i} d = record { domain = q; is_at = outside d; same = sym (raise_lift (suc i) q) }
