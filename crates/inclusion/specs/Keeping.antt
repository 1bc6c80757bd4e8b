-- `Kept language ls ctx sc e c`: e has a category that serves for c. How such facts are put together, constructor by constructor.
use Rattle.std.specs.Prelude.{◌≡◌, refl, List, ◌∷◌, ℕ, suc, length}
use Rattle.std.proofs.Common.{sym, subst}
use Rattle.aut68.specs.Language.{Language, aut68, aut_qe, Extended, extended}
use Rattle.aut68.specs.Expr.{Expr, type, app, abs, over_binding}
use Rattle.aut68.specs.Substitution.{substitute}
use Rattle.aut68.specs.Lines.{Lines}
use Rattle.aut68.specs.Rules.Steps.{Reduces, Equal}
use Rattle.aut68.specs.Rules.Serving.{a_type, itself, Supertype, Serves, IsType, the_type, a_supertype}
use Rattle.aut68.specs.Rules.Resolved.{Resolved, Known}
use Rattle.calculus.specs.Renaming.{raise, inst, one, sub}
use Rattle.calculus.specs.Cutoffs.{inst_is}
use Rattle.calculus.specs.Reductions.{steps_map}
use Rattle.calculus.specs.Parallel.{ClosedMiddles, par_refl, par_sub, step_par, par_steps}
use Rattle.calculus.specs.Equality.{equal_refl, equal_path}
use Rattle.calculus.specs.Scoped.{ScopedScope}
use Rattle.calculus.specs.Resolved.{resolved_known, KnownScope, KnownCategory, ResolvedLines, lines_closed}
use Rattle.inclusion.specs.Endings.{drops_sub}
use Rattle.inclusion.specs.Serves.{equal_serves, serves_refl, serves_abs, serves_trans, serves_then_equal, serves_reached, serves_68}
use Rattle.inclusion.specs.Knowing.{serves_ends, serves_known}
use Rattle.inclusion.specs.Liberal.{Liberal, by_application, by_equal, by_abstraction, known_liberal}
use Rattle.inclusion.specs.Unique.{known_type, over_equal}
use Rattle.inclusion.specs.Weakening.{liberal_raise, serves_ren}

pub record Kept (language : Language) (ls : Lines) (ctx : List ℕ) (sc : List Expr) (e c : Expr) : Type 0 where
  pub found : Expr
  pub has : Liberal language ls ctx sc e found
  pub serves : Serves language ls found c

-- what serves, with an argument put in
pub reduces_substitute : (ls : Lines) → ClosedMiddles ls → (a : Expr) {m n : Expr} → Reduces ls m n → Reduces ls (substitute a 0 m) (substitute a 0 n)
unfolding inst
reduces_substitute ls closed a {m} {n} h =
    rw (inst_is a m, inst_is a n) (steps_map ls (sub (one a) _) (λ x y s. par_steps ls (par_sub ls closed (λ i. par_refl ls (one a i)) (step_par ls s))) h)

pub serves_substitute : (language : Language) (ls : Lines) → ClosedMiddles ls → (a : Expr) {t t' : Expr} → Serves language ls t t' → Serves language ls (substitute a 0 t) (substitute a 0 t')
unfolding inst
serves_substitute language ls closed a {t} {t'} h = record {
  left = substitute a 0 h.left;
  right = substitute a 0 h.right;
  from_found = reduces_substitute ls closed a h.from_found;
  from_wanted = reduces_substitute ls closed a h.from_wanted;
  drops = rw (inst_is a h.left, inst_is a h.right) (drops_sub language (one a) _ h.drops);
}

module _ (language : Language) (ls : Lines) (W : ResolvedLines ls) (ctx : List ℕ) where
  closed : ClosedMiddles ls
  closed = lines_closed ls W

  pub kept_same : {sc : List Expr} {e c : Expr} → Liberal language ls ctx sc e c → Kept language ls ctx sc e c
  kept_same {c = c} h = record { found = c; has = h; serves = serves_refl language ls c }

  pub kept_serves : {sc : List Expr} {e c d : Expr} → Kept language ls ctx sc e c → Serves language ls c d → Kept language ls ctx sc e d
  kept_serves h e = record { found = h.found; has = h.has; serves = serves_trans language ls closed h.serves e }

  pub kept_equal : {sc : List Expr} {e c d : Expr} → Kept language ls ctx sc e c → Equal ls c d → Kept language ls ctx sc e d
  kept_equal h e = kept_serves h (equal_serves language ls e)

  pub kept_path : {sc : List Expr} {e c d : Expr} → Kept language ls ctx sc e c → c ≡ d → Kept language ls ctx sc e d
  kept_path h q = kept_equal h (equal_path ls q)

  pub kept_raise : {sc : List Expr} {e c : Expr} (p : Expr) → Kept language ls ctx sc e c → Kept language ls ctx (p ∷ sc) (raise e) (raise c)
  kept_raise p h = record { found = raise h.found; has = liberal_raise ls W language ctx p h.has; serves = serves_ren ls W language suc h.serves }

  pub kept_app : {sc : List Expr} {a b c k p q : Expr} → Kept language ls ctx sc b c → Reduces ls c (abs p q) → Kept language ls ctx sc a k → Serves language ls k p
      → Kept language ls ctx sc (app a b) (substitute a 0 q)
  kept_app {a = a} hb red ha e =
      let f = serves_reached language ls closed hb.serves red in
      record {
        found = substitute a 0 f.body;
        has = by_application hb.has f.reaches ha.has (serves_trans language ls closed ha.serves (serves_then_equal language ls closed e f.domains)) refl;
        serves = serves_substitute language ls closed a f.bodies;
      }

  pub served_supertype : (k : ℕ) {c d : Expr} → KnownCategory ls k c → Serves language ls c d → Supertype d → Supertype c
  served_supertype k w h d = record { sort = d.sort; is_basic = d.is_basic; ends = serves_ends ls W language k d.is_basic w h d.ends }

  pub kept_second : {sc : List Expr} {a b c f d k p q : Expr} → Extended language → Kept language ls ctx sc b c → Equal ls c f → Resolved ls ctx (length sc) f
      → Kept language ls ctx sc f d → Supertype d → Reduces ls d (abs p q) → Kept language ls ctx sc a k → Serves language ls k p → KnownScope ls sc
      → Kept language ls ctx sc (app a b) (app a f)
  kept_second {sc} {a} {f = f} x hb e wf hf d red ha k s =
      let g = serves_reached language ls closed hf.serves red in
      record {
        found = app a f;
        has =
            by_equal x hb.has (serves_known ls W language (length sc) (serves_then_equal language ls closed hb.serves e) (resolved_known ls ctx (length sc) f wf)) wf hf.has
            (served_supertype (length sc) (known_liberal language ls ctx W hf.has (resolved_known ls ctx (length sc) f wf) s) hf.serves d) g.reaches ha.has
            (serves_trans language ls closed ha.serves (serves_then_equal language ls closed k g.domains)) refl;
        serves = serves_refl language ls (app a f);
      }

-- what serves for a domain's category is one
pub is_type_served : (language : Language) (ls : Lines) → ResolvedLines ls → (k : ℕ) (c d : Expr) → KnownCategory ls k c → Serves language ls c d → IsType language d → IsType language c
is_type_served aut68 ls W k c d w h the_type = subst (IsType aut68) (sym (known_type ls W k c w (serves_68 ls h))) the_type
is_type_served aut_qe ls W k c d w h the_type = a_supertype extended (record { sort = type; is_basic = a_type; ends = serves_ends ls W aut_qe k a_type w h itself })
is_type_served aut_qe ls W k c d w h (a_supertype x e) = a_supertype x (record { sort = e.sort; is_basic = e.is_basic; ends = serves_ends ls W aut_qe k e.is_basic w h e.ends })
is_type_served aut68 ls W k c d w h (a_supertype x e) = elim x [ ]

pub over_serves : (language : Language) (ls : Lines) → ResolvedLines ls → (k : ℕ) (p c d : Expr) → KnownCategory ls k c → KnownCategory ls k d → Serves language ls c d
    → Serves language ls (over_binding language p c) (over_binding language p d)
unfolding over_binding
over_serves aut68 ls W k p c d w x h = equal_serves aut68 ls (over_equal ls W aut68 k p c d w x (serves_68 ls h))
over_serves aut_qe ls W k p c d w x h = serves_abs aut_qe ls (equal_refl ls p) h

module _ (language : Language) (ls : Lines) (W : ResolvedLines ls) (ctx : List ℕ) where
  pub kept_abs : {sc : List Expr} {p t k c : Expr} → Kept language ls ctx sc p k → IsType language k → Kept language ls ctx (p ∷ sc) t c
      → Known ls (length sc) p → Known ls (suc (length sc)) t → KnownCategory ls (suc (length sc)) c → KnownScope ls sc
      → Kept language ls ctx sc (abs p t) (over_binding language p c)
  unfolding ScopedScope
  kept_abs {sc} {p} {t} {k} {c} hp ip ht wp wt wc s =
      record {
        found = over_binding language p ht.found;
        has = by_abstraction hp.has (is_type_served language ls W (length sc) hp.found k (known_liberal language ls ctx W hp.has wp s) hp.serves ip) ht.has refl;
        serves = over_serves language ls W (suc (length sc)) p ht.found c (known_liberal language ls ctx W ht.has wt (wp, s)) wc ht.serves;
      }
