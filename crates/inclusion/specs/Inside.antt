-- AUT-68 inside AUT-QE: what has a category in AUT-68 has one in AUT-QE, which serves for it.
use Rattle.std.specs.Prelude.{◌≡◌, ◌⊎◌, Bool, List, ◌∷◌, ℕ, suc, ◌≤◌}
use Rattle.std.proofs.Math.Path.{refl, subst}
use Rattle.std.proofs.Common.{sym, inl, inr}
use Rattle.std.proofs.Math.Bool.{true, false}
use native.Mathlib.Omega.{arith}
use Rattle.std.proofs.Math.ListN.{length}
use Rattle.aut68.specs.Language.{Language, aut68, aut_qe, extended}
use Rattle.aut68.specs.Expr.{Expr, Exprs, type, app, abs, is_type, over_binding}
use Rattle.aut68.specs.Substitution.{lift, substitute}
use Rattle.aut68.specs.Lines.{Lines, Kind}
use Rattle.aut68.specs.Rules.Steps.{Reduces}
use Rattle.aut68.specs.Rules.Serving.{Basic, a_type, a_prop, Ends, itself, before, Supertype, Serves, IsType, the_type, a_supertype}
use Rattle.aut68.specs.Rules.Categories.{Category, of_variable, of_bound, of_constant, of_application, of_second_chance, of_abstraction, Fit, all_fit, one_fits, written_type, written_binding, written_prop}
use Rattle.aut68.specs.Rules.Categories.{WrittenFits, is_supertype, has_type, MiddleFits, is_eb, is_pn, has_category}
use Rattle.aut68.specs.Rules.Resolved.{Scoped, ConstantOf, VariableLine, Known}
use Rattle.calculus.specs.Equality.{equal_refl}
use Rattle.calculus.specs.Scoped.{ScopedScope, ScopedCategory, category_cases, scoped_category, category_under, category_substitute, category_instantiate, scoped_arg}
use Rattle.calculus.specs.Resolved.{AllKnown, KnownScope, KnownCategory, ResolvedLines, lines_closed, known_line}
use Rattle.inclusion.specs.Serves.{equal_serves, serves_refl, serves_abs, serves_trans, ends_serves, serves_then_equal, serves_reached, serves_68}
use Rattle.calculus.specs.Known.{constant_count, line_in_context, known_category_steps}
use Rattle.inclusion.specs.Knowing.{serves_ends}
use Rattle.calculus.specs.Bindings.{bound_scoped, over_scoped}
use Rattle.calculus.specs.HeadSearch.{head_reduces}
use Rattle.calculus.specs.Actions.{is_type_true}
use Rattle.inclusion.specs.Keeping.{serves_substitute}

module _ (language : Language) (ls : Lines) (W : ResolvedLines ls) where
  -- what has a category does not end in `type` or `prop`
  pub no_strict : {s e : Expr} {sc : List Expr} {c : Expr} → Basic s → Ends s e → ¬ Category language ls sc e c
  no_strict a_type itself h = elim h [ ]
  no_strict a_prop itself h = elim h [ ]
  no_strict b (before e) (of_abstraction hp ip ht i) = no_strict b e ht

  pub strict_known : (k : ℕ) {sc : List Expr} {e c : Expr} → KnownCategory ls k e → Category language ls sc e c → Known ls k e
  strict_known k {sc} {e} {c} w h = go (category_cases (VariableLine ls) (ConstantOf ls) k e w)
    where
      go : Supertype e ⊎ Known ls k e → Known ls k e
      go (inl x) = absurd (no_strict x.is_basic x.ends h)
      go (inr x) = x

  pub known_category : {sc : List Expr} {e c : Expr} → Category language ls sc e c → Known ls (length sc) e → KnownScope ls sc → KnownCategory ls (length sc) c
  unfolding Scoped ScopedScope ScopedCategory
  known_category {sc} (of_variable {l = l} i q) w s =
      let z : 0 ≤ length sc = omega arith in
      subst (KnownCategory ls (length sc)) (sym q) (category_under (VariableLine ls) (ConstantOf ls) z l.category (known_line ls W i))
  known_category {sc} (of_bound {i = i} {p = p} d q) w s =
      subst (KnownCategory ls (length sc)) (sym q) (scoped_category (VariableLine ls) (ConstantOf ls) (length sc) (lift (suc i) 0 p) (bound_scoped language ls (VariableLine ls) d s))
  known_category {sc} (of_constant {l = l} {xs = xs} i f q) w s =
      subst (KnownCategory ls (length sc)) (sym q)
      (category_instantiate (VariableLine ls) (ConstantOf ls) _ (length sc) l.context xs l.category
      (λ v m. scoped_arg (VariableLine ls) (ConstantOf ls) (length sc) xs l.context v w.1 (constant_count ls W w.0 i) m) (line_in_context ls W i))
  known_category {sc} (of_application {a = a} {q = q} hb red ha e i) w s =
      let x = known_category_steps ls W (length sc) red (known_category hb w.1 s) in
      subst (KnownCategory ls (length sc)) (sym i) (category_substitute (VariableLine ls) (ConstantOf ls) (length sc) a q w.0 x.1)
  known_category {sc} (of_second_chance x hb red n o hf rd ha e i) w s =
      subst (KnownCategory ls (length sc)) (sym i) (w.0, strict_known (length sc) (known_category_steps ls W (length sc) (head_reduces ls red) (known_category hb w.1 s)) hf)
  known_category {sc} (of_abstraction {p = p} {c = c} hp ip ht i) w s =
      subst (KnownCategory ls (length sc)) (sym i) (over_scoped language ls (VariableLine ls) (length sc) p c w.0 (known_category ht w.1 (w.0, s)))

pub record Inside (ls : Lines) (sc : List Expr) (e c : Expr) : Type 0 where
  pub category : Expr
  pub has : Category aut_qe ls sc e category
  pub serves : Serves aut_qe ls category c

module _ (ls : Lines) (W : ResolvedLines ls) where
  -- equality is serving
  wider : {a b : Expr} → Serves aut68 ls a b → Serves aut_qe ls a b
  wider h = equal_serves aut_qe ls (serves_68 ls h)

  type_inside : {sc : List Expr} {p k : Expr} → Inside ls sc p k → IsType aut68 k → Known ls (length sc) p → KnownScope ls sc → (h : Inside ls sc p k) × IsType aut_qe h.category
  type_inside {sc} P the_type w s =
      (P, a_supertype extended (record { sort = type; is_basic = a_type; ends = serves_ends ls W aut_qe (length sc) a_type (known_category aut_qe ls W P.has w s) P.serves itself }))
  type_inside P (a_supertype h _) w s = elim h [ ]

  over_inside : {sc : List Expr} {p t c : Expr} → (h : Inside ls (p ∷ sc) t c) → KnownCategory ls (suc (length sc)) h.category → Serves aut_qe ls (abs p h.category) (over_binding aut68 p c)
  unfolding over_binding
  over_inside {sc} {p} {t} {c} h w = go (is_type c) refl
    where
      go : (b : Bool) → is_type c ≡ b → Serves aut_qe ls (abs p h.category) (elim b as (λ _. Expr) [ true ↦ type | false ↦ abs p c ])
      go true q =
          ends_serves aut_qe ls extended a_type
          (before (serves_ends ls W aut_qe (suc (length sc)) a_type w (subst (λ z. Serves aut_qe ls h.category z) (is_type_true c q) h.serves) itself))
      go false q = serves_abs aut_qe ls (equal_refl ls p) h.serves

  inside_application : {sc : List Expr} {a b c k p q r : Expr} → Inside ls sc b c → Reduces ls c (abs p q) → Inside ls sc a k → Serves aut68 ls k p → r ≡ substitute a 0 q → Inside ls sc (app a b) r
  inside_application {sc} {a} {b} B red A e i =
      let closed = lines_closed ls W in
      let f = serves_reached aut_qe ls closed B.serves red in
      subst (λ z. Inside ls sc (app a b) z) (sym i)
      (record {
        category = substitute a 0 f.body;
        has = of_application B.has f.reaches A.has (serves_trans aut_qe ls closed A.serves (serves_then_equal aut_qe ls closed (wider e) f.domains)) refl;
        serves = serves_substitute aut_qe ls closed a f.bodies;
      })

  inside_abstraction : {sc : List Expr} {p t k c r : Expr} → Inside ls sc p k → IsType aut68 k → Inside ls (p ∷ sc) t c → r ≡ over_binding aut68 p c → Known ls (length sc) p
      → Known ls (suc (length sc)) t → KnownScope ls sc
      → Inside ls sc (abs p t) r
  unfolding ScopedScope over_binding
  inside_abstraction {sc} {p} {t} P ip T i wp wt s =
      let (P', it) = type_inside P ip wp s in
      subst (λ z. Inside ls sc (abs p t) z) (sym i)
      (record { category = abs p T.category; has = of_abstraction P'.has it T.has refl; serves = over_inside T (known_category aut_qe ls W T.has wt (wp, s)) })

  mutual
    unfolding Scoped ScopedScope

    pub inside : {sc : List Expr} {e c : Expr} → Category aut68 ls sc e c → Known ls (length sc) e → KnownScope ls sc → Inside ls sc e c
    inside (of_variable {r = r} i q) w s = record { category = r; has = of_variable i q; serves = serves_refl aut_qe ls r }
    inside (of_bound {r = r} d q) w s = record { category = r; has = of_bound d q; serves = serves_refl aut_qe ls r }
    inside (of_constant {r = r} i f q) w s = record { category = r; has = of_constant i (inside_fit f w.1 s) q; serves = serves_refl aut_qe ls r }
    inside (of_application hb red ha e i) w s = inside_application (inside hb w.1 s) red (inside ha w.0 s) e i
    inside (of_abstraction hp ip ht i) w s = inside_abstraction (inside hp w.0 s) ip (inside ht w.1 (w.0, s)) i w.0 w.1 s
    inside (of_second_chance h _ _ _ _ _ _ _ _ _) w s = elim h [ ]

    inside_fit : {sc : List Expr} {context vs : List ℕ} {earlier xs : Exprs} → Fit aut68 ls sc context vs earlier xs → AllKnown ls (length sc) xs → KnownScope ls sc
        → Fit aut_qe ls sc context vs earlier xs
    inside_fit all_fit w s = all_fit
    inside_fit (one_fits i h e f) w s =
        let A = inside h w.0 s in
        one_fits i A.has (serves_trans aut_qe ls (lines_closed ls W) A.serves (wider e)) (inside_fit f w.1 s)

  -- ---- the checks of a line

  pub written_inside : {c : Expr} → WrittenFits aut68 ls c → KnownCategory ls 0 c → WrittenFits aut_qe ls c
  unfolding ScopedScope
  written_inside (is_supertype written_type) w = is_supertype written_type
  written_inside (has_type h ip) w =
      let wc = strict_known aut68 ls W 0 w h in
      let (P, it) = type_inside (inside h wc tt) ip wc tt in
      has_type P.has it
  written_inside (is_supertype (written_prop h)) w = elim h [ ]
  written_inside (is_supertype (written_binding h _ _ _)) w = elim h [ ]

  pub middle_inside : {k : Kind} {c : Expr} → MiddleFits aut68 ls k c → ((m : Expr) → k ≡ Kind.abbreviation m → Known ls 0 m) → MiddleFits aut_qe ls k c
  unfolding ScopedScope
  middle_inside is_eb w = is_eb
  middle_inside is_pn w = is_pn
  middle_inside (has_category {m = m} h e) w =
      let M = inside h (w m refl) tt in
      has_category M.has (serves_trans aut_qe ls (lines_closed ls W) M.serves (wider e))
