-- Comparison finds what serves: what it lets pass serves, and what it calls different does not.
use Rattle.std.specs.Prelude.{◌≡◌, ◌⊎◌, Bool, leb}
use Rattle.std.proofs.Math.Path.{refl, sym, subst}
use Rattle.std.proofs.Common.{ap, ◌∙◌, arith, eqb-true}
use Rattle.std.proofs.Math.Logic.{inl, inr}
use Rattle.std.proofs.Math.Bool.{true, false}
use Rattle.std.proofs.Math.Option.{some}
use Prim.Native.Nat.{ℕ, zero, suc}
use Rattle.std.proofs.Math.Dec.{eqb}
use Rattle.std.proofs.lemmas.Bool.{eqb-false}
use Rattle.aut68.specs.Language.{Language, aut68, aut_qe, Extended, extended}
use Rattle.aut68.specs.Sizes.{nesting}
use Rattle.aut68.specs.Procedure.Answer.{Act, Answer, done, stop, give, refuse, mismatch, too_large, out_of_budget}
use Rattle.aut68.specs.Expr.{Expr, Exprs, type, prop, var, bound, const, app, abs, nil, cons, size, first_cell, parts, ends_in_type, ends_in_prop}
use Rattle.aut68.specs.Lines.{Lines}
use Rattle.aut68.specs.Rules.Steps.{Reduces, Equal}
use Rattle.aut68.specs.Rules.Serving.{Basic, a_type, a_prop, Ends, itself, before, Drops, Serves}
use Rattle.aut68.specs.Rules.Serving
use Rattle.aut68.specs.Procedure.HeadStep.{head_step, left}
use Rattle.aut68.specs.Procedure.Compare.{Next, same, by_parts, step_left, step_right, next, Comparison, each, ends_as, has_surplus, compare_parts, sides, compare_at, compare}
use Rattle.aut68.specs.Rules.Resolved.{Scoped, ConstantOf, VariableLine, Known}
use Rattle.calculus.specs.Reductions.{steps_one, steps_eq}
use Rattle.calculus.specs.Equality.{Equals, equal_none, equal_more, equal_path, equal_steps, equal_sym, equal_trans, abs_steps}
use Rattle.calculus.specs.Shapes.{decoded, decode, decoded_is, false_not_true}
use Rattle.calculus.specs.Next.{NextIs, is_same, is_parts, is_left, is_right, next_is_lem}
use Rattle.calculus.specs.HeadForms.{HeadNormal, habs, hneutral, Neutral, ntype, nprop, nvar, nbound, nconst, napp, head_step_lem, head_none, normal_steps, parts_equal, equal_parts}
use Rattle.calculus.specs.Scoped.{ScopedCategory, scoped_category}
use Rattle.calculus.specs.Resolved.{AllKnown, KnownCategory, ResolvedLines, lines_closed}
use Rattle.lookup.specs.Answers.{Judged, is_done, is_stop, Finding, differ, large, spent, finding_map, judged_map, judged_then, judged_sized}
use Rattle.inclusion.specs.Serves.{equal_serves, path_serves, ends_serves, serves_abs, equal_then_serves, serves_then_equal, serves_reached}
use Rattle.calculus.specs.Known.{known_category_steps}
use Rattle.inclusion.specs.Knowing.{reaches_ends, serves_known}

-- ---- the tests of the endings

pub type_ends : (e : Expr) → ends_in_type e ≡ true → Ends type e
unfolding ends_in_type
type_ends type q = itself
type_ends prop q = false_not_true q
type_ends (var v) q = false_not_true q
type_ends (bound i) q = false_not_true q
type_ends (const v xs) q = false_not_true q
type_ends (app a b) q = false_not_true q
type_ends (abs p t) q = before (type_ends t q)

pub prop_ends : (e : Expr) → ends_in_prop e ≡ true → Ends prop e
unfolding ends_in_prop
prop_ends type q = false_not_true q
prop_ends prop q = itself
prop_ends (var v) q = false_not_true q
prop_ends (bound i) q = false_not_true q
prop_ends (const v xs) q = false_not_true q
prop_ends (app a b) q = false_not_true q
prop_ends (abs p t) q = before (prop_ends t q)

pub ends_type : {e : Expr} → Ends type e → ends_in_type e ≡ true
unfolding ends_in_type
ends_type itself = refl
ends_type (before h) = ends_type h

pub ends_prop : {e : Expr} → Ends prop e → ends_in_prop e ≡ true
unfolding ends_in_prop
ends_prop itself = refl
ends_prop (before h) = ends_prop h

surplus_serves : (language : Language) (ls : Lines) (l r : Expr) → has_surplus language l r ≡ true → Serves language ls l r
unfolding has_surplus ends_as
surplus_serves aut68 ls l r q = false_not_true q
surplus_serves aut_qe ls l type q = ends_serves aut_qe ls extended a_type (type_ends l q)
surplus_serves aut_qe ls l prop q = ends_serves aut_qe ls extended a_prop (prop_ends l q)
surplus_serves aut_qe ls l (var v) q = false_not_true q
surplus_serves aut_qe ls l (bound i) q = false_not_true q
surplus_serves aut_qe ls l (const v xs) q = false_not_true q
surplus_serves aut_qe ls l (app a b) q = false_not_true q
surplus_serves aut_qe ls l (abs p t) q = false_not_true q

has_surplus_lem : {language : Language} {l s : Expr} → Extended language → Basic s → Ends s l → has_surplus language l s ≡ true
unfolding has_surplus ends_as
has_surplus_lem Extended.extended a_type h = ends_type h
has_surplus_lem Extended.extended a_prop h = ends_prop h

basic_cell : {s : Expr} (e : Expr) → Basic s → first_cell e ≡ first_cell s → e ≡ s
unfolding decoded decode first_cell
basic_cell e a_type q = sym (decoded_is e) ∙ ap (λ n. decoded n (parts e)) q
basic_cell e a_prop q = sym (decoded_is e) ∙ ap (λ n. decoded n (parts e)) q

module _ (ls : Lines) where
  -- an answer to whether X holds
  abbrev pub Settles : Type 0 → Answer ℕ (Unit {0}) → Type 0
  Settles X = Judged (λ _. X) (Finding (¬ X))

  settles_iff : {X Y : Type 0} {m : Answer ℕ (Unit {0})} → (X → Y) → (Y → X) → Settles X m → Settles Y m
  settles_iff f g h = judged_map (λ _ x. f x) (finding_map (λ n y. n (g y))) h

  -- a known category, under some bindings; a known expression
  pub record Categorical (e : Expr) : Type 0 where
    pub depth : ℕ
    pub known : KnownCategory ls depth e

  record Pure (e : Expr) : Type 0 where
    depth : ℕ
    known : Known ls depth e

  pure_categorical : {e : Expr} → Pure e → Categorical e
  pure_categorical {e} h = record { depth = h.depth; known = scoped_category (VariableLine ls) (ConstantOf ls) h.depth e h.known }

  data Every (P : Expr → Type 0) : Exprs → Type 0 where
    none_of : Every P nil
    one_of : {a : Expr} {xs : Exprs} → P a → Every P xs → Every P (cons a xs)

  every_map : {P Q : Expr → Type 0} → ((e : Expr) → P e → Q e) → {xs : Exprs} → Every P xs → Every Q xs
  every_map f none_of = none_of
  every_map f (one_of {a} h k) = one_of (f a h) (every_map f k)

  all_pure : (k : ℕ) (xs : Exprs) → AllKnown ls k xs → Every Pure xs
  unfolding Scoped
  all_pure k nil w = none_of
  all_pure k (cons a xs) w = one_of (record { depth = k; known = w.0 }) (all_pure k xs w.1)

  neutral_parts : {e : Expr} → Neutral ls e → Categorical e → Every Pure (parts e)
  unfolding parts ScopedCategory
  neutral_parts ntype h = none_of
  neutral_parts nprop h = none_of
  neutral_parts nvar h = none_of
  neutral_parts nbound h = none_of
  neutral_parts (nconst {xs = xs} q) h = all_pure h.depth xs h.known.1
  neutral_parts (napp n) h = one_of (record { depth = h.depth; known = h.known.0 }) (one_of (record { depth = h.depth; known = h.known.1 }) none_of)

  normal_parts : {e : Expr} → HeadNormal ls e → Categorical e → Every Categorical (parts e)
  unfolding parts ScopedCategory
  normal_parts (habs {p} {t}) h =
      one_of (pure_categorical (record { depth = h.depth; known = h.known.0 })) (one_of (record { depth = suc h.depth; known = h.known.1 }) none_of)
  normal_parts (hneutral n) h = every_map (λ e x. pure_categorical x) (neutral_parts n h)

  -- a neutral expression's first cell is no abstraction's
  neutral_cell : {e : Expr} → Neutral ls e → ¬ (first_cell e ≡ 5)
  unfolding first_cell
  neutral_cell ntype q = omega (arith, q)
  neutral_cell nprop q = omega (arith, q)
  neutral_cell nvar q = omega (arith, q)
  neutral_cell nbound q = omega (arith, q)
  neutral_cell (nconst x) q = omega (arith, q)
  neutral_cell (napp n) q = omega (arith, q)

  -- a neutral category is `type`, `prop` or an expression
  neutral_cases : {e : Expr} → Neutral ls e → Categorical e → Basic e ⊎ Pure e
  unfolding ScopedCategory Scoped
  neutral_cases ntype h = inl a_type
  neutral_cases nprop h = inl a_prop
  neutral_cases nvar h = inr (record { depth = h.depth; known = h.known })
  neutral_cases nbound h = inr (record { depth = h.depth; known = h.known })
  neutral_cases (nconst q) h = inr (record { depth = h.depth; known = h.known })
  neutral_cases (napp n) h = inr (record { depth = h.depth; known = h.known })

  module _ (language : Language) (W : ResolvedLines ls) (L : ℕ) where
    -- each part serves for its fellow
    data AllServe : Exprs → Exprs → Type 0 where
      serve_none : AllServe nil nil
      serve_more : {a b : Expr} {xs ys : Exprs} → Serves language ls a b → AllServe xs ys → AllServe (cons a xs) (cons b ys)

    serve_nil : {a : Expr} {xs : Exprs} → ¬ AllServe nil (cons a xs)
    serve_nil h = elim h [ ]

    serve_cons : {a : Expr} {xs : Exprs} → ¬ AllServe (cons a xs) nil
    serve_cons h = elim h [ ]

    serve_parts : {a b : Expr} {xs ys : Exprs} → AllServe (cons a xs) (cons b ys) → Serves language ls a b × AllServe xs ys
    serve_parts (serve_more h k) = (h, k)

    serve_equals : {xs ys : Exprs} → Every Pure ys → AllServe xs ys → Equals ls xs ys
    serve_equals e serve_none = equal_none
    serve_equals (one_of p e) (serve_more h k) = equal_more (serves_known ls W language p.depth h p.known) (serve_equals e k)

    equals_serve : {xs ys : Exprs} → Equals ls xs ys → AllServe xs ys
    equals_serve equal_none = serve_none
    equals_serve (equal_more h k) = serve_more (equal_serves language ls h) (equals_serve k)

    abs_serves : {p t p' t' : Expr} → Serves language ls (abs p t) (abs p' t') → Equal ls p p' × Serves language ls t t'
    abs_serves {p} {t} {p'} {t'} h =
        let C = lines_closed ls W in
        let f = serves_reached language ls C h Reduces.done in
        let (x, y, z, u, v) = abs_steps ls f.reaches in
        (equal_trans ls C (equal_steps ls (steps_eq ls u (first z))) (equal_sym ls f.domains), equal_then_serves language ls C (equal_steps ls (steps_eq ls v (second z))) f.bodies)
      where
        first : {p₁ q₁ p₂ q₂ : Expr} → abs p₁ q₁ ≡ abs p₂ q₂ → p₂ ≡ p₁
        first e = cc

        second : {p₁ q₁ p₂ q₂ : Expr} → abs p₁ q₁ ≡ abs p₂ q₂ → q₂ ≡ q₁
        second e = cc

    join : {l r : Expr} → HeadNormal ls l → HeadNormal ls r → Categorical r → first_cell l ≡ first_cell r → AllServe (parts l) (parts r) → Serves language ls l r
    unfolding parts first_cell ScopedCategory
    join habs habs w q h =
        let (x, y) = serve_parts h in
        let (u, v) = serve_parts y in
        serves_abs language ls (serves_known ls W language w.depth x w.known.0) u
    join habs (hneutral m) w q h = absurd (neutral_cell m (sym q))
    join {l} {r} (hneutral n) habs w q h = absurd (neutral_cell n q)
    join {l} {r} (hneutral n) (hneutral m) w q h = equal_serves language ls (parts_equal ls l r q (serve_equals (neutral_parts m w) h))

    split : {l r : Expr} → HeadNormal ls l → HeadNormal ls r → Categorical r → first_cell l ≡ first_cell r → Serves language ls l r → AllServe (parts l) (parts r)
    unfolding parts first_cell
    split habs habs w q h = let (x, y) = abs_serves h in serve_more (equal_serves language ls x) (serve_more y serve_none)
    split habs (hneutral m) w q h = absurd (neutral_cell m (sym q))
    split (hneutral n) habs w q h = absurd (neutral_cell n q)
    split {l} {r} (hneutral n) (hneutral m) w q h = go (neutral_cases m w)
      where
        go : Basic r ⊎ Pure r → AllServe (parts l) (parts r)
        go (inl b) = equals_serve (equal_parts ls (lines_closed ls W) (hneutral n) (hneutral m) (equal_path ls (basic_cell l b q)))
        go (inr p) = equals_serve (equal_parts ls (lines_closed ls W) (hneutral n) (hneutral m) (serves_known ls W language p.depth h p.known))

    -- no surplus and different first cells
    apart : {l r : Expr} → HeadNormal ls l → HeadNormal ls r → Categorical l → has_surplus language l r ≡ false → ¬ (first_cell l ≡ first_cell r) → ¬ Serves language ls l r
    unfolding first_cell
    apart {l} {r} n m w e q h = go h.drops (normal_steps ls n h.from_found).1 (normal_steps ls m h.from_wanted).1 h.from_found
      where
        go : {x y : Expr} → Drops language x y → first_cell l ≡ first_cell x → first_cell r ≡ first_cell y → Reduces ls l x → ⊥
        go Serving.same u v k = q (u ∙ sym v)
        go (Serving.surplus x b f) u v k =
            let is = basic_cell r b v in
            let t : has_surplus language l r ≡ true = subst (λ z. has_surplus language l z ≡ true) (sym is) (has_surplus_lem x b (reaches_ends ls W w.depth b w.known k f)) in
            false_not_true (sym e ∙ t)
        go (Serving.under d) u v k = q (u ∙ sym v)

    abbrev SettlesServes : Comparison → Type 0
    SettlesServes c = (l r : Expr) → Categorical l → Categorical r → (b : ℕ) → Settles (Serves language ls l r) (c l r b)

    each_settles : (deeper : Comparison) → SettlesServes deeper → (xs ys : Exprs) → Every Categorical xs → Every Categorical ys → (b : ℕ) → Settles (AllServe xs ys) (each deeper xs ys b)
    unfolding each
    each_settles deeper d nil nil w x b = is_done serve_none
    each_settles deeper d nil (cons y ys) w x b = is_stop (differ serve_nil)
    each_settles deeper d (cons x xs) nil w y b = is_stop (differ serve_cons)
    each_settles deeper d (cons x xs) (cons y ys) (one_of u w) (one_of v z) b =
        judged_then (λ _. each deeper xs ys) (d x y u v b) (finding_map (λ n h. n (serve_parts h).0))
        (λ _ b' e. settles_iff (λ h. serve_more e h) (λ h. (serve_parts h).1) (each_settles deeper d xs ys w z b'))

    parts_settle : (deeper : Comparison) → SettlesServes deeper → (l r : Expr) → HeadNormal ls l → HeadNormal ls r → Categorical l → Categorical r → (b : ℕ)
        → Settles (Serves language ls l r) (compare_parts language deeper l r b)
    unfolding compare_parts
    parts_settle deeper d l r n m w x b = sure (has_surplus language l r) refl
      where
        go : has_surplus language l r ≡ false → (t : Bool) → eqb (first_cell l) (first_cell r) ≡ t
            → Settles (Serves language ls l r) ((elim t as (λ _. Act ℕ (Unit {0})) [ true ↦ each deeper (parts l) (parts r) | false ↦ refuse mismatch ]) b)
        go s true e =
            settles_iff (λ h. join n m x (eqb-true _ _ e) h) (λ h. split n m x (eqb-true _ _ e) h) (each_settles deeper d (parts l) (parts r) (normal_parts n w) (normal_parts m x) b)
        go s false e = is_stop (differ (apart n m w s (eqb-false _ _ e)))

        sure : (s : Bool) → has_surplus language l r ≡ s
            → Settles (Serves language ls l r) ((elim s as (λ _. Act ℕ (Unit {0})) [
              | true ↦ give tt
              | false ↦ elim (eqb (first_cell l) (first_cell r)) as (λ _. Act ℕ (Unit {0})) [ true ↦ each deeper (parts l) (parts r) | false ↦ refuse mismatch ]
            ]) b)
        sure true s = is_done (surplus_serves language ls l r s)
        sure false s = go s (eqb (first_cell l) (first_cell r)) refl

    after_step : {e f : Expr} → left (head_step ls e) ≡ some f → Categorical e → Categorical f
    after_step {e} {f} q h = record { depth = h.depth; known = known_category_steps ls W h.depth (steps_one ls (head_step_lem ls e f q)) h.known }

    left_settles : {l l' r : Expr} {m : Answer ℕ (Unit {0})} → left (head_step ls l) ≡ some l' → Settles (Serves language ls l' r) m → Settles (Serves language ls l r) m
    left_settles {l} {l'} {r} q h =
        let s = steps_one ls (head_step_lem ls l l' q) in
        settles_iff (λ e. equal_then_serves language ls (lines_closed ls W) (equal_steps ls s) e) (λ e. equal_then_serves language ls (lines_closed ls W) (equal_sym ls (equal_steps ls s)) e) h

    right_settles : {l r r' : Expr} {m : Answer ℕ (Unit {0})} → left (head_step ls r) ≡ some r' → Settles (Serves language ls l r') m → Settles (Serves language ls l r) m
    right_settles {l} {r} {r'} q h =
        let s = steps_one ls (head_step_lem ls r r' q) in
        settles_iff (λ e. serves_then_equal language ls (lines_closed ls W) e (equal_sym ls (equal_steps ls s))) (λ e. serves_then_equal language ls (lines_closed ls W) e (equal_steps ls s)) h

    sides_settle : (deeper : Comparison) → SettlesServes deeper → SettlesServes (sides language ls L deeper)
    unfolding sides
    sides_settle deeper d l r w x zero = go (next ls l r) (next_is_lem ls l r)
      where
        go : (n : Next) → NextIs ls l r n
            → Settles (Serves language ls l r) (elim n [
              | same ↦ done tt zero
              | by_parts ↦ compare_parts language deeper l r zero
              | step_left l' ↦ stop out_of_budget zero
              | step_right r' ↦ stop out_of_budget zero
            ])
        go same (is_same e) = is_done (path_serves language ls e)
        go by_parts (is_parts p q) = parts_settle deeper d l r (head_none ls l p) (head_none ls r q) w x zero
        go (step_left l') (is_left p) = is_stop spent
        go (step_right r') (is_right p) = is_stop spent
    sides_settle deeper d l r w x (suc b) = go (λ l r w x. sides_settle deeper d l r w x b) (next ls l r) (next_is_lem ls l r)
      where
        go : ((l r : Expr) → Categorical l → Categorical r → Settles (Serves language ls l r) (sides language ls L deeper l r b)) → (n : Next) → NextIs ls l r n
            → Settles (Serves language ls l r) (elim n [
              | same ↦ done tt (suc b)
              | by_parts ↦ compare_parts language deeper l r (suc b)
              | step_left l' ↦ elim (leb (size l') L) [ true ↦ sides language ls L deeper l' r b | false ↦ stop too_large (suc b) ]
              | step_right r' ↦ elim (leb (size r') L) [ true ↦ sides language ls L deeper l r' b | false ↦ stop too_large (suc b) ]
            ])
        go s same (is_same e) = is_done (path_serves language ls e)
        go s by_parts (is_parts p q) = parts_settle deeper d l r (head_none ls l p) (head_none ls r q) w x (suc b)
        go s (step_left l') (is_left p) = judged_sized (leb (size l') L) (suc b) (left_settles p (s l' r (after_step p w) x)) large
        go s (step_right r') (is_right p) = judged_sized (leb (size r') L) (suc b) (right_settles p (s l r' w (after_step p x))) large

    compare_at_settles : (d : ℕ) → SettlesServes (compare_at language ls L d)
    unfolding compare_at
    compare_at_settles zero l r w x b = is_stop large
    compare_at_settles (suc d) l r w x b = sides_settle (compare_at language ls L d) (λ x y u v c. compare_at_settles d x y u v c) l r w x b

    pub compare_settles : (l r : Expr) → Categorical l → Categorical r → (b : ℕ) → Settles (Serves language ls l r) (compare language ls L l r b)
    unfolding compare
    compare_settles l r w x b = compare_at_settles nesting l r w x b
