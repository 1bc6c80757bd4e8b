-- Head steps first: what reaches an expression without a head step reaches one by head steps alone.
use Rattle.std.specs.Prelude.{◌≡◌, Bool, eqb}
use Rattle.std.proofs.Math.Path.{refl, subst, sym, ap}
use Rattle.std.proofs.Common.{◌∙◌}
use Rattle.std.proofs.Math.Bool.{true, false}
use Rattle.std.proofs.Math.Option.{none, some, none-ne-some, some-injective}
use mathlib.Core.List.{List, [], ◌∷◌}
use Prim.Native.Nat.{ℕ, zero, suc}
use Rattle.aut68.specs.Expr.{Expr, Exprs, type, prop, var, bound, const, app, abs, nil, cons, Shape, shape, abstraction, other}
use Rattle.aut68.specs.Substitution.{substitute, instantiate}
use Rattle.aut68.specs.Lines.{Lines, Kind, variable, primitive, abbreviation, line_of}
use Rattle.aut68.specs.Rules.Steps.{Reduces}
use Rattle.aut68.specs.Procedure.HeadStep.{Head, no_step, head_step, under, left}
use Rattle.aut68.specs.Procedure.HeadStep
use Rattle.calculus.specs.Star.{Star, done, more, star_trans, star_one}
use Rattle.calculus.specs.Renaming.{inst, one, unf, arg, pick, ren, sub, sub_inst, sub_unf}
use Rattle.calculus.specs.Cutoffs.{inst_is, unf_is}
use Rattle.calculus.specs.Reductions.{steps_trans}
use Rattle.calculus.specs.Parallel.{ClosedMiddles, Par, ptype, pprop, pvar, pbound, pconst, papp, pabs, pbeta, pdelta, Pars, pnil, pcons, par_sub, pars_sub}
use Rattle.calculus.specs.Parallel.{par_up, par_ren, par_inst, par_arg, par_unf, sub_par, subs_par, par_steps, steps_star_par}
use Rattle.calculus.specs.Shapes.{shape_abs}
use Rattle.calculus.specs.HeadForms.{HeadNormal, habs, hneutral, Neutral, ntype, nprop, nvar, nbound, nconst, napp}

module _ (ls : Lines) where
  -- the head step as a relation
  pub data HeadTo : Expr → Expr → Type 0 where
    hbeta : {a p t n : Expr} → n ≡ inst a t → HeadTo (app a (abs p t)) n
    hdelta : {v : ℕ} {m n : Expr} {r : Exprs} → (line_of ls v).kind ≡ abbreviation m → n ≡ unf (line_of ls v).context m r → HeadTo (const v r) n
    hunder : {a b b' : Expr} → HeadTo b b' → HeadTo (app a b) (app a b')

  -- any number of them
  abbrev pub HeadsTo : Expr → Expr → Type 0
  HeadsTo = Star HeadTo

  -- ---- the function's head step is one

  const_to : (v : ℕ) (xs : Exprs) (n : Expr) (k : Kind) → (line_of ls v).kind ≡ k
      → left (elim k [ variable ↦ no_step | primitive ↦ no_step | abbreviation m ↦ HeadStep.delta v (instantiate (line_of ls v).context xs 0 m) ]) ≡ some n
      → HeadTo (const v xs) n
  unfolding left
  const_to v xs n variable e q = absurd (none-ne-some n q)
  const_to v xs n primitive e q = absurd (none-ne-some n q)
  const_to v xs n (abbreviation m) e q = hdelta e (sym (some-injective _ _ q) ∙ unf_is (line_of ls v).context xs m)

  under_to : (a b : Expr) (h : Head) (n : Expr) → ((b' : Expr) → left h ≡ some b' → HeadTo b b') → left (under a h) ≡ some n → HeadTo (app a b) n
  unfolding left under
  under_to a b no_step n s q = absurd (none-ne-some n q)
  under_to a b (HeadStep.beta b') n s q = subst (λ x. HeadTo (app a b) x) (some-injective _ _ q) (hunder (s b' refl))
  under_to a b (HeadStep.delta v b') n s q = subst (λ x. HeadTo (app a b) x) (some-injective _ _ q) (hunder (s b' refl))

  app_to : (a b : Expr) (h : Head) (n : Expr) (s : Shape) → shape b ≡ s → ((b' : Expr) → left h ≡ some b' → HeadTo b b')
      → left (elim s [ abstraction p t ↦ HeadStep.beta (substitute a 0 t) | other ↦ under a h ]) ≡ some n → HeadTo (app a b) n
  unfolding left
  app_to a b h n (abstraction p t) e s q = subst (λ x. HeadTo (app a x) n) (sym (shape_abs b e)) (hbeta (sym (some-injective _ _ q) ∙ inst_is a t))
  app_to a b h n other e s q = under_to a b h n s q

  pub head_to : (e n : Expr) → left (head_step ls e) ≡ some n → HeadTo e n
  unfolding head_step left
  head_to type n q = absurd (none-ne-some n q)
  head_to prop n q = absurd (none-ne-some n q)
  head_to (var v) n q = absurd (none-ne-some n q)
  head_to (bound i) n q = absurd (none-ne-some n q)
  head_to (const v xs) n q = const_to v xs n (line_of ls v).kind refl q
  head_to (app a b) n q = app_to a b (head_step ls b) n (shape b) refl (λ b' p. head_to b b' p) q
  head_to (abs p t) n q = absurd (none-ne-some n q)

  -- ---- parallel reduction that leaves the head alone

  data IPar : Expr → Expr → Type 0 where
    itype : IPar type type
    iprop : IPar prop prop
    ivar : {v : ℕ} → IPar (var v) (var v)
    ibound : {i : ℕ} → IPar (bound i) (bound i)
    iconst : {c : ℕ} {r r' : Exprs} → Pars ls r r' → IPar (const c r) (const c r')
    iapp : {a a' b b' : Expr} → Par ls a a' → IPar b b' → IPar (app a b) (app a' b')
    iabs : {p p' t t' : Expr} → Par ls p p' → Par ls t t' → IPar (abs p t) (abs p' t')

  ipar_par : {e f : Expr} → IPar e f → Par ls e f
  ipar_par itype = ptype
  ipar_par iprop = pprop
  ipar_par ivar = pvar
  ipar_par ibound = pbound
  ipar_par (iconst h) = pconst h
  ipar_par (iapp h k) = papp h (ipar_par k)
  ipar_par (iabs h k) = pabs h k

  -- head steps, then the rest
  record Factors (e f : Expr) : Type 0 where
    middle : Expr
    heads : HeadsTo e middle
    inner : IPar middle f

  heads_app : {a b b' : Expr} → HeadsTo b b' → HeadsTo (app a b) (app a b')
  heads_app done = done
  heads_app (more s h) = more (hunder s) (heads_app h)

  factors_none : {e f : Expr} → IPar e f → Factors e f
  factors_none {e} h = record { middle = e; heads = done; inner = h }

  factors_after : {d e f : Expr} → HeadsTo d e → Factors e f → Factors d f
  factors_after h k = record { middle = k.middle; heads = star_trans h k.heads; inner = k.inner }

  factors_app : {a a' b b' : Expr} → Par ls a a' → Factors b b' → Factors (app a b) (app a' b')
  factors_app {a} h k = record { middle = app a k.middle; heads = heads_app k.heads; inner = iapp h k.inner }

  module _ (closed : ClosedMiddles ls) where
    head_sub : (σ : ℕ → Expr) {e f : Expr} → HeadTo e f → HeadTo (sub σ var e) (sub σ var f)
    unfolding sub ren
    head_sub σ (hbeta {a} {p} {t} q) = hbeta (ap (sub σ var) q ∙ sub_inst σ a t)
    head_sub σ (hdelta {v} {m} {r = r} e q) = hdelta e (ap (sub σ var) q ∙ sub_unf (line_of ls v).context m (closed v m e) σ r)
    head_sub σ (hunder h) = hunder (head_sub σ h)

    heads_sub : (σ : ℕ → Expr) {e f : Expr} → HeadsTo e f → HeadsTo (sub σ var e) (sub σ var f)
    heads_sub σ done = done
    heads_sub σ (more s h) = more (head_sub σ s) (heads_sub σ h)

    -- an argument put in for a bound variable
    factors_sub : {σ σ' : ℕ → Expr} → ((i : ℕ) → Par ls (σ i) (σ' i)) → ((i : ℕ) → Factors (σ i) (σ' i)) → {e f : Expr} → IPar e f → Factors (sub σ var e) (sub σ' var f)
    unfolding sub ren
    factors_sub g k itype = factors_none itype
    factors_sub g k iprop = factors_none iprop
    factors_sub g k ivar = factors_none ivar
    factors_sub g k (ibound {i}) = k i
    factors_sub g k (iconst h) = factors_none (iconst (pars_sub ls closed g h))
    factors_sub g k (iapp h l) = factors_app (par_sub ls closed g h) (factors_sub g k l)
    factors_sub g k (iabs h l) = factors_none (iabs (par_sub ls closed g h) (par_sub ls closed (par_up ls closed g) l))

    -- arguments put in for context variables
    factors_put : {θ θ' : ℕ → Expr} → ((v : ℕ) → Par ls (θ v) (θ' v)) → ((v : ℕ) → Factors (θ v) (θ' v)) → (e : Expr) → Factors (sub bound θ e) (sub bound θ' e)
    unfolding sub
    factors_put g k type = factors_none itype
    factors_put g k prop = factors_none iprop
    factors_put g k (var v) = k v
    factors_put g k (bound i) = factors_none ibound
    factors_put g k (const v xs) = factors_none (iconst (subs_par ls closed (λ i. pbound) g xs))
    factors_put g k (app a b) = factors_app (sub_par ls closed (λ i. pbound) g a) (factors_put g k b)
    factors_put g k (abs p t) =
        factors_none (iabs (sub_par ls closed (λ i. pbound) g p) (sub_par ls closed (par_up ls closed (λ i. pbound)) (λ v. par_ren ls closed suc (g v)) t))

    data AllFactor : Exprs → Exprs → Type 0 where
      none_factor : AllFactor nil nil
      more_factor : {a a' : Expr} {r r' : Exprs} → Factors a a' → AllFactor r r' → AllFactor (cons a r) (cons a' r')

    arg_factors : {r r' : Exprs} → AllFactor r r' → (us : List ℕ) (v : ℕ) → Factors (arg r us v) (arg r' us v)
    unfolding arg
    arg_factors none_factor us v = factors_none ivar
    arg_factors (more_factor h k) [] v = factors_none ivar
    arg_factors (more_factor {a} {a'} {r} {r'} h k) (u ∷ us) v = go (eqb v u) (arg_factors k us v)
      where
        go : (t : Bool) → Factors (arg r us v) (arg r' us v) → Factors (pick t a (arg r us v)) (pick t a' (arg r' us v))
        go true x = h
        go false x = x

    one_factors : {a a' : Expr} → Factors a a' → (i : ℕ) → Factors (one a i) (one a' i)
    unfolding one
    one_factors h zero = h
    one_factors h (suc i) = factors_none ibound

    one_par : {a a' : Expr} → Par ls a a' → (i : ℕ) → Par ls (one a i) (one a' i)
    unfolding one
    one_par h zero = h
    one_par h (suc i) = pbound

    beta_factors : {a a' p t t' n : Expr} → Par ls a a' → Factors a a' → Factors t t' → n ≡ inst a' t' → Factors (app a (abs p t)) n
    unfolding inst
    beta_factors {a} {a'} {p} {t} pa fa ft q =
        subst (λ z. Factors (app a (abs p t)) z) (sym q)
        (factors_after (more (hbeta refl) (heads_sub (one a) ft.heads)) (factors_sub (one_par pa) (one_factors fa) ft.inner))

    delta_factors : {c : ℕ} {m n : Expr} {r r' : Exprs} → (line_of ls c).kind ≡ abbreviation m → Pars ls r r' → AllFactor r r' → n ≡ unf (line_of ls c).context m r' → Factors (const c r) n
    unfolding unf
    delta_factors {c} {m} {r = r} e pr fr q =
        subst (λ z. Factors (const c r) z) (sym q)
        (factors_after (star_one (hdelta e refl)) (factors_put (par_arg ls closed pr (line_of ls c).context) (arg_factors fr (line_of ls c).context) m))

    mutual
      par_factors : {e f : Expr} → Par ls e f → Factors e f
      par_factors ptype = factors_none itype
      par_factors pprop = factors_none iprop
      par_factors pvar = factors_none ivar
      par_factors pbound = factors_none ibound
      par_factors (pconst h) = factors_none (iconst h)
      par_factors (papp h k) = factors_app h (par_factors k)
      par_factors (pabs h k) = factors_none (iabs h k)
      par_factors (pbeta h k q) = beta_factors h (par_factors h) (par_factors k) q
      par_factors (pdelta e h q) = delta_factors e h (pars_factor h) q

      pars_factor : {r r' : Exprs} → Pars ls r r' → AllFactor r r'
      pars_factor pnil = none_factor
      pars_factor (pcons h k) = more_factor (par_factors h) (pars_factor k)

    -- a head step after the rest can be taken before it
    postpone : {e f g : Expr} → IPar e f → HeadTo f g → (d : Expr) × HeadTo e d × Par ls d g
    postpone (iapp {a} h (iabs {t = t} k l)) (hbeta {n = n} q) = (inst a t, hbeta refl, subst (λ z. Par ls (inst a t) z) (sym q) (par_inst ls closed h l))
    postpone (iapp {a} h k) (hunder s) = let (d, x, y) = postpone k s in (app a d, hunder x, papp h y)
    postpone (iconst {c} {r} h) (hdelta {m = m} e q) =
        (unf (line_of ls c).context m r, hdelta e refl, subst (λ z. Par ls (unf (line_of ls c).context m r) z) (sym q) (par_unf ls closed (line_of ls c).context m h))
    postpone itype h = elim h [ ]
    postpone iprop h = elim h [ ]
    postpone ivar h = elim h [ ]
    postpone ibound h = elim h [ ]
    postpone (iabs _ _) h = elim h [ ]

    heads_first : {f e g : Expr} → Par ls e f → HeadsTo f g → (d : Expr) × HeadsTo e d × Par ls d g
    heads_first {e} p done = (e, done, p)
    heads_first p (more s k) =
        let h = par_factors p in
        let (d, x, y) = postpone h.inner s in
        let (c, u, v) = heads_first y k in
        (c, star_trans h.heads (more x u), v)

    neutral_back : {e f : Expr} → IPar e f → Neutral ls f → Neutral ls e
    neutral_back itype n = n
    neutral_back iprop n = n
    neutral_back ivar n = n
    neutral_back ibound n = n
    neutral_back (iconst h) (nconst q) = nconst q
    neutral_back (iapp h k) (napp n) = napp (neutral_back k n)
    neutral_back (iabs _ _) n = elim n [ ]

    normal_back : {e f : Expr} → IPar e f → HeadNormal ls f → HeadNormal ls e
    normal_back (iabs h k) habs = habs
    normal_back h (hneutral n) = hneutral (neutral_back h n)

    -- the head form, and what it reaches
    pub record HeadFirst (e n : Expr) : Type 0 where
      pub form : Expr
      pub heads : HeadsTo e form
      pub normal : HeadNormal ls form
      pub reaches : Reduces ls form n

    star_first : {e n : Expr} → Star (Par ls) e n → HeadNormal ls n → HeadFirst e n
    star_first {e} done h = record { form = e; heads = done; normal = h; reaches = Reduces.done }
    star_first (more p k) h =
        let x = star_first k h in
        let (d, u, v) = heads_first p x.heads in
        let y = par_factors v in
        record {
          form = y.middle;
          heads = star_trans u y.heads;
          normal = normal_back y.inner x.normal;
          reaches = steps_trans ls (par_steps ls (ipar_par y.inner)) x.reaches;
        }

    pub head_first : {e n : Expr} → Reduces ls e n → HeadNormal ls n → HeadFirst e n
    head_first r h = star_first (steps_star_par ls r) h

-- ---- and the relation is the function

module _ (ls : Lines) where
  heads_no_abs : {b b' : Expr} → HeadTo ls b b' → shape b ≡ other
  unfolding shape
  heads_no_abs (hbeta q) = refl
  heads_no_abs (hdelta k q) = refl
  heads_no_abs (hunder h) = refl

  under_left : (a : Expr) (h : Head) {b : Expr} → left h ≡ some b → left (under a h) ≡ some (app a b)
  unfolding left under
  under_left a no_step {b} q = absurd (none-ne-some b q)
  under_left a (HeadStep.beta c) q = ap (λ z. some (app a z)) (some-injective _ _ q)
  under_left a (HeadStep.delta v c) q = ap (λ z. some (app a z)) (some-injective _ _ q)

  pub to_head : {e n : Expr} → HeadTo ls e n → left (head_step ls e) ≡ some n
  unfolding head_step left shape
  to_head (hbeta {a} {p} {t} q) = ap some (inst_is a t ∙ sym q)
  to_head (hdelta {v} {m} {r = r} k q) = rw (k, head_step) (ap some (unf_is (line_of ls v).context r m ∙ sym q))
  to_head (hunder {a} {b} {b'} h) = go (to_head h) (shape b) (heads_no_abs h)
    where
      go : left (head_step ls b) ≡ some b' → (s : Shape) → s ≡ other → left (elim s [ abstraction p t ↦ HeadStep.beta (substitute a 0 t) | other ↦ under a (head_step ls b) ]) ≡ some (app a b')
      go ih (abstraction p t) e = absurd (not e)
        where
          is : Shape → Type 0
          is (abstraction p t) = Unit {0}
          is other = ⊥

          not : abstraction p t ≡ other → ⊥
          not e = subst is e tt
      go ih other e = under_left a (head_step ls b) ih

  under_none : (a : Expr) (h : Head) → left h ≡ none → left (under a h) ≡ none
  unfolding left under
  under_none a no_step q = refl
  under_none a (HeadStep.beta c) q = absurd (none-ne-some c (sym q))
  under_none a (HeadStep.delta v c) q = absurd (none-ne-some c (sym q))

  neutral_shape : {e : Expr} → Neutral ls e → shape e ≡ other
  unfolding shape
  neutral_shape ntype = refl
  neutral_shape nprop = refl
  neutral_shape nvar = refl
  neutral_shape nbound = refl
  neutral_shape (nconst q) = refl
  neutral_shape (napp n) = refl

  pub neutral_none : {e : Expr} → Neutral ls e → left (head_step ls e) ≡ none
  unfolding head_step left
  neutral_none ntype = refl
  neutral_none nprop = refl
  neutral_none nvar = refl
  neutral_none nbound = refl
  neutral_none (nconst {v} {xs} q) = go (line_of ls v).kind refl
    where
      go : (k : Kind) → (line_of ls v).kind ≡ k
          → left (elim k [ variable ↦ no_step | primitive ↦ no_step | abbreviation m ↦ HeadStep.delta v (instantiate (line_of ls v).context xs 0 m) ]) ≡ none
      go variable e = refl
      go primitive e = refl
      go (abbreviation m) e = absurd (q m e)
  neutral_none (napp {a} {b} n) = go (neutral_none n) (shape b) (neutral_shape n)
    where
      go : left (head_step ls b) ≡ none → (s : Shape) → s ≡ other → left (elim s [ abstraction p t ↦ HeadStep.beta (substitute a 0 t) | other ↦ under a (head_step ls b) ]) ≡ none
      go ih (abstraction p t) e = absurd (not e)
        where
          is : Shape → Type 0
          is (abstraction p t) = Unit {0}
          is other = ⊥

          not : abstraction p t ≡ other → ⊥
          not e = subst is e tt
      go ih other e = under_none a (head_step ls b) ih
