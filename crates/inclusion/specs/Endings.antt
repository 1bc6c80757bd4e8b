-- Categories that end in `type` or `prop`, and dropping their surplus: neither is changed by steps, renaming or substitution.
use Rattle.std.specs.Prelude.{◌≡◌, refl, ℕ}
use Rattle.std.proofs.Common.{sym}
use Rattle.std.proofs.Math.Path.{subst}
use Rattle.aut68.specs.Language.{Language}
use Rattle.aut68.specs.Expr.{Expr, abs}
use Rattle.aut68.specs.Lines.{Lines}
use Rattle.aut68.specs.Rules.Steps.{Step, in_domain, in_body, Reduces, done, step}
use Rattle.aut68.specs.Rules.Serving.{Basic, a_type, a_prop, Ends, itself, before, Drops, same, surplus, under}
use Rattle.calculus.specs.Renaming.{ren, upr, sub, up, raise}
use Rattle.calculus.specs.Reductions.{steps_one, steps_trans}

-- ---- endings

pub ends_one : {s s' e : Expr} → Basic s → Basic s' → Ends s e → Ends s' e → s ≡ s'
ends_one b b' itself itself = refl
ends_one b b' (before h) (before k) = ends_one b b' h k
ends_one b b' itself (before k) = elim b [ ]
ends_one b b' (before h) itself = elim b' [ ]

module _ (ls : Lines) where
  pub ends_step : {s e e' : Expr} → Basic s → Ends s e → Step ls e e' → Ends s e'
  ends_step a_type itself x = elim x [ ]
  ends_step a_prop itself x = elim x [ ]
  ends_step b (before h) (in_domain x) = before h
  ends_step b (before h) (in_body x) = before (ends_step b h x)

  pub ends_steps : {s e e' : Expr} → Basic s → Ends s e → Reduces ls e e' → Ends s e'
  ends_steps b h done = h
  ends_steps b h (step x r) = ends_steps b (ends_step b h x) r

pub ends_ren : {s e : Expr} (ρ : ℕ → ℕ) → Basic s → Ends s e → Ends s (ren ρ e)
unfolding ren
ends_ren ρ a_type itself = itself
ends_ren ρ a_prop itself = itself
ends_ren ρ b (before h) = before (ends_ren (upr ρ) b h)

pub ends_sub : {s e : Expr} (σ θ : ℕ → Expr) → Basic s → Ends s e → Ends s (sub σ θ e)
unfolding sub
ends_sub σ θ a_type itself = itself
ends_sub σ θ a_prop itself = itself
ends_sub σ θ b (before h) = before (ends_sub (up σ) (λ v. raise (θ v)) b h)

pub basic_ren : {s : Expr} (ρ : ℕ → ℕ) → Basic s → ren ρ s ≡ s
unfolding ren
basic_ren ρ a_type = refl
basic_ren ρ a_prop = refl

pub basic_sub : {s : Expr} (σ θ : ℕ → Expr) → Basic s → sub σ θ s ≡ s
unfolding sub
basic_sub σ θ a_type = refl
basic_sub σ θ a_prop = refl

-- ---- dropping the surplus

module _ (language : Language) where
  pub drops_ends : {s a b : Expr} → Basic s → Drops language a b → Ends s b → Ends s a
  drops_ends b same h = h
  drops_ends a_type (surplus x c e) itself = e
  drops_ends a_prop (surplus x c e) itself = e
  drops_ends b (under d) (before h) = before (drops_ends b d h)
  drops_ends a_type (surplus x c e) (before h) = elim c [ ]
  drops_ends a_prop (surplus x c e) (before h) = elim c [ ]
  drops_ends b (under d) itself = elim b [ ]

  -- what drops to an abstraction
  pub drops_abs : {a p t : Expr} → Drops language a (abs p t) → (t' : Expr) × (a ≡ abs p t') × Drops language t' t
  drops_abs {t = t} same = (t, refl, same)
  drops_abs (under {t = t'} d) = (t', refl, d)
  drops_abs (surplus _ h _) = elim h [ ]

  pub drops_trans : {b a c : Expr} → Drops language a b → Drops language b c → Drops language a c
  drops_trans h same = h
  drops_trans h (surplus x c e) = surplus x c (drops_ends c h e)
  drops_trans h (under {p = p} {t' = t'} k) =
      let (t, e, d) = drops_abs h in
      subst (λ z. Drops language z (abs p t')) (sym e) (under (drops_trans d k))

  pub drops_ren : {a b : Expr} (ρ : ℕ → ℕ) → Drops language a b → Drops language (ren ρ a) (ren ρ b)
  unfolding ren
  drops_ren ρ same = same
  drops_ren {a} ρ (surplus x c e) = subst (λ z. Drops language (ren ρ a) z) (sym (basic_ren ρ c)) (surplus x c (ends_ren ρ c e))
  drops_ren ρ (under d) = under (drops_ren (upr ρ) d)

  pub drops_sub : {a b : Expr} (σ θ : ℕ → Expr) → Drops language a b → Drops language (sub σ θ a) (sub σ θ b)
  unfolding sub
  drops_sub σ θ same = same
  drops_sub {a} σ θ (surplus x c e) = subst (λ z. Drops language (sub σ θ a) z) (sym (basic_sub σ θ c)) (surplus x c (ends_sub σ θ c e))
  drops_sub σ θ (under d) = under (drops_sub (up σ) (λ v. raise (θ v)) d)

  module _ (ls : Lines) where
    -- a step on the wanted side, followed on the found side; and the other way
    pub drops_push : {a b b' : Expr} → Drops language a b → Step ls b b' → (a' : Expr) × Reduces ls a a' × Drops language a' b'
    drops_push {b' = b'} same s = (b', steps_one ls s, same)
    drops_push (surplus x a_type e) s = elim s [ ]
    drops_push (surplus x a_prop e) s = elim s [ ]
    drops_push (under {t = t} d) (in_domain {p' = p'} s) = (abs p' t, steps_one ls (in_domain s), under d)
    drops_push (under {p = p} d) (in_body s) = let (t', r, k) = drops_push d s in (abs p t', body_steps r, under k)
      where
        body_steps : {p t t' : Expr} → Reduces ls t t' → Reduces ls (abs p t) (abs p t')
        body_steps done = done
        body_steps (step s r) = step (in_body s) (body_steps r)

    pub drops_pull : {a b a' : Expr} → Drops language a b → Step ls a a' → (b' : Expr) × Reduces ls b b' × Drops language a' b'
    drops_pull {a' = a'} same s = (a', steps_one ls s, same)
    drops_pull {b = b} (surplus x c e) s = (b, done, surplus x c (ends_step ls c e s))
    drops_pull (under {t' = t'} d) (in_domain {p' = p'} s) = (abs p' t', steps_one ls (in_domain s), under d)
    drops_pull (under {p = p} d) (in_body s) = let (t', r, k) = drops_pull d s in (abs p t', body_steps r, under k)
      where
        body_steps : {p t t' : Expr} → Reduces ls t t' → Reduces ls (abs p t) (abs p t')
        body_steps done = done
        body_steps (step s r) = step (in_body s) (body_steps r)

    pub drops_pushes : {b a b' : Expr} → Drops language a b → Reduces ls b b' → (a' : Expr) × Reduces ls a a' × Drops language a' b'
    drops_pushes {a} d done = (a, done, d)
    drops_pushes d (step s r) =
        let (a₁, r₁, d₁) = drops_push d s in
        let (a₂, r₂, d₂) = drops_pushes d₁ r in
        (a₂, steps_trans ls r₁ r₂, d₂)

    pub drops_pulls : {a b a' : Expr} → Drops language a b → Reduces ls a a' → (b' : Expr) × Reduces ls b b' × Drops language a' b'
    drops_pulls {b = b} d done = (b, done, d)
    drops_pulls d (step s r) =
        let (b₁, r₁, d₁) = drops_pull d s in
        let (b₂, r₂, d₂) = drops_pulls d₁ r in
        (b₂, steps_trans ls r₁ r₂, d₂)
