-- Steps under a substitution for bound and for context variables.
use Rattle.std.proofs.Common.{ap, ◌∙◌}
use Rattle.std.specs.Prelude.{ℕ, suc}
use Rattle.aut68.specs.Expr.{Expr, Exprs, const, app, abs}
use Rattle.aut68.specs.Lines.{Lines}
use Rattle.aut68.specs.Rules.Steps.{Step, StepIn, beta, delta, in_arguments, in_a, in_b, in_domain, in_body, in_first, in_rest, Reduces, done, step, Equal}
use Rattle.calculus.specs.Renaming.{sub, subs, up, raise}
use Rattle.calculus.specs.Reductions.{steps_one}
use Rattle.calculus.specs.Scoped.{ScopedCategory}
use Rattle.calculus.specs.Resolved.{AllKnown, KnownCategory, ResolvedLines}
use Rattle.aut68.specs.Language.{Language}
use Rattle.aut68.specs.Rules.Serving.{Serves}
use Rattle.aut68.specs.Rules.Resolved.{Scoped, ConstantOf, Known}
use Rattle.inclusion.specs.Endings.{drops_sub}
use Rattle.calculus.specs.Known.{constant_count, known_category_steps}
use Rattle.inclusion.specs.Agreeing.{sub_substitute, sub_instantiate}
use Rattle.inclusion.specs.Prefixes.{covered_expression}

module _ (ls : Lines) (W : ResolvedLines ls) where
  mutual
    unfolding sub Scoped

    pub step_sub : {e e' : Expr} → Step ls e e' → (σ θ : ℕ → Expr) (k : ℕ) → Known ls k e → Step ls (sub σ θ e) (sub σ θ e')
    step_sub (beta {a} {p} {t} q) σ θ k w = beta (ap (sub σ θ) q ∙ sub_substitute σ θ a t)
    step_sub (delta {l = l} {m = m} {xs = xs} i e q) σ θ k w =
        delta i e
        (ap (sub σ θ) q
        ∙ sub_instantiate (ConstantOf ls) σ θ l.context xs m (covered_expression ls W l.context xs m (constant_count ls W w.0 i) ((W.at i).middle m e)))
    step_sub (in_arguments s) σ θ k w = in_arguments (step_in_sub s σ θ k w.1)
    step_sub (in_a s) σ θ k w = in_a (step_sub s σ θ k w.0)
    step_sub (in_b s) σ θ k w = in_b (step_sub s σ θ k w.1)
    step_sub (in_domain s) σ θ k w = in_domain (step_sub s σ θ k w.0)
    step_sub (in_body s) σ θ k w = in_body (step_sub s (up σ) (λ v. raise (θ v)) (suc k) w.1)

    step_in_sub : {xs ys : Exprs} → StepIn ls xs ys → (σ θ : ℕ → Expr) (k : ℕ) → AllKnown ls k xs → StepIn ls (subs σ θ xs) (subs σ θ ys)
    step_in_sub (in_first s) σ θ k w = in_first (step_sub s σ θ k w.0)
    step_in_sub (in_rest s) σ θ k w = in_rest (step_in_sub s σ θ k w.1)

  pub step_sub_category : {e e' : Expr} → Step ls e e' → (σ θ : ℕ → Expr) (k : ℕ) → KnownCategory ls k e → Step ls (sub σ θ e) (sub σ θ e')
  unfolding ScopedCategory sub Scoped
  step_sub_category (beta {a} {p} {t} {r} q) σ θ k w = step_sub {e = app a (abs p t)} {e' = r} (beta q) σ θ k w
  step_sub_category (delta {v} {l} {m} {r} {xs} i e q) σ θ k w = step_sub {e = const v xs} {e' = r} (delta i e q) σ θ k w
  step_sub_category (in_arguments s) σ θ k w = in_arguments (step_in_sub s σ θ k w.1)
  step_sub_category (in_a s) σ θ k w = in_a (step_sub s σ θ k w.0)
  step_sub_category (in_b s) σ θ k w = in_b (step_sub s σ θ k w.1)
  step_sub_category (in_domain s) σ θ k w = in_domain (step_sub s σ θ k w.0)
  step_sub_category (in_body s) σ θ k w = in_body (step_sub_category s (up σ) (λ v. raise (θ v)) (suc k) w.1)

  pub reduces_sub_category : {a b : Expr} → Reduces ls a b → (σ θ : ℕ → Expr) (k : ℕ) → KnownCategory ls k a → Reduces ls (sub σ θ a) (sub σ θ b)
  reduces_sub_category done σ θ k w = done
  reduces_sub_category (step s h) σ θ k w = step (step_sub_category s σ θ k w) (reduces_sub_category h σ θ k (known_category_steps ls W k (steps_one ls s) w))

  pub equal_sub : {a b : Expr} → Equal ls a b → (σ θ : ℕ → Expr) (k : ℕ) → KnownCategory ls k a → KnownCategory ls k b → Equal ls (sub σ θ a) (sub σ θ b)
  equal_sub h σ θ k w x =
      record { common = sub σ θ h.common; from_left = reduces_sub_category h.from_left σ θ k w; from_right = reduces_sub_category h.from_right σ θ k x }

  pub serves_sub : {language : Language} {a b : Expr} → Serves language ls a b → (σ θ : ℕ → Expr) (k : ℕ) → KnownCategory ls k a → KnownCategory ls k b → Serves language ls (sub σ θ a) (sub σ θ b)
  serves_sub {language} h σ θ k w x =
      record {
        left = sub σ θ h.left;
        right = sub σ θ h.right;
        from_found = reduces_sub_category h.from_found σ θ k w;
        from_wanted = reduces_sub_category h.from_wanted σ θ k x;
        drops = drops_sub language σ θ h.drops;
      }
