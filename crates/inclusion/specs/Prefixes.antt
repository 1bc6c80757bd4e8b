-- The context of a context's variable is what stands before it, so a wanted category mentions only variables whose
-- arguments are already there.
use Rattle.std.specs.Prelude.{◌≡◌, refl, ◌⊎◌, List, [], ◌∷◌, ◌++◌, ℕ, suc, length}
use Rattle.std.proofs.Common.{ap, sym, ◌∙◌, subst, inl, inr, append_assoc}
use Rattle.aut68.specs.Expr.{Expr, Exprs, nil, snoc, count_exprs}
use Rattle.aut68.specs.Substitution.{instantiate}
use Rattle.aut68.specs.Lines.{Line, Lines}
use Rattle.aut68.specs.Rules.Names.{IsLine, Member, Context, no_context, within}
use Rattle.aut68.specs.Rules.Resolved.{VariableOf, ConstantOf, Resolved}
use Rattle.calculus.specs.Renaming.{sub, subs}
use Rattle.lookup.specs.LineNumbers.{line_unique}
use Rattle.calculus.specs.Scoped.{ScopedCategory, scoped_category, category_map}
use Rattle.calculus.specs.Resolved.{ResolvedLines}
use Rattle.lookup.specs.Contexts.{RightContexts, context_unique}
use Rattle.inclusion.specs.Agreeing.{Covers, covers_all, covers_more, count_snoc, sub_instantiate}

abbrev Empty : List ℕ → Type 0
Empty [] = Unit {0}
Empty (v ∷ vs) = ⊥

not_empty : (vs : List ℕ) (v : ℕ) (ws : List ℕ) → [] ≡ vs ++ (v ∷ ws) → ⊥
not_empty [] v ws e = subst Empty e tt
not_empty (u ∷ vs) v ws e = subst Empty e tt

abbrev rest : List ℕ → List ℕ
rest [] = []
rest (v ∷ vs) = vs

abbrev head : List ℕ → ℕ
head [] = 0
head (v ∷ vs) = v

-- where v stands, if u is the last
Split : List ℕ → ℕ → List ℕ → ℕ → Type 0
Split vs u before v = ((vs ≡ before) × (u ≡ v)) ⊎ ((more : List ℕ) × (vs ≡ before ++ (v ∷ more)))

split_last : (vs : List ℕ) (u : ℕ) (before : List ℕ) (v : ℕ) (more : List ℕ) → vs ++ (u ∷ []) ≡ before ++ (v ∷ more) → Split vs u before v
unfolding Split
split_last [] u [] v more e = inl (refl, ap head e)
split_last [] u (x ∷ before) v more e = absurd (not_empty before v more (ap rest e))
split_last (w ∷ vs) u [] v more e = inr (vs, ap (λ x. x ∷ vs) (ap head e))
split_last (w ∷ vs) u (x ∷ before) v more e = go (split_last vs u before v more (ap rest e))
  where
    go : Split vs u before v → Split (w ∷ vs) u (x ∷ before) v
    go (inl h) = inl (ap (λ z. z ∷ vs) (ap head e) ∙ ap (λ z. x ∷ z) h.0, h.1)
    go (inr h) = inr (h.0, ap (λ z. z ∷ vs) (ap head e) ∙ ap (λ z. x ∷ z) h.1)

pub context_before : {ls : Lines} {w : ℕ} {vs : List ℕ} → RightContexts ls → Context ls w vs → (before : List ℕ) (v : ℕ) (more : List ℕ) → vs ≡ before ++ (v ∷ more) → {l : Line}
    → IsLine ls v l → l.context ≡ before
unfolding Split
context_before R no_context before v more e i = absurd (not_empty before v more e)
context_before {ls} R (within {v = u} {l = k} {vs = vs} j x h) before v more e {l} i = go (λ m q. context_before R h before v m q i) (split_last vs u before v more e)
  where
    go : ((m : List ℕ) → vs ≡ before ++ (v ∷ m) → l.context ≡ before) → Split vs u before v → l.context ≡ before
    go f (inl q) =
        let same : k ≡ l = line_unique (subst (λ z. IsLine ls z k) q.1 j) i in
        ap (λ (z : Line). z.context) (sym same) ∙ context_unique (R _ _ j) h ∙ q.0
    go f (inr q) = f q.0 q.1

-- vs are the variables of the context that are left after as many as there are earlier arguments
pub record Placed (context vs : List ℕ) (earlier : Exprs) : Type 0 where
  pub before : List ℕ
  pub splits : context ≡ before ++ vs
  pub as_many : count_exprs earlier ≡ length before

pub placed_first : (context : List ℕ) → Placed context context nil
unfolding count_exprs
placed_first context = record { before = []; splits = refl; as_many = refl }

pub placed_next : {context vs : List ℕ} {v : ℕ} {earlier : Exprs} (a : Expr) → Placed context (v ∷ vs) earlier → Placed context vs (snoc earlier a)
placed_next {context} {vs} {v} {earlier} a h =
    record {
      before = h.before ++ (v ∷ []);
      splits = h.splits ∙ sym (append_assoc h.before (v ∷ []) vs);
      as_many = count_snoc earlier a ∙ ap suc h.as_many ∙ longer h.before;
    }
  where
    longer : (us : List ℕ) → suc (length us) ≡ length (us ++ (v ∷ []))
    longer [] = refl
    longer (u ∷ us) = ap suc (longer us)

module _ (ls : Lines) (W : ResolvedLines ls) where
  abbrev pub CoveredCategory : List ℕ → Exprs → Expr → Type 0
  CoveredCategory us xs c = ScopedCategory (λ v. Covers v xs us) (ConstantOf ls) 0 c

  -- of an expression in a context, with as many arguments
  pub covered_expression : (us : List ℕ) (xs : Exprs) (m : Expr) → count_exprs xs ≡ length us → Resolved ls us 0 m → CoveredCategory us xs m
  covered_expression us xs m n w =
      category_map _ _ _ _ (λ v h. covers_all xs us n h.in_context) (λ v k h. h) 0 m (scoped_category (VariableOf ls us) (ConstantOf ls) 0 m w)

  pub covered_category : {v : ℕ} {l : Line} (xs : Exprs) → IsLine ls v l → count_exprs xs ≡ length l.context → CoveredCategory l.context xs l.category
  covered_category {l = l} xs i n = category_map _ _ _ _ (λ v h. covers_all xs l.context n h.in_context) (λ v k h. h) 0 l.category (W.at i).category

  -- a wanted category
  pub covered_wanted : RightContexts ls → {w : ℕ} {context vs : List ℕ} {v : ℕ} {l : Line} {earlier : Exprs} → Context ls w context → Placed context (v ∷ vs) earlier → IsLine ls v l
      → CoveredCategory context earlier l.category
  covered_wanted R {context = context} {vs} {v} {l} {earlier} c h i = category_map _ _ _ _ (λ u x. covers u x.in_context) (λ u k x. x) 0 l.category (W.at i).category
    where
      covers : (u : ℕ) → Member u l.context → Covers u earlier context
      covers u m =
          let n : Member u h.before = subst (λ z. Member u z) (context_before R c h.before v vs h.splits i) m in
          subst (λ z. Covers u earlier z) (sym h.splits) (covers_more (v ∷ vs) (covers_all earlier h.before h.as_many n))

  pub sub_covered : (σ θ : ℕ → Expr) (us : List ℕ) (xs : Exprs) (c : Expr) → CoveredCategory us xs c → sub σ θ (instantiate us xs 0 c) ≡ instantiate us (subs σ θ xs) 0 c
  sub_covered σ θ us xs c w = sub_instantiate (ConstantOf ls) σ θ us xs c w
