-- In AUT-68 neither the depth of an expression nor the search for a category's category plays a part. So the code says `category68` and
-- `arguments68` at whatever depth.
use Rattle.std.specs.Prelude.{◌≡◌, List, [], ◌∷◌, ℕ, suc}
use Rattle.std.proofs.Math.Path.{refl, ap₂}
use Rattle.aut68.specs.Language.{aut68}
use Rattle.aut68.specs.Procedure.Answer.{Act, and_then, ◌>>=◌, refuse, ensure, not_function, not_type}
use Rattle.aut68.specs.Expr.{Expr, Exprs, type, prop, var, bound, const, app, abs, nil, cons, snoc, is_type, shape, abstraction, other, over_binding}
use Rattle.aut68.specs.Substitution.{substitute, instantiate}
use Rattle.aut68.specs.Lines.{Lines}
use Rattle.aut68.specs.Procedure.Compare.{compare}
use Rattle.aut68.specs.Procedure.Category.{Scope, Search, the_line, made, head_form, serves_as_type, opens, second_chance, category_at, arguments, searches, category}

abbrev pub category68 : Lines → ℕ → Scope → Expr → Act ℕ Expr
category68 ls L = category aut68 ls L 1

abbrev pub arguments68 : Lines → ℕ → Scope → Exprs → List ℕ → List ℕ → Exprs → Act ℕ (Unit {0})
arguments68 ls L = arguments aut68 ls L (searches aut68 ls L 16) 1

module _ (ls : Lines) (L : ℕ) where
  -- `<A>B` in AUT-68, with what seeks A's category and B's
  unfoldable pub of_application : Expr → Act ℕ Expr → Act ℕ Expr → Act ℕ Expr
  of_application a seekA seekB = do
    c ← seekB
    f ← head_form ls L c
    elim (shape f) as (λ _. Act ℕ Expr) [
      | abstraction p q ↦ (do
        found ← seekA
        _ ← compare aut68 ls L found p
        made L (substitute a 0 q))
      | other ↦ refuse not_function
    ]

  -- `[x,P]T`, with what seeks P's category and T's
  unfoldable pub of_abstraction : Expr → Act ℕ Expr → Act ℕ Expr → Act ℕ Expr
  of_abstraction p seekP seekT = do
    k ← seekP
    _ ← ensure (is_type k) not_type
    c ← seekT
    made L (over_binding aut68 p c)

  -- one argument, with what seeks its category and goes through those behind it
  unfoldable pub of_argument : List ℕ → Exprs → ℕ → Act ℕ Expr → Act ℕ (Unit {0}) → Act ℕ (Unit {0})
  of_argument context earlier v seek others = do
    found ← seek
    l ← the_line ls v
    wanted ← made L (instantiate context earlier 0 l.category)
    _ ← compare aut68 ls L found wanted
    others

module _ (ls : Lines) (L : ℕ) (search search' : Search) where
  mutual
    unfolding category_at opens second_chance serves_as_type and_then of_application of_abstraction of_argument

    pub any_depth : (d d' : ℕ) (sc : Scope) (e : Expr) → category_at aut68 ls L search d sc e ≡ category_at aut68 ls L search' d' sc e
    any_depth d d' sc type = refl
    any_depth d d' sc prop = refl
    any_depth d d' sc (var v) = refl
    any_depth d d' sc (bound i) = refl
    any_depth d d' sc (const v xs) = λ i. the_line ls v >>= λ l. (any_arguments (suc d) (suc d') sc xs l.context l.context nil i >>= λ _. made L (instantiate l.context xs 0 l.category))
    any_depth d d' sc (app a b) = ap₂ (of_application ls L a) (any_depth (suc d) (suc d') sc a) (any_depth (suc d) (suc d') sc b)
    any_depth d d' sc (abs p t) = ap₂ (of_abstraction ls L p) (any_depth (suc d) (suc d') sc p) (any_depth (suc d) (suc d') (p ∷ sc) t)

    pub any_arguments : (d d' : ℕ) (sc : Scope) (xs : Exprs) (vs context : List ℕ) (earlier : Exprs)
        → arguments aut68 ls L search d sc xs vs context earlier ≡ arguments aut68 ls L search' d' sc xs vs context earlier
    any_arguments d d' sc nil [] context earlier = refl
    any_arguments d d' sc nil (v ∷ vs) context earlier = refl
    any_arguments d d' sc (cons a xs) [] context earlier = refl
    any_arguments d d' sc (cons a xs) (v ∷ vs) context earlier =
        ap₂ (of_argument ls L context earlier v) (any_depth d d' sc a) (any_arguments d d' sc xs vs context (snoc earlier a))

-- ---- the clauses of `category68` and `arguments68`

module _ (ls : Lines) (L : ℕ) where
  same_search : (d d' : ℕ) (sc : Scope) (e : Expr) → category aut68 ls L d sc e ≡ category aut68 ls L d' sc e
  unfolding category
  same_search d d' sc e = any_depth ls L (searches aut68 ls L 16) (searches aut68 ls L 16) d d' sc e

  pub application_at : (sc : Scope) (a b : Expr) → category68 ls L sc (app a b) ≡ of_application ls L a (category68 ls L sc a) (category68 ls L sc b)
  unfolding category category_at opens second_chance and_then of_application
  application_at sc a b = ap₂ (of_application ls L a) (same_search 2 1 sc a) (same_search 2 1 sc b)

  pub abstraction_at : (sc : Scope) (p t : Expr) → category68 ls L sc (abs p t) ≡ of_abstraction ls L p (category68 ls L sc p) (category68 ls L (p ∷ sc) t)
  unfolding category category_at opens serves_as_type and_then of_abstraction
  abstraction_at sc p t = ap₂ (of_abstraction ls L p) (same_search 2 1 sc p) (same_search 2 1 (p ∷ sc) t)

  pub constant_at : (sc : Scope) (v : ℕ) (xs : Exprs)
      → category68 ls L sc (const v xs)
      ≡ (the_line ls v >>= λ l. (arguments68 ls L sc xs l.context l.context nil >>= λ _. made L (instantiate l.context xs 0 l.category)))
  unfolding category category_at opens and_then
  constant_at sc v xs = λ i.
      the_line ls v
      >>= λ l.
      (any_arguments ls L (searches aut68 ls L 16) (searches aut68 ls L 16) 2 1 sc xs l.context l.context nil i >>= λ _. made L (instantiate l.context xs 0 l.category))

  pub argument_at_lem : (sc : Scope) (a : Expr) (xs : Exprs) (v : ℕ) (vs context : List ℕ) (earlier : Exprs)
      → arguments68 ls L sc (cons a xs) (v ∷ vs) context earlier
      ≡ of_argument ls L context earlier v (category68 ls L sc a) (arguments68 ls L sc xs vs context (snoc earlier a))
  unfolding category category_at of_argument
  argument_at_lem sc a xs v vs context earlier = refl
