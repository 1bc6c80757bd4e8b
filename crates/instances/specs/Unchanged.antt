-- In no context there is nothing to put in.
use Rattle.std.specs.Prelude.{◌≡◌, refl, List, [], ◌∷◌, ℕ, suc, length}
use Rattle.std.proofs.Common.{ap, ap₂, arith}
use Rattle.aut68.specs.Expr.{Expr, Exprs, type, prop, var, bound, const, app, abs, nil, cons}
use Rattle.aut68.specs.Substitution.{argument_for, instantiate_variable, instantiate, instantiates}

mutual
  unfolding argument_for instantiate_variable instantiate instantiates

  pub instantiate_none : (xs : Exprs) (c : ℕ) (e : Expr) → instantiate [] xs c e ≡ e
  instantiate_none xs c type = refl
  instantiate_none xs c prop = refl
  instantiate_none xs c (var v) = refl
  instantiate_none xs c (bound i) = refl
  instantiate_none xs c (const v es) = ap (const v) (instantiates_none xs c es)
  instantiate_none xs c (app a b) = ap₂ app (instantiate_none xs c a) (instantiate_none xs c b)
  instantiate_none xs c (abs p t) = ap₂ abs (instantiate_none xs c p) (instantiate_none xs (suc c) t)

  instantiates_none : (xs : Exprs) (c : ℕ) (es : Exprs) → instantiates [] xs c es ≡ es
  instantiates_none xs c nil = refl
  instantiates_none xs c (cons e es) = ap₂ cons (instantiate_none xs c e) (instantiates_none xs c es)

pub instantiate_empty : (vs : List ℕ) (xs : Exprs) (c : ℕ) (e : Expr) → length vs ≡ 0 → instantiate vs xs c e ≡ e
instantiate_empty [] xs c e h = instantiate_none xs c e
instantiate_empty (v ∷ vs) xs c e h = absurd (omega arith)
