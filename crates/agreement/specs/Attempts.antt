-- Which pairs are attempted: where a side has a head step, matching shapes are two uses of one abbreviation or two applications.
use Rattle.std.specs.Prelude.{◌≡◌, ℕ}
use Rattle.std.proofs.Math.Path.{refl, ap, sym, subst}
use Rattle.std.proofs.Common.{◌∙◌}
use Rattle.std.proofs.Math.Option.{some, none-ne-some}
use Rattle.aut68.specs.Expr.{Expr, Exprs, type, prop, var, bound, const, app, abs, first_cell, parts}
use Rattle.aut68.specs.Lines.{Lines, Kind, variable, primitive, abbreviation, line_of}
use Rattle.aut68.specs.Substitution.{instantiate}
use Rattle.aut68.specs.Procedure.HeadStep.{no_step, delta, head_step, left}
use Rattle.calculus.specs.Shapes.{decode, decoded, decoded_is, first_of, second_of}

module _ (ls : Lines) where
  -- "two uses of one abbreviation or two applications"
  pub data Attempted : Expr → Expr → Type 0 where
    uses : {v : ℕ} {m : Expr} {xs ys : Exprs} → (line_of ls v).kind ≡ abbreviation m → Attempted (const v xs) (const v ys)
    applications : {a b c d : Expr} → Attempted (app a b) (app c d)

  pub attempted_sym : {l r : Expr} → Attempted l r → Attempted r l
  attempted_sym (uses e) = uses e
  attempted_sym applications = applications

  -- their shapes match
  pub attempted_cell : {l r : Expr} → Attempted l r → first_cell l ≡ first_cell r
  unfolding first_cell
  attempted_cell (uses e) = refl
  attempted_cell applications = refl

  const_uses : (v : ℕ) (xs ys : Exprs) (n : Expr) (k : Kind) → (line_of ls v).kind ≡ k
      → left (elim k [ variable ↦ no_step | primitive ↦ no_step | abbreviation m ↦ delta v (instantiate (line_of ls v).context xs 0 m) ]) ≡ some n
      → Attempted (const v xs) (const v ys)
  unfolding left
  const_uses v xs ys n variable e q = absurd (none-ne-some n q)
  const_uses v xs ys n primitive e q = absurd (none-ne-some n q)
  const_uses v xs ys n (abbreviation m) e q = uses e

  same_const : (v : ℕ) (xs : Exprs) (r : Expr) → first_cell (const v xs) ≡ first_cell r → const v (parts r) ≡ r
  unfolding first_cell parts
  same_const v xs r e = sym (decoded_is (const v (parts r))) ∙ ap (λ n. decoded n (parts r)) e ∙ decoded_is r

  same_app : (a b r : Expr) → first_cell (app a b) ≡ first_cell r → app (first_of (parts r)) (second_of (parts r)) ≡ r
  unfolding first_cell decoded decode
  same_app a b r e = ap (λ n. decoded n (parts r)) e ∙ decoded_is r

  -- the left side has a head step
  pub attempted_left : (l r n : Expr) → left (head_step ls l) ≡ some n → first_cell l ≡ first_cell r → Attempted l r
  unfolding head_step left
  attempted_left type r n q e = absurd (none-ne-some n q)
  attempted_left prop r n q e = absurd (none-ne-some n q)
  attempted_left (var v) r n q e = absurd (none-ne-some n q)
  attempted_left (bound i) r n q e = absurd (none-ne-some n q)
  attempted_left (const v xs) r n q e =
      subst (λ x. Attempted (const v xs) x) (same_const v xs r e) (const_uses v xs (parts r) n (line_of ls v).kind refl q)
  attempted_left (app a b) r n q e = subst (λ x. Attempted (app a b) x) (same_app a b r e) applications
  attempted_left (abs p t) r n q e = absurd (none-ne-some n q)

  -- or the right
  pub attempted_right : (l r n : Expr) → left (head_step ls r) ≡ some n → first_cell l ≡ first_cell r → Attempted l r
  attempted_right l r n q e = attempted_sym (attempted_left r l n q (sym e))
