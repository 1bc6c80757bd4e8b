-- What is well-scoped under bindings: a bound variable's domain where the variable stands, and the category of an abstraction.
use Rattle.std.specs.Prelude.{Bool, List, ℕ, suc, ◌+◌, ◌≤◌, length}
use Rattle.std.proofs.Math.Bool.{true, false}
use Rattle.std.proofs.Common.{arith}
use Rattle.aut68.specs.Language.{Language, aut68, aut_qe}
use Rattle.aut68.specs.Expr.{Expr, type, abs, is_type, over_binding}
use Rattle.aut68.specs.Substitution.{lift}
use Rattle.aut68.specs.Lines.{Lines}
use Rattle.aut68.specs.Rules.Categories.{DomainAt, innermost, outside}
use Rattle.aut68.specs.Rules.Resolved.{Scoped, ConstantOf}
use Rattle.calculus.specs.Scoped.{ScopedScope, ScopedCategory, scoped_lift, scoped_under}

module _ (language : Language) (ls : Lines) (X : ℕ → Type 0) where
  abbrev In : ℕ → Expr → Type 0
  In = Scoped X (ConstantOf ls)

  abbrev InCategory : ℕ → Expr → Type 0
  InCategory = ScopedCategory X (ConstantOf ls)

  pub over_scoped : (k : ℕ) (p c : Expr) → In k p → InCategory (suc k) c → InCategory k (over_binding language p c)
  unfolding over_binding ScopedCategory
  over_scoped k p c w x = go language
    where
      at : (t : Bool) → InCategory k (elim t [ true ↦ type | false ↦ abs p c ])
      at true = tt
      at false = (w, x)

      go : (language : Language) → InCategory k (over_binding language p c)
      go aut68 = at (is_type c)
      go aut_qe = (w, x)

  domain_scoped : {p : Expr} {sc : List Expr} {i : ℕ} → DomainAt p sc i → ScopedScope X (ConstantOf ls) sc → (k : ℕ) × In k p × (k + suc i ≤ length sc)
  unfolding ScopedScope
  domain_scoped {sc = sc} (innermost {sc = sc'}) w = (length sc', w.0, omega arith)
  domain_scoped (outside d) w = let (k, x, l) = domain_scoped d w.1 in (k, x, omega arith)

  pub bound_scoped : {p : Expr} {sc : List Expr} {i : ℕ} → DomainAt p sc i → ScopedScope X (ConstantOf ls) sc → In (length sc) (lift (suc i) 0 p)
  bound_scoped {p} {sc} {i} d s =
      let (k, x, l) = domain_scoped d s in
      scoped_under X (ConstantOf ls) l (lift (suc i) 0 p) (scoped_lift X (ConstantOf ls) (suc i) 0 k p x)
