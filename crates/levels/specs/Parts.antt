-- The parts of an application and of an abstraction, where they lie; the domains of bindings.
use Rattle.std.specs.Prelude.{List, [], ◌∷◌, ◌++◌, ℕ, suc, ◌+◌, ◌<◌, zero}
use Rattle.std.proofs.Common.{append-nil, arith}
use Rattle.std.proofs.Math.ListN.{length}
use Rattle.aut68.specs.Expr.{Expr, app, abs, cells, cellss, parts}
use Rattle.aut68.specs.Rules.Categories.{DomainAt, innermost, outside}
use Rattle.cells.specs.Cells.{At}
use Rattle.cells.specs.Forests.{at_parts, at_front, at_second}

module _ {e behind : List ℕ} {i : ℕ} where
  pub application_argument : (a b : Expr) → At e i (cells (app a b)) behind → At e (i + 1) (cells a) (cells b ++ [] ++ behind)
  unfolding parts cellss
  application_argument a b h = at_front (cells a) (cells b ++ []) (at_parts (app a b) h)

  pub application_function : (a b : Expr) → At e i (cells (app a b)) behind → At e (i + 1 + length (cells a)) (cells b) behind
  unfolding parts cellss
  application_function a b h =
      let k : At e (i + 1 + length (cells a)) (cells b ++ []) behind = at_second (cells a) (cells b ++ []) (at_parts (app a b) h) in
      rw (append-nil (cells b)) at k

  pub abstraction_domain : (p t : Expr) → At e i (cells (abs p t)) behind → At e (i + 1) (cells p) (cells t ++ [] ++ behind)
  unfolding parts cellss
  abstraction_domain p t h = at_front (cells p) (cells t ++ []) (at_parts (abs p t) h)

  pub abstraction_body : (p t : Expr) → At e i (cells (abs p t)) behind → At e (i + 1 + length (cells p)) (cells t) behind
  unfolding parts cellss
  abstraction_body p t h =
      let k : At e (i + 1 + length (cells p)) (cells t ++ []) behind = at_second (cells p) (cells t ++ []) (at_parts (abs p t) h) in
      rw (append-nil (cells t)) at k

  -- `[x,P]` and what stands behind it
  pub abstraction_front : (p t : Expr) → At e i (cells (abs p t)) behind → At e i (5 ∷ cells p) (cells t ++ behind)
  unfolding cells
  abstraction_front p t h = at_front (5 ∷ cells p) (cells t) h

-- ---- bindings

pub domain_of : (sc : List Expr) (i : ℕ) → i < length sc → (p : Expr) × DomainAt p sc i
domain_of [] i h = absurd (omega arith)
domain_of (p ∷ sc) zero h = (p, innermost)
domain_of (p ∷ sc) (suc i) h = let (q, d) = domain_of sc i (omega arith) in (q, outside d)

pub domain_inside : {p : Expr} {sc : List Expr} {i : ℕ} → DomainAt p sc i → i < length sc
domain_inside innermost = omega arith
domain_inside (outside d) = let h = domain_inside d in omega arith
