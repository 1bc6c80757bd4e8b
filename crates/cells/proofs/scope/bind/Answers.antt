use mathlib.Core.Path.{◌≡◌, refl}
use Prim.Native.Nat.{ℕ, ◌+◌, ◌≤◌, ◌<◌}
use native.Mathlib.Omega.{arith}
use Rattle.aut68.specs.Sizes.{nesting}
use Rattle.cells.specs.declared.scope.Scope.{Scope}
use Rattle.cells.specs.Posts.{Bindable, Bound}
use Rattle.cells.proofs.scope.bind.Goals as goal
use Rattle.cells.proofs.scope.bind.Goals.{then-bound-ge-NESTING-via-then-bound-ge-NESTING, then-bound-ge-NESTING-via-else-bound-ge-NESTING+then-start, then-bound-ge-NESTING-via-else-bound-ge-NESTING+else-start+then-len}

-- where there is no room there is no binding more
no_room : {scope r : Scope} {start len : ℕ} → (scope.depth < nesting → r.depth ≡ scope.depth + 1) → (scope.depth ≤ nesting → r.depth ≤ nesting)
    → (Bindable scope start len → ⊥) → Bound scope start len r
no_room d s n = record { deeper = d; more = λ b. absurd (n b); starts_are = λ b. absurd (n b); lens_are = λ b. absurd (n b); shallow = s }

pub returns-then-scope-ge-NESTING : goal.returns-then-scope-ge-NESTING
returns-then-scope-ge-NESTING c = no_room (λ h. absurd (omega arith)) (λ h. h) λ b. omega (arith, b.shallow)

pub returns-then-bound-ge-NESTING : goal.returns-then-bound-ge-NESTING
returns-then-bound-ge-NESTING c = no_room (λ h. refl) (λ h. omega arith) λ b. elim c.then-bound-ge-NESTING.branch [
  | then-bound-ge-NESTING-via-then-bound-ge-NESTING w ↦ omega arith
  | then-bound-ge-NESTING-via-else-bound-ge-NESTING+then-start w ↦ omega arith
  | then-bound-ge-NESTING-via-else-bound-ge-NESTING+else-start+then-len w ↦ omega arith
]
