use native.Mathlib.Omega.{arith}
use mathlib.Core.Logic.{inl, inr}
use Rattle.meanings.proofs.NotedLaws.{not_put, was_put}
use Rattle.meanings.proofs.contexts.put_variable.Goals as goal

pub returns-else-c-lt-CELL_VALUES : goal.returns-else-c-lt-CELL_VALUES
returns-else-c-lt-CELL_VALUES c = not_put (λ s u. elim c.else-c-lt-CELL_VALUES.either [ inl x ↦ omega arith | inr x ↦ omega arith ])

pub returns-then-i-unit : goal.returns-then-i-unit
returns-then-i-unit c = was_put (omega arith)
