use native.Mathlib.Omega.{arith}
use mathlib.Core.Path.{refl}
use mathlib.Core.Logic.{inl, inr}
use Rattle.completion.proofs.ShiftLaws.{shifted_lem}
use Rattle.completion.proofs.PutInLaws.{no_room, put_in_all}
use Rattle.completion.proofs.completion.put_in.Goals as goal

pub returns-then-end-len : goal.returns-then-end-len
returns-then-end-len c = no_room c.field-n.ensures.0 (λ l. elim c.then-end-len.either [ inl x ↦ omega arith | inr x ↦ omega arith ])

pub returns-then-n-len : goal.returns-then-n-len
returns-then-n-len c = no_room c.field-n.ensures.0 (λ l. omega arith)

pub returns : goal.returns
returns c =
    put_in_all c.field-n.ensures.0 refl (omega arith) (omega arith)
    (shifted_lem (omega arith) c.copy_within.ensures.len c.copy_within.ensures.by_index) c.put_variables.ensures
