use native.Mathlib.Omega.{arith}
use mathlib.Core.Path.{refl}
use Prim.Native.Nat.{◌≤◌}
use Rattle.aut68.specs.Procedure.Answer.{code_of, unknown_name, not_in_context}
use Rattle.aut68.specs.Procedure.Resolve.{answered}
use Rattle.aut68.specs.Sizes.{nesting}
use Rattle.meanings.specs.Bindings.{place_in}
use Rattle.meanings.specs.Meanings.{told}
use Rattle.meanings.proofs.MeaningLaws.{means_bound, means_nothing_lem, means_variable, means_constant}
use Rattle.meanings.proofs.meanings.meaning_of.Goals as goal
use Rattle.meanings.proofs.meanings.meaning_of.Goals.{After-look_up, in_default-via-in-Some+else-bindings-lt-NESTING, in_default-via-in_default}

not_bound : (c : After-look_up) → nesting ≤ place_in c.args.b
not_bound c =
    elim c.in_default.branch [
      | in_default-via-in-Some+else-bindings-lt-NESTING w ↦ rw w.in-Some.is w.if-bindings-lt-NESTING.false
      | in_default-via-in_default w ↦ rw w.in_default.is (omega arith)
    ]

pub returns-in-Some : goal.returns-in-Some
returns-in-Some c = rw c.in-Some.is (means_bound c.if-bindings-lt-NESTING.true)

pub returns-in-Variable : goal.returns-in-Variable
returns-in-Variable c = means_variable (not_bound (goal.at.returns-in-Variable c).After-look_up) (rw c.in-Variable.is at c.look_up.ensures)

pub returns-in-Constant : goal.returns-in-Constant
returns-in-Constant c =
    means_constant (not_bound (goal.at.returns-in-Constant c).After-look_up) (rw c.in-Constant.is at c.look_up.ensures) c.field.ensures.0

pub returns-in-NoLine : goal.returns-in-NoLine
unfolding told answered code_of
returns-in-NoLine c =
    means_nothing_lem (not_bound (goal.at.returns-in-NoLine c).After-look_up) (rw c.in-NoLine.is at c.look_up.ensures) {x = unknown_name} refl refl

pub returns-in-NotInForce : goal.returns-in-NotInForce
unfolding told answered code_of
returns-in-NotInForce c =
    means_nothing_lem (not_bound (goal.at.returns-in-NotInForce c).After-look_up) (rw c.in-NotInForce.is at c.look_up.ensures) {x = not_in_context} refl refl
