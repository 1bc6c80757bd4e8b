-- `made`: what lies in the result unit is moved to the level's unit, or is too large.
use mathlib.Core.Path.{refl}
use native.Mathlib.Omega.{arith}
use Rattle.aut68.specs.Procedure.Answer.{code_of}
use Rattle.terms.specs.Made.{no_room}
use Rattle.levels.proofs.Making.{made_too_large, made_moved}
use Rattle.levels.proofs.found.made.Goals as goal

pub returns-in-Some : goal.returns-in-Some
returns-in-Some c budget =
    rw c.in-Some.is (made_moved (omega (arith, c.if-size-limit.true)) c.requires (λ h. c.result_at-from.ensures h) (λ h. c.level_at-to.ensures h c.requires)
    refl refl c.move_cells.ensures)

pub returns-in_default : goal.returns-in_default
unfolding code_of
returns-in_default c budget = rw c.in-Some.is (made_too_large (λ _. omega (arith, c.if-size-limit.false)) refl refl refl)

pub returns-in_default-2 : goal.returns-in_default-2
unfolding code_of no_room
returns-in_default-2 c budget = rw c.in_default.is (made_too_large (λ small. omega (arith, small)) refl refl refl)
