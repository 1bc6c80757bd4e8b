use mathlib.Core.Path.{refl}
use native.Mathlib.Omega.{arith}
use Rattle.aut68.specs.Procedure.Answer.{code_of}
use Rattle.lookup.specs.Answers.{code_nonzero}
use Rattle.expressions.proofs.CompletedLaws.{completed_faulty, completed_written, completed_too_many, completed_cannot, completed_too_deep, completed_put_in}
use Rattle.expressions.proofs.parts.completed.Goals as goal

pub returns-in_default : goal.returns-in_default
returns-in_default c = rw c.in_default.is (completed_faulty _ (code_nonzero _))

pub returns-then-a-m : goal.returns-then-a-m
returns-then-a-m c = rw c.in-Ok.is (completed_written _ c.if-a-m.true)

pub returns-then-a-m-2 : goal.returns-then-a-m-2
unfolding code_of
returns-then-a-m-2 c = rw c.in-Ok.is (completed_too_many _ _ refl refl refl refl refl c.if-a-m-2.true)

pub returns-in_default-last_left_out : goal.returns-in_default-last_left_out
unfolding code_of
returns-in_default-last_left_out c =
    rw c.in-Ok.is
    (completed_cannot _ _ refl refl refl (omega arith) refl c.last_left_out.ensures refl refl c.in_default-last_left_out.is)

pub returns-then-depth-ge-NESTING : goal.returns-then-depth-ge-NESTING
returns-then-depth-ge-NESTING c =
    rw c.in-Ok.is
    (completed_too_deep _ _ refl refl refl (omega arith) refl c.last_left_out.ensures refl refl c.in-Some.is c.if-depth-ge-NESTING.true)

pub returns : goal.returns
returns c =
    rw c.in-Ok.is
    (completed_put_in _ _ refl refl refl (omega arith) refl c.last_left_out.ensures c.put_in-to.ensures refl refl c.in-Some.is (omega arith))
