-- `rests_on`: a refusal is passed on; else there is no such line, or what it rests on is told (RestsLaws).
use mathlib.Core.Path.{refl, sym}
use mathlib.Core.Logic.{inl, inr}
use native.Mathlib.Omega.{arith}
use lib.Seq.{length-take-le}
use Rattle.aut68.specs.Language.{aut68}
use Rattle.aut68.specs.Procedure.Answer.{code_of}
use Rattle.aut68.specs.Procedure.Calls.{decline_code}
use Rattle.lookup.specs.Answers.{code_nonzero}
use Rattle.outcomes.specs.AnswerLaws.{passed_on}
use Rattle.theorems.proofs.Admission.{work_fits}
use Rattle.theorems.proofs.Resting.{tells_refusal}
use Rattle.resting.proofs.RestsLaws.{tells_no_line, tells_too_long, tells_list}
use borrow.Author.Rules.{rules}
use Rattle.resting.proofs.rests_on.Goals as goal

pub returns-in_err-a : goal.returns-in_err-a
returns-in_err-a c =
    rw (passed_on c.from_residual.result c.from_residual.ensures.1) (tells_refusal aut68 _ _ _ _ c.in_err-a.ensures (code_nonzero _) refl refl refl refl)

pub returns-then-line-eq0 : goal.returns-then-line-eq0
unfolding decline_code code_of
returns-then-line-eq0 c = tells_no_line _ _ _ _ c.in_ok-a.ensures refl (inl c.if-line-eq0.true)

pub returns-then-line-a : goal.returns-then-line-a
unfolding decline_code code_of
returns-then-line-a c = tells_no_line _ _ _ _ c.in_ok-a.ensures refl (inr c.if-line-a.true)

pub slice_bounds-put_beneath-end : goal.slice_bounds-put_beneath-end
slice_bounds-put_beneath-end c = work_fits aut68 _ _ _ _ c.in_ok-a.ensures refl

pub slice_bounds-put_beneath-end-2 : goal.slice_bounds-put_beneath-end-2
slice_bounds-put_beneath-end-2 c = sym (length-take-le _ _ (work_fits aut68 _ _ _ _ c.in_ok-a.ensures refl))

pub returns-then-count-answer : goal.returns-then-count-answer
unfolding decline_code code_of
returns-then-count-answer c =
    tells_too_long _ _ _ _ c.in_ok-a.ensures refl (omega (arith, c.if-line-eq0.false)) c.if-line-a.false c.put_beneath-count.ensures (omega (arith, c.if-count-answer.true, c.put_beneath-count.auto.answer))

pub overflow_cast-result : goal.overflow_cast-result
overflow_cast-result c = omega (arith, c.put_beneath-count.ensures.few, c.ranges)

pub returns : goal.returns
returns c =
    tells_list _ _ _ _ c.in_ok-a.ensures refl (omega (arith, c.if-line-eq0.false)) c.if-line-a.false c.put_beneath-count.ensures (omega (arith, c.if-count-answer.false, c.put_beneath-count.auto.answer)) (search rules)
