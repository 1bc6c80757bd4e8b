-- `compare_over`: a refusal is passed on; else the strings are judged, and the working store is cleared (Calling).
use mathlib.Core.Path.{refl, sym}
use lib.Seq.{length-take-le}
use Rattle.aut68.specs.Language.{aut68}
use Rattle.lookup.specs.Answers.{code_nonzero}
use Rattle.outcomes.specs.AnswerLaws.{passed_on}
use Rattle.theorems.proofs.Admission.{work_fits}
use Rattle.theorems.proofs.Desk.{strings_refused}
use Rattle.desk.proofs.Calling.{compared_over}
use Rattle.desk.proofs.compare_over.Goals as goal

pub returns-in_err-a : goal.returns-in_err-a
returns-in_err-a c =
    rw (passed_on c.from_residual.result c.from_residual.ensures.1) (strings_refused _ _ _ _ c.in_err-a.ensures (code_nonzero _) refl refl refl refl)

pub slice_bounds-judge-end : goal.slice_bounds-judge-end
slice_bounds-judge-end c = work_fits aut68 _ _ _ _ c.in_ok-a.ensures refl

pub slice_bounds-judge-end-2 : goal.slice_bounds-judge-end-2
slice_bounds-judge-end-2 c = sym (length-take-le _ _ (work_fits aut68 _ _ _ _ c.in_ok-a.ensures refl))

pub returns : goal.returns
returns c = compared_over _ _ _ _ c.in_ok-a.ensures refl c.judge-r.new.w c.judge-r.ensures c.judge-r.auto.w c.clear.ensures
