-- `compare_sheet`: each of its four ends is one of Calling.
use mathlib.Core.Path.{refl}
use native.Mathlib.Omega.{arith}
use Rattle.aut68.specs.Language.{aut68}
use Rattle.aut68.specs.Procedure.Calls.{decline_code}
use Rattle.lookup.specs.Answers.{code_nonzero}
use Rattle.outcomes.specs.AnswerLaws.{passed_on}
use Rattle.theorems.proofs.Admission.{work_fits}
use Rattle.sheets.proofs.Calling.{is_refused, is_short, is_empty, is_compared, sheet_compared, compared_fit, compared_none, compared_all, none_compared}
use Rattle.sheets.proofs.compare_sheet.Goals as goal

pub returns-in_err-a : goal.returns-in_err-a
returns-in_err-a c =
    rw (passed_on c.from_residual.result c.from_residual.ensures.1)
    (sheet_compared _ _ _ _ c.in_err-a.ensures (is_refused (code_nonzero _) refl refl refl refl refl refl))

pub compare_pairs-requires : goal.compare_pairs-requires
compare_pairs-requires c = let f = compared_fit c.compared-n.ensures in (λ _. work_fits aut68 _ _ _ _ c.in_ok-a.ensures refl, f.0, f.1)

pub returns-then-n-pairs : goal.returns-then-n-pairs
unfolding decline_code
returns-then-n-pairs c =
    let (short, z) = compared_none c.compared-n.ensures c.if-n-pairs.true in
    let (work, sheet) = none_compared c.compare_pairs.ensures z in
    sheet_compared _ _ _ _ c.in_ok-a.ensures (is_short refl short refl refl refl refl work sheet)

pub returns-then-n-eq0 : goal.returns-then-n-eq0
returns-then-n-eq0 c =
    let z = c.if-n-eq0.true in
    let (work, sheet) = none_compared c.compare_pairs.ensures z in
    sheet_compared _ _ _ _ c.in_ok-a.ensures (is_empty refl (omega (arith, z, c.if-n-pairs.false)) refl refl refl refl work sheet)

pub returns : goal.returns
returns c =
    let (fits, all) = compared_all c.compared-n.ensures c.if-n-pairs.false in
    sheet_compared _ _ _ _ c.in_ok-a.ensures
    (is_compared _ _ refl fits all c.compare_pairs.ensures c.compare_pairs.auto.work c.clear.ensures refl refl refl c.count.ensures)
