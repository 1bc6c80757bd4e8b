-- `print_pages`: a refusal is passed on; else the rows are counted, and the pages do not fit or are written.
use mathlib.Core.Path.{refl}
use native.Mathlib.Omega.{arith}
use Rattle.aut68.specs.Language.{aut68}
use Rattle.aut68.specs.Procedure.Calls.{decline_code}
use Rattle.lookup.specs.Answers.{code_nonzero}
use Rattle.outcomes.specs.AnswerLaws.{passed_on}
use Rattle.theorems.proofs.Admission.{accepted_short}
use Rattle.theorems.proofs.Printing.{prints_refusal, prints_too_small, prints_pages}
use Rattle.printing.proofs.print_pages.Goals as goal

pub returns-in_err-admit : goal.returns-in_err-admit
returns-in_err-admit c =
    rw (passed_on c.from_residual.result c.from_residual.ensures.1) (prints_refusal aut68 _ _ _ _ c.in_err-admit.ensures (code_nonzero _) refl refl refl refl)

pub returns-then-rows-page : goal.returns-then-rows-page
unfolding decline_code
returns-then-rows-page c = prints_too_small aut68 _ _ _ _ c.in_ok-admit.ensures refl (omega (arith, c.count_rows-rows.ensures.0, c.if-rows-page.true))

pub put_pages-requires : goal.put_pages-requires
put_pages-requires c = omega (arith, c.count_rows-rows.ensures.0, c.if-rows-page.false)

pub overflow_mul-bytes : goal.overflow_mul-bytes
overflow_mul-bytes c = omega (arith, c.count_rows-rows.ensures.1, accepted_short aut68 _ _ _ _ c.in_ok-admit.ensures refl)

pub overflow_cast-result : goal.overflow_cast-result
overflow_cast-result c = omega (arith, c.count_rows-rows.ensures.1, accepted_short aut68 _ _ _ _ c.in_ok-admit.ensures refl)

pub returns : goal.returns
returns c =
    let rows = c.count_rows-rows.ensures.0 in
    let fits = c.if-rows-page.false in
    prints_pages aut68 _ _ _ _ c.in_ok-admit.ensures refl (omega arith) (omega arith) c.put_pages.ensures
