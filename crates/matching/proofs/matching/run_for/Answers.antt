use mathlib.Core.Path.{refl}
use Rattle.matching.proofs.RunLaws.{run_other, run_itself, run_argument}
use Rattle.matching.proofs.matching.run_for.Goals as goal

pub returns-then-x-ne1 : goal.returns-then-x-ne1
returns-then-x-ne1 c = run_other _ _ _ c.if-x-ne1.true

pub returns-then-i-count : goal.returns-then-i-count
returns-then-i-count c = run_itself _ _ _ c.if-x-ne1.false (rw c.field-i.ensures.0 at c.if-i-count.true)

pub returns : goal.returns
returns c =
    run_argument _ _ _ _ _ c.if-x-ne1.false c.field-i.ensures.0 c.if-i-count.false c.if-i-ge63.false refl refl
    (c.fits-starts _) c.if-next-start.false
