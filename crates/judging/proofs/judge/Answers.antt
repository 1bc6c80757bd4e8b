-- `judge`: both strings are whole and not too large, are put in place and compared (Judging).
use mathlib.Core.Path.{◌∙◌}
use native.Mathlib.Omega.{arith}
use Rattle.judging.proofs.Judging.{judged_compared}
use Rattle.judging.proofs.judge.Goals as goal

pub returns : goal.returns
returns c =
    let a = c.answer_of.ensures in
    judged_compared c.is_whole.ensures c.is_whole-else-not-is_whole.ensures c.if-not-is_whole.false c.if-not-is_whole-2.false
    c.is_whole-else-not-is_whole.new.w (c.is_whole-else-not-is_whole.auto.w ∙ c.is_whole.auto.w)
    (omega (arith, c.if-left-limit.false)) (omega (arith, c.if-right-limit.false))
    (λ l. c.level_at-a.ensures l (omega arith)) (λ l. c.level_at-b.ensures l (omega arith)) c.load.ensures c.load-2.ensures
    c.compare_by-compared.ensures a.0 a.1 (a.2 ∙ c.spent.ensures) a.3
