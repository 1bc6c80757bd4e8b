-- `step`: the head step of the kind that is told.
use mathlib.Core.Path.{sym, ap, ◌∙◌}
use native.Mathlib.Omega.{arith}
use Rattle.heads.specs.Posts.{kind_of, line_of}
use Rattle.reduction.proofs.NumberedLaws.{step_told}
use Rattle.reduction.proofs.numbered.step.Goals as goal
use Rattle.reduction.proofs.numbered.step.Goals.{in-1, in-2}

pub returns : goal.returns
returns c = elim c.match-h.branch [
  | in-1 w ↦ step_told _ (ap kind_of w.step-is ∙ sym w.in-1.is) (λ two. absurd (omega (arith, w.in-1.is))) c.step.ensures
  | in-2 w ↦ step_told _ (ap kind_of w.step-is ∙ sym w.in-2.is) (λ two. ap line_of w.step-is) c.step.ensures
]
