-- `redex`: a contraction or an unfolding.
use mathlib.Core.Path.{ap}
use Rattle.heads.specs.Posts.{kind_of}
use Rattle.reduction.proofs.StepLaws.{contracted_redex, unfolded_redex}
use Rattle.reduction.proofs.steps.redex.Goals as goal

pub returns-in-Contraction : goal.returns-in-Contraction
returns-in-Contraction c = contracted_redex _ (ap kind_of c.in-Contraction.is) c.contracted.ensures

pub returns-in-Unfolding : goal.returns-in-Unfolding
returns-in-Unfolding c = unfolded_redex _ c.in-Unfolding.is c.unfolded.ensures
