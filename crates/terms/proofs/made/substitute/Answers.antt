use Rattle.terms.proofs.Whole.{substitute_post}
use Rattle.terms.proofs.made.substitute.Goals as goal

pub returns : goal.returns
returns c = (substitute_post c.make.ensures.0, c.make.ensures.1)
