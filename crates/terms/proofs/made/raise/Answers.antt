use Rattle.terms.proofs.Whole.{raise_post}
use Rattle.terms.proofs.made.raise.Goals as goal

pub returns : goal.returns
returns c = (raise_post c.make.ensures.0, c.make.ensures.1)
