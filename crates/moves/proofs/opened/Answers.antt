use Rattle.moves.proofs.TitleLaws.{one_opened}
use Rattle.moves.proofs.opened.Goals as goal

pub returns : goal.returns
returns c = one_opened _ _ _ c.requires.0
