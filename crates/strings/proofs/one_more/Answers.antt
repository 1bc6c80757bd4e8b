-- `one_more`: one binding more, or more than any bound variable counts.
use Rattle.strings.proofs.NoteLaws.{noted_next}
use Rattle.strings.proofs.one_more.Goals as goal

pub returns : goal.returns
returns c n h = noted_next c.saturating_add.ensures h
