use Rattle.noting.proofs.ClosingLaws.{closing_post}
use Rattle.noting.proofs.note_closing.Goals as goal

pub returns : goal.returns
returns c = λ book. closing_post book c.put_cell.ensures c.put_cell-2.ensures
