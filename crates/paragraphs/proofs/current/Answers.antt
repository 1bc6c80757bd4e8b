use Rattle.paragraphs.proofs.UseLaws.{current_told}
use Rattle.paragraphs.proofs.current.Goals as goal

pub returns : goal.returns
returns c = current_told c.cell_at.ensures.0 c.number_at.ensures
