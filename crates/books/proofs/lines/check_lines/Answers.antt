-- `check_lines`: what `check_linked` leaves, without the links.
use Rattle.books.proofs.LoopLaws.{ends_unlinked}
use Rattle.books.proofs.lines.check_lines.Goals as goal

pub check_linked-e-requires : goal.check_linked-e-requires
check_linked-e-requires c = c.requires

pub returns : goal.returns
returns c = λ work. ends_unlinked _ (c.check_linked-e.ensures work) c.unlink.ensures
