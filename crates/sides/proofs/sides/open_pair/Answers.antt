-- `open_pair`: identical expressions, else both moved up.
use Rattle.sides.proofs.OpeningLaws.{open_moved}
use Rattle.sides.proofs.sides.open_pair.Goals as goal

pub returns : goal.returns
returns c =
    open_moved _ _ _ _ _ _ _ _ c.extent-left.ensures c.extent-right.ensures c.move_cells.ensures c.move_cells-2.ensures
