-- `mark_names`: the indicator, then the cells.
use Rattle.reaching.specs.RowNames.{adds_row}
use Rattle.reaching.proofs.reaching.mark_names.Goals as goal

pub returns : goal.returns
returns c =
    adds_row _ _ _ c.field.ensures.0 c.field-from.ensures.0 c.field-to.ensures.0
    c.mark_indicator.ensures c.mark_cells.ensures
