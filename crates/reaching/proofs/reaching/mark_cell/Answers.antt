-- `mark_cell`: by whether the cell names a line.
use mathlib.Core.Path.{sym, ◌∙◌}
use Rattle.reaching.specs.Cellwise.{adds_name, adds_no_name}
use Rattle.reaching.proofs.reaching.mark_cell.Goals as goal

pub returns-then-names_line : goal.returns-then-names_line
returns-then-names_line c = adds_name _ (sym c.names_line.ensures ∙ c.if-names_line.true) c.mark.ensures

pub returns-else-names_line : goal.returns-else-names_line
returns-else-names_line c = adds_no_name _ (sym c.names_line.ensures ∙ c.if-names_line.false)
