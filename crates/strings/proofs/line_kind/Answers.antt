-- `line_kind`: the row's kind, of a line that there is.
use mathlib.Core.Path.{refl}
use native.Mathlib.Omega.{arith}
use Rattle.lookup.specs.LineNumbers.{line_positive, line_within}
use Rattle.strings.specs.Posts.{no_line}
use Rattle.strings.proofs.CellLaws.{kind_of_line}
use Rattle.strings.proofs.line_kind.Goals as goal
use Rattle.strings.proofs.line_kind.Goals.{then-v-eq0-via-then-v-eq0, then-v-eq0-via-else-v-eq0+then-v-lines}

pub returns-then-v-eq0 : goal.returns-then-v-eq0
returns-then-v-eq0 c = elim c.then-v-eq0.branch [
  | then-v-eq0-via-then-v-eq0 w ↦ record { means = λ ls R e. no_line (λ l i. omega (arith, line_positive i)) refl }
  | then-v-eq0-via-else-v-eq0+then-v-lines w ↦ record { means = λ ls R e. no_line (λ l i. omega (arith, line_within i)) refl }
]

pub returns : goal.returns
returns c = record { means = λ ls R e. kind_of_line (omega arith) (omega arith) (omega (arith, c.field.ensures.0)) R e }
