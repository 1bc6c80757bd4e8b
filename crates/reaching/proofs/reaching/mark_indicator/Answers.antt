-- `mark_indicator`: by whether there is one.
use native.Mathlib.Omega.{arith}
use Rattle.reaching.specs.Cellwise.{adds_indicator, adds_no_indicator}
use Rattle.reaching.proofs.reaching.mark_indicator.Goals as goal

pub returns-then-v-gt0 : goal.returns-then-v-gt0
returns-then-v-gt0 c = adds_indicator _ (omega arith) c.mark.ensures

pub returns-else-v-gt0 : goal.returns-else-v-gt0
returns-else-v-gt0 c = adds_no_indicator _ (omega arith)
