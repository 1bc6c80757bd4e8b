-- `is_noted`: by the note, or by walking back.
use mathlib.Core.Path.{ap}
use lib.Dec.{ltb}
use native.Mathlib.Omega.{arith}
use Rattle.strings.proofs.NoteLaws.{noted_last}
use Rattle.strings.proofs.is_noted.Goals as goal

pub returns-in-Some : goal.returns-in-Some
returns-in-Some c = record { means = λ N e l. noted_last N e c.in-Some.ensures.lookup.3.0 l (ap (ltb c.args.n) (c.in-Some.ensures.lookup.3.1 0)) }

pub returns-in-None : goal.returns-in-None
returns-in-None c = record { means = λ N e l. c.is_bound.ensures.means (omega arith) }
