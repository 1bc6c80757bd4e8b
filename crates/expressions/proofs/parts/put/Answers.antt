use native.Mathlib.Omega.{arith}
use mathlib.Core.Path.{refl, sym}
use lib.Seq.{set_out}
use Rattle.expressions.proofs.parts.put.Goals as goal

pub returns-then-to-w : goal.returns-then-to-w
returns-then-to-w c = record { is = refl; room = λ l. refl; none = λ l. absurd (omega arith) }

pub returns : goal.returns
returns c = record { is = sym (set_out _ _ _ (omega arith)); room = λ l. absurd (omega arith); none = λ l. refl }
