use native.Mathlib.Omega.{arith}
use Rattle.symbols.proofs.SameLaws.{four_short}
use Rattle.symbols.proofs.four_at.Goals as goal

pub returns : goal.returns
returns c =
    let a = c.args in
    (four_short a.s.now a.i (omega arith) c.byte_at.ensures.0 c.byte_at-2.ensures.0 c.byte_at-3.ensures.0, omega arith)
