use Prim.Native.Nat.{◌+◌}
use native.Mathlib.Omega.{arith}
use lib.Seq.{length-take-le}
use Rattle.terms.proofs.Whole.{whole_full, whole_made}
use Rattle.terms.proofs.made.make.Goals as goal

pub returns-in_err-ends : goal.returns-in_err-ends
returns-in_err-ends c = rw c.from_residual.ensures (whole_full (λ low. low) _ _ _ (omega arith) c.in_err-ends.ensures, tt)

pub returns : goal.returns
returns c =
    let A = c.args in
    (whole_made (λ low. low) _ _ _ (omega arith) c.in_ok-ends.ensures, omega (arith, c.in_ok-ends.ensures.room, length-take-le (A.to + A.room) A.w.now (omega arith)))
