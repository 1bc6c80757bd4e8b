use Prim.Native.Nat.{◌+◌}
use native.Mathlib.Omega.{arith}
use lib.Seq.{length-take-le}
use Rattle.terms.proofs.Whole.{whole_full, whole_made}
use Rattle.instances.proofs.InstantiationLaws.{instantiate_post}
use Rattle.instances.proofs.instantiation.instantiate.Goals as goal

pub returns-in_err-ends : goal.returns-in_err-ends
returns-in_err-ends c =
    rw c.from_residual.ensures
    (instantiate_post (whole_full (λ low. c.args.s.now) _ _ _ (omega arith) c.in_err-ends.ensures), tt)

pub returns : goal.returns
returns c =
    let A = c.args in (
      instantiate_post (whole_made (λ low. A.s.now) _ _ _ (omega arith) c.in_ok-ends.ensures),
      omega (arith, c.in_ok-ends.ensures.room, length-take-le (A.to + A.room) A.w.now (omega arith)),
    )
