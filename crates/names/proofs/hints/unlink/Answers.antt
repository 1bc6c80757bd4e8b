use native.Mathlib.Omega.{arith}
use lib.ListN.{length-set}
use Rattle.names.proofs.LinkLaws.{unlinked_turn}
use Rattle.names.proofs.hints.unlink.Goals as goal

pub loop-v-preserved : goal.loop-v-preserved
loop-v-preserved c = let I = c.loop-v.invariant in (simp length-set I.0, unlinked_turn _ _ _ _ (omega arith) I.1)
