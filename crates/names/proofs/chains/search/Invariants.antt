use Rattle.names.specs.Chains.{WentDown}
use Rattle.names.proofs.chains.search.Given as goal

abbrev pub invariant-loop-v : goal.invariant-loop-v
invariant-loop-v g l =
    (r : _) → WentDown (goal.P-post g l.passes) (goal.L-post g l.link) l.items l.v r → WentDown (goal.P-post g l.passes) (goal.L-post g l.link) l.items l.initial.v r

abbrev pub decreases-loop-v : goal.decreases-loop-v
decreases-loop-v g l = l.v
