use Rattle.names.specs.Chains.{ended, outside, passed, upward, onward}
use Rattle.names.proofs.chains.search.Goals as goal

pub returns-then-v-items : goal.returns-then-v-items
returns-then-v-items g c = c.loop-v.invariant _ (outside c.if-v-items.true)

pub returns-then-passes : goal.returns-then-passes
returns-then-passes g c = c.loop-v.invariant _ (passed c.loop-v-test.true c.if-v-items.false c.if-passes.ensures)

pub returns-then-next-v : goal.returns-then-next-v
returns-then-next-v g c = c.loop-v.invariant _ (upward c.loop-v-test.true c.if-v-items.false c.if-passes.ensures c.link-next.ensures c.if-next-v.true)

pub loop-v-preserved : goal.loop-v-preserved
loop-v-preserved g c = λ r w. c.loop-v.invariant r (onward c.loop-v-test.true c.if-v-items.false c.if-passes.ensures c.link-next.ensures c.if-next-v.false w)

pub returns : goal.returns
returns g c = c.loop-v.invariant _ (ended c.loop-v-test.false)
