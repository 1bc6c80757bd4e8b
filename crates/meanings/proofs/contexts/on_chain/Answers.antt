use native.Mathlib.Omega.{arith}
use Rattle.meanings.proofs.ContextLaws.{chain_start, chain_more, chain_broken, chain_end}
use Rattle.meanings.proofs.contexts.on_chain.Goals as goal

pub loop-c-init : goal.loop-c-init
loop-c-init c = chain_start

pub returns-then-next-c : goal.returns-then-next-c
returns-then-next-c c = chain_broken c.loop-c.invariant (omega arith) c.field-next.ensures.0 (omega arith)

pub loop-c-preserved : goal.loop-c-preserved
loop-c-preserved c = chain_more c.loop-c.invariant (omega arith) c.field-next.ensures.0 (omega arith)

pub returns : goal.returns
returns c = chain_end c.loop-c.invariant (omega arith)
