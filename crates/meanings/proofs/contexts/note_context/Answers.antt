use native.Mathlib.Omega.{arith}
use Rattle.meanings.proofs.NotedLaws.{noted_start, noted_all, noted_broken, noted_enough, noted_more}
use Rattle.meanings.proofs.contexts.note_context.Goals as goal

pub loop-c-init : goal.loop-c-init
loop-c-init c = noted_start

pub returns-then-next-c : goal.returns-then-next-c
returns-then-next-c c = noted_broken c.loop-c.invariant (omega arith) c.field-next.ensures.0 (omega arith)

pub returns-then-i-end : goal.returns-then-i-end
returns-then-i-end c =
    noted_enough c.loop-c.invariant (omega arith) c.field-next.ensures.0 c.field-i.ensures.0
    c.field-end.ensures.0 c.if-i-end.true

pub loop-c-preserved : goal.loop-c-preserved
loop-c-preserved c =
    noted_more c.loop-c.invariant (omega arith) c.field-next.ensures.0 (omega arith) c.field-i.ensures.0
    c.put_variable.ensures

pub returns : goal.returns
returns c = noted_all c.loop-c.invariant (omega arith)
