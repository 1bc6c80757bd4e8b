use Rattle.completion.proofs.LeftOutLaws.{left_out_here, left_out_nowhere}
use Rattle.completion.proofs.completion.last_left_out.Goals as goal

pub returns-then-in_context : goal.returns-then-in_context
returns-then-in_context c = left_out_here c.field-own.ensures.0 c.line_up-last.ensures c.in_context.ensures c.if-in_context.true

pub returns-else-in_context : goal.returns-else-in_context
returns-else-in_context c = left_out_nowhere c.field-own.ensures.0 c.line_up-last.ensures c.in_context.ensures c.if-in_context.false
