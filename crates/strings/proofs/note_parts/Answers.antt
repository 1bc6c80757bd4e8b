-- `note_parts`: as many notes alike as parts, one of a binding more for a body (NoteLaws).
use Rattle.strings.proofs.NoteLaws.{parts_none, parts_alike, parts_bind}
use Rattle.strings.proofs.note_parts.Goals as goal

pub returns-in_default : goal.returns-in_default
returns-in_default c = parts_none c.in_default.ensures.lookup.3

pub returns-then-binds : goal.returns-then-binds
returns-then-binds c =
    let (l, k) = c.in-Some.ensures.lookup.3 in
    parts_bind l (rw (k 0) at c.fill.ensures) c.if-binds.true (λ n N. c.one_more.ensures n (rw (k 0) N))

pub returns-else-binds : goal.returns-else-binds
returns-else-binds c =
    let (l, k) = c.in-Some.ensures.lookup.3 in
    parts_alike l (rw (k 0) at c.fill.ensures) c.if-binds.false
