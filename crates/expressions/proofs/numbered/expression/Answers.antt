use Rattle.std.proofs.lemmas.Result.{err_from_is_err_and}
use Rattle.expressions.proofs.NumberedLaws.{refused_behind, passed_behind}
use Rattle.expressions.proofs.numbered.expression.Goals as goal

pub returns-in_err-a : goal.returns-in_err-a
returns-in_err-a c =
    let p = err_from_is_err_and c.from_residual.result c.from_residual.ensures.1 in
    rw (p.1, p.2) (refused_behind _ c.in_err-a.ensures)

pub returns-else-fault-eq0-2 : goal.returns-else-fault-eq0-2
returns-else-fault-eq0-2 c = passed_behind c.if-fault-eq0-2.false c.in_ok-a.ensures
