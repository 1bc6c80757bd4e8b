use native.Mathlib.Omega.{arith}
use Rattle.completion.proofs.UpLaws.{up_none, up_more}
use Rattle.completion.proofs.VariableLaws.{variables_none, variables_more, variables_all}
use Rattle.completion.proofs.completion.put_variables.Goals as goal

pub loop-i-init : goal.loop-i-init
loop-i-init c = (up_none (omega arith), variables_none (omega arith))

pub loop-i-preserved : goal.loop-i-preserved
loop-i-preserved c =
    let I = c.loop-i.invariant in
    (up_more I.0 (omega arith) c.field-c.ensures.0, variables_more I.1 (omega arith) (omega arith) (omega arith) I.0 c.variable_cell.ensures)

pub returns : goal.returns
returns c = variables_all c.loop-i.invariant.1 (omega arith) (omega arith)
