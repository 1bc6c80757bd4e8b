use Rattle.instances.proofs.InstantiationLaws.{variable_other, variable_itself, variable_argument}
use Rattle.instances.proofs.arguments.argument_for.Goals as goal

pub returns-then-x-ne1 : goal.returns-then-x-ne1
returns-then-x-ne1 c = λ end cut k q e xe f. variable_other _ _ c.requires c.if-x-ne1.true q e xe

pub returns-then-i-count : goal.returns-then-i-count
returns-then-i-count c = λ end cut k q e xe f. variable_itself _ _ c.if-x-ne1.false (rw c.field-i.ensures.0 at c.if-i-count.true) q e xe f

pub returns : goal.returns
returns c = λ end cut k q e xe f.
    variable_argument _ _ end c.if-x-ne1.false c.field-i.ensures.0 c.if-i-count.false (c.argument_at.ensures _) q e xe f
