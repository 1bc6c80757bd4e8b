-- `to_function`: the head form, by its shape.
use mathlib.Core.Path.{refl}
use Rattle.lookup.specs.Answers.{code_nonzero}
use Rattle.reduction.proofs.Exits.{passed_on}
use Rattle.reduction.proofs.FormLaws.{function_refused, function_other, function_abstraction}
use Rattle.reduction.proofs.functions.to_function.Goals as goal

pub returns-in_err-size : goal.returns-in_err-size
returns-in_err-size c =
    rw (passed_on c.from_residual.result c.in_err-size.field-0.0 c.from_residual.ensures.1)
    (function_refused (λ z. code_nonzero _ z) c.in_err-size.ensures)

pub returns-in_default : goal.returns-in_default
returns-in_default c = function_other c.in_ok-size.ensures c.in_default.ensures

pub returns : goal.returns
returns c =
    let X = c.in-Some.ensures in
    function_abstraction c.in_ok-size.ensures X.0 _ X.2 X.1 refl
