use Rattle.kinds.specs.declared.Kind.TheVariants.{Plus, Minus}
use Rattle.kinds.proofs.Tests.{one_of_number}
use Rattle.headings.proofs.SignLaws.{sign_is_lem, sign_other}
use Rattle.headings.proofs.signs.sign_of.Goals as goal

pub returns-in-Plus : goal.returns-in-Plus
returns-in-Plus c = sign_is_lem c.spaces-start.ensures c.in-Plus.ensures

pub returns-in-Minus : goal.returns-in-Minus
returns-in-Minus c = sign_is_lem c.spaces-start.ensures c.in-Minus.ensures

pub returns-in_default : goal.returns-in_default
returns-in_default c =
    sign_other (sign_is_lem c.spaces-start.ensures c.kind_at.ensures)
    (λ e. c.in_default.not-Plus (one_of_number _ Plus e))
    (λ e. c.in_default.not-Minus (one_of_number _ Minus e))
