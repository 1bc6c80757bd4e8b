use native.Mathlib.Omega.{arith}
use Rattle.symbols.proofs.UsedLaws.{name_inside, used_missing, used_alone, used_pointed, used_lone_point}
use Rattle.symbols.proofs.used_at.Goals as goal

pub returns-in_default : goal.returns-in_default
returns-in_default c = used_missing c.in_default.ensures

pub returns-in_default-symbol : goal.returns-in_default-symbol
returns-in_default-symbol c =
    let (m, n) = c.in-Ok.ensures in
    (m, tt, used_alone n m c.in_default-symbol.ensures.past (omega arith))

pub returns-in_default-name_at : goal.returns-in_default-name_at
returns-in_default-name_at c =
    let (m, n) = c.in-Ok.ensures in
    used_lone_point n m c.in-Some.ensures.past c.in-Some.ensures.inside c.in_default-name_at.ensures

pub returns : goal.returns
returns c =
    let (m, n) = c.in-Ok.ensures in
    let (l, o) = c.in-Ok-name_at.ensures in
    (l, m, used_pointed n m c.in-Some.ensures.past (name_inside n m) c.in-Some.ensures.inside o)
