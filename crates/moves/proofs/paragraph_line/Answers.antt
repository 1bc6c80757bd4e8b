use mathlib.Core.Path.{refl}
use native.Mathlib.Omega.{arith}
use Rattle.moves.proofs.ReadLaws.{line_malformed, line_closes, line_opens}
use Rattle.moves.proofs.paragraph_line.Goals as goal

pub returns-in_default : goal.returns-in_default
returns-in_default c = let pre = c.requires in line_malformed pre.0 pre.1 c.in_default.ensures refl

pub returns-then-k-from : goal.returns-then-k-from
returns-then-k-from c =
    let pre = c.requires in
    let (z, r) = c.in-Some.ensures in
    line_closes pre.0 pre.1 r z (omega arith) (c.close_line.ensures _ _ _)

pub returns : goal.returns
returns c =
    let pre = c.requires in
    let (z, r) = c.in-Some.ensures in
    line_opens pre.0 pre.1 r z (λ e. omega arith) c.open_line.ensures
