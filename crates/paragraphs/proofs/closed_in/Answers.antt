use native.Mathlib.Omega.{arith}
use mathlib.Core.Path.{refl}
use Rattle.paragraphs.proofs.InLaws.{none_closed, open_yet, closed_there}
use Rattle.paragraphs.proofs.closed_in.Goals as goal

pub returns-in_err-n : goal.returns-in_err-n
returns-in_err-n c = rw c.from_residual.ensures (none_closed c.in_err-n.ensures refl)

pub returns-then-is_open : goal.returns-then-is_open
returns-then-is_open c = let (p, f) = c.in_ok-n.ensures in open_yet f (λ z. omega arith) c.is_open.ensures c.if-is_open.true

pub returns : goal.returns
returns c = let (p, f) = c.in_ok-n.ensures in (p, closed_there f (λ z. omega arith) c.is_open.ensures c.if-is_open.false)
