use Rattle.std.proofs.Common.{◌≡◌, drop}
use Rattle.widths.specs.Conversions.{EachConverted}
use Rattle.widths.proofs.convert_cells.Given as goal

abbrev pub invariant-loop-i : goal.invariant-loop-i
invariant-loop-i g l = record { converted : EachConverted (λ x y. g.F.Fn.post l.convert (x, tt) y) l.source l.target l.i; behind : drop l.i l.target ≡ drop l.i l.initial.target }
