-- The levels fall: compare 2n, compare_parts 2n + 1 of one level less.
use Prim.Native.Nat.{◌+◌, ◌*◌, ◌-◌}
use Rattle.aut68.specs.Language.{aut68}
use Rattle.aut68.specs.Procedure.Compare.{compare_at}
use Rattle.comparison.proofs.Parts.{PartsInvariant}
use Rattle.comparison.proofs.+compare_compare_parts.Given as goal

abbrev pub decreases-compare : goal.decreases-compare
decreases-compare l = 2 * l.deeper

abbrev pub decreases-compare_parts : goal.decreases-compare_parts
decreases-compare_parts l = 2 * l.deeper + 1

abbrev pub invariant-compare_parts-loop-part : goal.invariant-compare_parts-loop-part
invariant-compare_parts-loop-part l = PartsInvariant (compare_at aut68) l.table l.terms l.initial.w l.limit l.initial.budget l.l l.r l.deeper l.w (l.parts - l._part) l.i l.j l.budget
