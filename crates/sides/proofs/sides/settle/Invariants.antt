-- `settle`: identical expressions, else the sides put in place and turns until no step follows.
use Prim.Native.Nat.{◌*◌}
use Rattle.aut68.specs.Sizes.{nesting}
use Rattle.sides.proofs.ProgressLaws.{Progressed}
use Rattle.sides.proofs.Settling.{sides_under}
use Rattle.sides.proofs.sides.settle.Given as goal

abbrev pub invariant-loop-next : goal.invariant-loop-next
invariant-loop-next l = Progressed (sides_under l.limit) (2 * nesting) l.table l.terms l.initial.w l.limit l.initial.budget l.l l.initial.sizes.left l.r l.initial.sizes.right l.w l.sizes.left l.sizes.right l.budget

abbrev pub decreases-loop-next : goal.decreases-loop-next
decreases-loop-next l = l.budget
