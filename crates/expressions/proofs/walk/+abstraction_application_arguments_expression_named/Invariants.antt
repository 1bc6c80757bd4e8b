use Rattle.aut68.specs.Sizes.{nesting}
use Prim.Native.Nat.{◌+◌, ◌*◌, ◌-◌}
use lib.ListN.{length}
use Rattle.expressions.specs.Walk.{fault_in}
use Rattle.expressions.specs.Posts.{go_on}
use Rattle.expressions.proofs.ArgumentLaws.{ArgumentsSoFar}
use Rattle.expressions.proofs.walk.+abstraction_application_arguments_expression_named.Given as goal

abbrev pub decreases-abstraction : goal.decreases-abstraction
decreases-abstraction l = 3 * (nesting + 1 - l.scope.depth) - 1

abbrev pub decreases-application : goal.decreases-application
decreases-application l = 3 * (nesting + 1 - l.scope.depth) - 1

abbrev pub decreases-arguments : goal.decreases-arguments
decreases-arguments l = 3 * (nesting + 1 - l.inner.depth) + 1

abbrev pub decreases-expression : goal.decreases-expression
decreases-expression l = 3 * (nesting + 1 - l.scope.depth)

abbrev pub decreases-named : goal.decreases-named
decreases-named l = 3 * (nesting + 1 - l.scope.depth) - 1

abbrev pub invariant-arguments-loop-a : goal.invariant-arguments-loop-a
invariant-arguments-loop-a l = ArgumentsSoFar l.around.kinds.now l.line l.inner l.around.book.now l.around.table.now l.around.lines l.around.indicator l.initial.w l.w (go_on l.from l.to (fault_in l.fn.fault)) l.at l.cell (fault_in l.found) l.count

abbrev pub decreases-arguments-loop-a : goal.decreases-arguments-loop-a
decreases-arguments-loop-a l = length l.line - l.at
