use mathlib.Core.Path.{refl, sym, ◌∙◌}
use native.Mathlib.Omega.{arith}
use Rattle.cells.specs.SameCells.{same_run_means}
use Rattle.matching.proofs.Matches.{passed_none, passed_itself, passed_argument, passed_all}
use Rattle.matching.proofs.matching.is_instance.Goals as goal
use Rattle.matching.proofs.matching.is_instance.Goals.{in-Itself+else-j-f+else-f-j, in-Argument+else-not-same_run}

pub loop-i-init : goal.loop-i-init
loop-i-init c = passed_none c.if-at-f.false

pub overflow_add-j-in-Argument : goal.overflow_add-j-in-Argument
overflow_add-j-in-Argument c = omega (arith, (same_run_means _ _ _ _ _ (sym c.same_run.ensures ∙ c.if-not-same_run.false)).1)

pub loop-i-preserved : goal.loop-i-preserved
loop-i-preserved c =
    elim c.match-run_for.branch [
      | in-Itself+else-j-f+else-f-j w ↦
          rw w.j-is
          (passed_itself c.loop-i.invariant c.loop-i-test.true refl w.in-Itself.ensures c.if-x-eq5.false w.if-j-f.false w.if-f-j.false)
      | in-Argument+else-not-same_run w ↦
          rw w.j-is
          (passed_argument c.loop-i.invariant c.loop-i-test.true refl w.in-Argument.ensures (sym w.same_run.ensures ∙ w.if-not-same_run.false))
    ]

pub returns : goal.returns
returns c = passed_all c.loop-i.invariant c.loop-i-test.false
