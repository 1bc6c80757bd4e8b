use Rattle.completion.specs.Posts.{LineUp}
use Rattle.completion.proofs.completion.line_up.Given as goal

abbrev pub invariant-loop-i : goal.invariant-loop-i
invariant-loop-i l = LineUp l.table l.c l._i l.up
