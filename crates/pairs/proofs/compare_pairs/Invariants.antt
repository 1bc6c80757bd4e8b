-- What the function ensures, of the pairs so far.
use Rattle.std.proofs.Common.{◌≤◌}
use Rattle.pairs.specs.Posts.{PairsPost}
use Rattle.pairs.proofs.compare_pairs.Given as goal

abbrev pub invariant-loop-i : goal.invariant-loop-i
invariant-loop-i l = (l.i ≤ l.n) × PairsPost l.table l.terms l.initial.work l.limit l.lines l.cells l.pairs l.initial.sheet l.i l.work l.sheet
