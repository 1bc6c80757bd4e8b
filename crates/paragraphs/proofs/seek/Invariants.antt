use Rattle.paragraphs.specs.Posts.{Outward}
use Rattle.paragraphs.proofs.seek.Given as goal

abbrev pub invariant-loop-i : goal.invariant-loop-i
invariant-loop-i g l = (r : _) → Outward (goal.F-post g l.found_in) l.i r → Outward (goal.F-post g l.found_in) l.initial.i r
