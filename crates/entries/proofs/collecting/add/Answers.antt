use native.Mathlib.Omega.{arith}
use lib.ListN.{length-set}
use Rattle.entries.specs.CollectedLaws.{adds_had, adds_put}
use Rattle.entries.proofs.collecting.add.Goals as goal

pub returns-then-w-slot : goal.returns-then-w-slot
returns-then-w-slot c = adds_had _ _ _ _ _ c.requires.2 c.if-w-slot.true

pub bounds-w-at : goal.bounds-w-at
bounds-w-at c = simp length-set (omega arith)

pub shape_of-w : goal.shape_of-w
shape_of-w c = simp length-set

pub returns : goal.returns
returns c = adds_put _ _ _ _ _ c.requires.0 c.requires.1
