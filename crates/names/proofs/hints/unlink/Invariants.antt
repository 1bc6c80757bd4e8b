use mathlib.Core.Path.{◌≡◌}
use lib.ListN.{length}
use Rattle.cells.specs.Links.{unlinked}
use Rattle.names.proofs.hints.unlink.Given as goal

abbrev pub invariant-loop-v : goal.invariant-loop-v
invariant-loop-v l = (length l.table ≡ length l.initial.table) × (l.table ≡ unlinked l.v l.initial.table)
