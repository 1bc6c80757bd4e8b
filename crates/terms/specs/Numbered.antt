-- A walk's change told by numbers.
use Rattle.std.specs.Prelude.{ℕ, zero, suc}
use Rattle.terms.specs.declared.leaves.Change.{Change}
use Rattle.terms.specs.declared.leaves.Change.TheVariants.{Lift, Substitute}

-- of kind 0 it lifts, of any other it puts in
abbrev pub change_of : (kind number : ℕ) → Change
change_of zero number = Lift number
change_of (suc kind) number = Substitute number
