-- `compare_wanted`: the wanted category is made two levels deeper and compared with what was found.
use mathlib.Core.Path.{◌≡◌, refl}
use Prim.Native.Nat.{ℕ, ◌≤◌, ◌<◌}
use native.Mathlib.Omega.{arith}
use Rattle.std.specs.Prelude.{Option, Some, None, is_some, true, false}
use Rattle.aut68.specs.Sizes.{largest_limit}
use Rattle.aut68.specs.Procedure.Answer.{code_of}
use Rattle.terms.specs.Made.{WithinRoom, no_room, size_in}
use Rattle.typing.proofs.Fitting.{wanted_too_large, wanted_compared}
use Rattle.typing.proofs.arguments.compare_wanted.Goals as goal

none_large : {limit : ℕ} (made : Option ℕ) → is_some made ≡ false → limit ≤ largest_limit → limit < size_in made
unfolding no_room
none_large None e small = omega (arith, small)
none_large (Some n) e small = absurd (cc)

some_small : {limit : ℕ} (made : Option ℕ) → is_some made ≡ true → WithinRoom limit made → size_in made ≤ limit
some_small None e h = absurd (cc)
some_small (Some n) e h = h

pub returns-then-is_none : goal.returns-then-is_none
unfolding code_of
returns-then-is_none c =
    wanted_too_large _ _ c.requires c.field-from.ensures.0 (λ h. c.level_at-to.ensures h (omega (arith, c.requires)))
    c.instantiate-made.ensures.0 (none_large _ c.if-is_none.ensures) refl refl

pub returns : goal.returns
returns c =
    wanted_compared _ _ c.requires c.field-from.ensures.0 (λ h. c.level_at-to.ensures h (omega (arith, c.requires)))
    c.instantiate-made.ensures.0 (some_small _ c.if-is_none.ensures c.instantiate-made.ensures.1) c.compare_units.ensures
