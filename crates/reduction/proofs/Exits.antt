-- What leaves a function by `?`.
use mathlib.Core.Path.{◌≡◌, refl, ap}
use Rattle.std.specs.Prelude.{Option, Some, None, Result, Ok, Err, IsErrAnd}
use Rattle.std.specs.Option.{ok_or}

module _ {A E : Type 0} where
  -- the same error
  pub passed_on : (r : Result A E) (e : E) → IsErrAnd r (λ x. x ≡ e) → r ≡ Err e
  passed_on (Ok a) e h = absurd h
  passed_on (Err x) e h = ap (λ y. Err y) h

  -- the error that stands for a missing value
  pub missing : (o : Option A) {e x : E} → ◌≡◌ {A = Result A E} (Err x) (ok_or o e) → (o ≡ None) × (x ≡ e)
  missing None q = (refl, cc)
  missing (Some a) q = absurd (cc)
