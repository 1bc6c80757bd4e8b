-- Laws: when cells fit a width.
use Rattle.std.specs.Prelude.{◌≡◌, Bool, true, false, ltb, length, get_or}
use Rattle.std.proofs.Math.Path.{refl, ap, ap₂}
use Rattle.std.specs.List.{list_all}
use Rattle.std.proofs.Math.Bool.{◌&&◌}
use mathlib.Core.List.{List, [], ◌∷◌}
use Prim.Native.Nat.{ℕ, zero, suc, ◌<◌, ◌≤◌}
use Rattle.std.proofs.Common.{arith}
use borrow.Author.Tests.{ltb-true, lt-ltb}
use Rattle.aut68.specs.Widths.{fits_width}
use Rattle.lookup.specs.Tests.{and_true}

module _ (values : ℕ) where
  pub fits_all : (s : List ℕ) → fits_width values s ≡ list_all (λ (x : ℕ). ltb x values) s
  unfolding fits_width
  fits_all [] = refl
  fits_all (x ∷ s) = ap (◌&&◌ (ltb x values)) (fits_all s)

  pub fits_each : (s : List ℕ) → ((i : ℕ) → i < length s → get_or s i 0 < values) → fits_width values s ≡ true
  unfolding fits_width
  fits_each [] h = refl
  fits_each (x ∷ s) h = ap₂ ◌&&◌ (lt-ltb x values (h 0 (omega arith))) (fits_each s (λ i l. h (suc i) (omega arith)))

  pub fits_at : (s : List ℕ) → fits_width values s ≡ true → (i : ℕ) → i < length s → get_or s i 0 < values
  unfolding fits_width
  fits_at [] e i h = absurd (omega arith)
  fits_at (x ∷ s) e zero h = ltb-true x values (and_true (ltb x values) (fits_width values s) e).0
  fits_at (x ∷ s) e (suc i) h = fits_at s (and_true (ltb x values) (fits_width values s) e).1 i (omega arith)

  -- one cell is too large
  pub fits_not : (s : List ℕ) (i : ℕ) → i < length s → values ≤ get_or s i 0 → fits_width values s ≡ false
  fits_not s i h l = go (fits_width values s) refl
    where
      go : (t : Bool) → fits_width values s ≡ t → t ≡ false
      go false e = refl
      go true e = absurd (omega (arith, fits_at s e i h))
