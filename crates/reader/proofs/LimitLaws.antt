-- Size and nesting of what was laid, against the limits.
use mathlib.Core.Path.{◌≡◌, refl, ap, ◌∙◌}
use mathlib.Core.Logic.{◌⊎◌, inl, inr, ⊎_elim}
use mathlib.Core.Bool.{true, false, ◌&&◌}
use mathlib.Core.List.{List}
use Prim.Native.Nat.{ℕ, ◌+◌, ◌-◌, ◌≤◌, ◌<◌}
use native.Mathlib.Omega.{arith}
use native.Mathlib.Decide.{dec_lt}
use lib.Dec.{leb}
use lib.ListN.{length}
use borrow.Author.Tests.{lt-leb}
use Rattle.aut68.specs.Expr.{Expr, size, cells, levels}
use Rattle.aut68.specs.Lines.{Kind, variable, primitive, abbreviation, kind_cells}
use Rattle.aut68.specs.Procedure.CheckLine.{within_limits, middle_within_limits}
use Rattle.aut68.specs.Sizes.{nesting}
use Rattle.lookup.specs.Tests.{limits_within}
use Rattle.cells.specs.CopyLaws.{and_false}
use Rattle.cells.specs.Forests.{size_is_length}
use Rattle.expressions.specs.Walk.{Laid}
use Rattle.expressions.proofs.LaidLaws.{laid_end}
use Rattle.reader.specs.Posts.{kind_levels}

-- what is laid in at most L cells is within the limits, and what takes more is not
module _ {w : List ℕ} {to end d : ℕ} {xs : List ℕ} {n : ℕ} (h : Laid w to end d xs n) (l : to ≤ end) where
  pub laid_small : {L : ℕ} → end - to ≤ L → end ≤ length w → (length xs ≤ L) × (n ≤ d)
  laid_small s r = (let e = laid_end h l r in omega (arith, e), (h.fits r).1)

  pub laid_large : {L : ℕ} → L < end - to → to + L ≤ length w → (L < length xs) ⊎ (d < n)
  laid_large {L} g r = at (dec_lt (length w) end)
    where
      at : Dec (length w < end) → (L < length xs) ⊎ (d < n)
      at (yes p) = ⊎_elim (λ x. inl (omega arith)) (λ x. inr x) (h.over p)
      at (no p) = let e = laid_end h l (omega arith) in inl (omega (arith, e))

pub within : {L : ℕ} (e : Expr) → (length (cells e) ≤ L) × (levels e ≤ nesting) → within_limits L e ≡ true
within {L} e (l, m) = limits_within L e (omega (arith, size_is_length e)) m

pub not_within : {L : ℕ} (e : Expr) → (L < length (cells e)) ⊎ (nesting < levels e) → within_limits L e ≡ false
unfolding within_limits
not_within {L} e (inl l) = rw (lt-leb (size e) L (omega (arith, size_is_length e)))
not_within {L} e (inr l) = ap (λ t. leb (size e) L && t) (lt-leb (levels e) nesting l) ∙ and_false (leb (size e) L)

pub middle_within_lem : {L : ℕ} (k : Kind) → (length (kind_cells k) ≤ L) × (kind_levels k ≤ nesting) → middle_within_limits L k ≡ true
unfolding middle_within_limits kind_cells kind_levels
middle_within_lem variable h = refl
middle_within_lem primitive h = refl
middle_within_lem (abbreviation m) h = within m h

pub middle_not_within : {L : ℕ} (k : Kind) → (L < length (kind_cells k)) ⊎ (nesting < kind_levels k) → middle_within_limits L k ≡ false
unfolding middle_within_limits kind_cells kind_levels
middle_not_within variable h = absurd (⊎_elim (λ x. omega arith) (λ x. omega arith) h)
middle_not_within primitive h = absurd (⊎_elim (λ x. omega arith) (λ x. omega arith) h)
middle_not_within (abbreviation m) h = not_within m h
