-- What callers use of a result that was made.
use Rattle.std.specs.Prelude.{◌≡◌, ◌⊎◌, List, ℕ, zero, suc, ◌+◌, ◌≤◌, ◌<◌, length, drop}
use Rattle.std.proofs.Common.{ap, ◌∙◌, inl, inr, arith, take_all}
use Rattle.std.proofs.Math.Logic.{⊎_elim}
use Rattle.std.proofs.lemmas.List.Edits.{sets}
use Rattle.aut68.specs.Sizes.{cell_values}
use Rattle.aut68.specs.Expr.{Expr, size, cells}
use Rattle.cells.specs.Cells.{At}
use Rattle.cells.specs.Forests.{size_is_length}
use Rattle.cells.specs.Stores.{at_sets}
use Rattle.terms.specs.Made.{no_room, Made}

pub fits_or_not : (a b : ℕ) → (a ≤ b) ⊎ (b < a)
fits_or_not zero b = inl (omega arith)
fits_or_not (suc a) zero = inr (omega arith)
fits_or_not (suc a) (suc b) = ⊎_elim (λ p. inl (omega arith)) (λ q. inr (omega arith)) (fits_or_not a b)

module _ {room : ℕ} {e : Expr} {r to : ℕ} {w w' : List ℕ} (m : Made room e r to w w') where
  -- a result that fits is written whole
  pub made_whole : size e ≤ room → w' ≡ sets w to (cells e)
  made_whole l = m.cells_are ∙ ap (sets w to) (take_all room (cells e) (omega (arith, size_is_length e)))

  -- and lies where it was made
  pub made_lies : to + room ≤ length w → size e ≤ room → At w' to (cells e) (drop (to + size e) w)
  made_lies h l =
      let a : At (sets w to (cells e)) to (cells e) (drop (to + length (cells e)) w) = at_sets w (cells e) to (omega (arith, size_is_length e)) in
      rw (made_whole l, size_is_length e) a

  -- the answer tells whether it fits, in a room of fewer cells than a cell has values
  pub made_fits : room < cell_values → r ≤ room → size e ≤ room
  unfolding no_room
  made_fits h l = ⊎_elim (λ p. p) (λ q. absurd (omega (arith, m.large q))) (fits_or_not (size e) room)

  pub made_answer : room < cell_values → r ≤ room → r ≡ size e
  made_answer h l = m.fits (made_fits h l)

  pub made_large : room < r → room < size e
  made_large l = ⊎_elim (λ p. absurd (omega (arith, m.fits p))) (λ q. q) (fits_or_not (size e) room)
