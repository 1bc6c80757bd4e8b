-- Cells of a width: lists of them joined, a larger width, and the test of a width.
use Rattle.std.specs.Prelude.{◌≡◌, refl, true, ◌&&◌, List, [], ◌∷◌, ◌++◌, ℕ, ◌≤◌}
use Rattle.std.proofs.Common.{ap₂, arith, lt-ltb}
use Rattle.aut68.specs.Widths.{fits_width}
use Rattle.cells.specs.Cells.{Below}

pub below_append : (n : ℕ) (cs ds : List ℕ) → Below n cs → Below n ds → Below n (cs ++ ds)
unfolding Below
below_append n [] ds b b' = b'
below_append n (c ∷ cs) ds b b' = (b.0, below_append n cs ds b.1 b')

pub below_wider : (m n : ℕ) (cs : List ℕ) → m ≤ n → Below m cs → Below n cs
unfolding Below
below_wider m n [] h b = tt
below_wider m n (c ∷ cs) h b = let l = b.0 in (omega arith, below_wider m n cs h b.1)

pub below_fits : (n : ℕ) (cs : List ℕ) → Below n cs → fits_width n cs ≡ true
unfolding Below fits_width
below_fits n [] b = refl
below_fits n (c ∷ cs) b = ap₂ ◌&&◌ (lt-ltb c n b.0) (below_fits n cs b.1)
