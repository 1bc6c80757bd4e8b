-- Laws of marks.
use Rattle.std.specs.Prelude.{◌≡◌, refl, ◌≢◌, true, false, List, ℕ, ◌*◌, ◌/◌, ◌%◌, ◌^◌, ◌≤◌, ◌<◌, length, get_or, set, replicate}
use Rattle.std.proofs.Common.{ap, ◌∙◌, arith, length-set, shl_exact, get_or-set_same, get_or-set_other}
use Rattle.std.proofs.Math.Decide.{dec_lt, ℕ_discrete}
use Rattle.std.specs.Int.Bits.{bit_or}
use Rattle.std.proofs.lemmas.List.{length-replicate, get_or-replicate}
use Rattle.std.proofs.Math.ListN.{get_or-eq_default}
use Rattle.marks.specs.Marks.{cell_marks, bit_of, marked, MarkPost}
use Rattle.marks.specs.BitLaws.{zero_bit, set_bit, other_bit}

no_cell : (w : List ℕ) (v : ℕ) → get_or w (v / cell_marks) 0 ≡ 0 → marked w v ≡ false
unfolding marked
no_cell w v e = ap (λ (x : ℕ). bit_of x (v % cell_marks)) e ∙ zero_bit (v % cell_marks)

-- what lies past the store is not marked
pub past_marked : (w : List ℕ) (v : ℕ) → length w ≤ v / cell_marks → marked w v ≡ false
past_marked w v h = no_cell w v (get_or-eq_default w 0 h)

-- zeros mark nothing
pub none_marked : (n v : ℕ) → marked (replicate n 0) v ≡ false
none_marked n v = at (dec_lt (v / cell_marks) n)
  where
    at : Dec (v / cell_marks < n) → marked (replicate n 0) v ≡ false
    at (yes h) = no_cell _ v (get_or-replicate n (v / cell_marks) 0 0 h)
    at (no h) = past_marked _ v (rw length-replicate (omega arith))

-- ---- marking

pub mark_past : (w : List ℕ) (v : ℕ) → length w ≤ v / cell_marks → MarkPost w w v
mark_past w v h = record { long = refl; here = λ k. absurd (omega arith); others = λ u n. refl }

-- the store with bit v set, as the code does it
abbrev marking : List ℕ → ℕ → List ℕ
marking w v = set w (v / cell_marks) (bit_or (get_or w (v / cell_marks) 0) (1 * 2 ^ (v % cell_marks) % 2 ^ cell_marks))

power_fits : (v : ℕ) → 1 * 2 ^ (v % cell_marks) % 2 ^ cell_marks ≡ 1 * 2 ^ (v % cell_marks)
power_fits v = shl_exact 1 (v % cell_marks) cell_marks (omega arith) (omega arith)

pub mark_cell : (w : List ℕ) (v : ℕ) → v / cell_marks < length w → MarkPost w (marking w v) v
unfolding marked
mark_cell w v h = record { long = length-set w _ _; here = λ _. here; others = λ u n. others u n (ℕ_discrete (u / cell_marks) (v / cell_marks)) }
  where
    here : marked (marking w v) v ≡ true
    here = rw (get_or-set_same w (v / cell_marks), power_fits v, set_bit)

    others : (u : ℕ) → u ≢ v → Dec (u / cell_marks ≡ v / cell_marks) → marked (marking w v) u ≡ marked w u
    others u n (no k) = rw (get_or-set_other w (v / cell_marks) (u / cell_marks) _ 0 k)
    others u n (yes e) = rw (e, get_or-set_same w (v / cell_marks), power_fits v, other_bit _ (v % cell_marks) (u % cell_marks) (λ q. n (omega arith)))
