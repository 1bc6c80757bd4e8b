-- Writes one after the other, whole or up to the end of the store.
use Prim.Native.Nat.{ℕ, ◌+◌, ◌-◌, ◌≤◌, ◌<◌}
use mathlib.Core.Path.{◌≡◌, refl, sym, ap, ◌∙◌}
use mathlib.Core.List.{List, [], ◌∷◌, ◌++◌}
use native.Mathlib.Omega.{arith}
use lib.ListN.{length, set, take, length-append, length-set}
use lib.Seq.{sets, length-sets, take-set-le, take-take, take-append-le, take-append-add}
use Rattle.cells.specs.Cells.{Below, Wrote}
use Rattle.cells.specs.Stores.{sets_append}
use Rattle.terms.specs.Grafts.{Kept, Full}

-- ---- what is kept

pub kept_none : {w : List ℕ} {to : ℕ} → Kept w w to
kept_none = record { long = refl; below = refl }

pub kept_one : {w : List ℕ} {at : ℕ} (y : ℕ) → Kept w (set w at y) at
kept_one {w} {at} y = record { long = length-set w at y; below = take-set-le at w at y (omega arith) }

pub kept_more : {w w₁ w₂ : List ℕ} {to at : ℕ} → to ≤ at → Kept w w₁ to → Kept w₁ w₂ at → Kept w w₂ to
kept_more {w} {w₁} {w₂} {to} {at} l p q = record {
  long = q.long ∙ p.long;
  below = sym (take-take to at w₂ l) ∙ ap (take to) q.below ∙ take-take to at w₁ l ∙ p.below;
}

-- what lies below `end` stays
pub kept_below : {w w' : List ℕ} {to : ℕ} (end : ℕ) → end ≤ to → Kept w w' to → take end w' ≡ take end w
kept_below {w} {w'} {to} end l p = sym (take-take end to w' l) ∙ ap (take end) p.below ∙ take-take end to w l

-- ---- what is written

pub wrote_length : {w w' vs : List ℕ} {to at : ℕ} → Wrote w w' to at vs → length w' ≡ length w
wrote_length {w} {w'} {vs} {to} p = ap length p.is ∙ length-sets w to vs

pub wrote_none : {w : List ℕ} {to : ℕ} → to ≤ length w → Wrote w w to to []
wrote_none h = record { is = refl; ends = omega arith; room = h }

pub wrote_one : {w : List ℕ} {at y : ℕ} → at < length w → Wrote w (set w at y) at (at + 1) (y ∷ [])
wrote_one h = record { is = refl; ends = refl; room = omega arith }

pub wrote_more : {w w₁ w₂ vs us : List ℕ} {to mid at : ℕ} → Wrote w w₁ to mid vs → Wrote w₁ w₂ mid at us → Wrote w w₂ to at (vs ++ us)
wrote_more {w} {w₁} {w₂} {vs} {us} {to} {mid} {at} p q = record {
  is = q.is ∙ ap (λ (l : List ℕ). sets l mid us) p.is ∙ ap (λ (k : ℕ). sets (sets w to vs) k us) p.ends ∙ sets_append vs us w to;
  ends = omega (arith, p.ends, q.ends, length-append vs us);
  room = omega (arith, q.room, wrote_length p);
}

-- ---- what is written up to the end of the store

-- at the end of the store nothing more is written
pub full_here : {w vs : List ℕ} {at : ℕ} → length w ≤ at → 1 ≤ length vs → Full w w at vs
full_here {w} {vs} {at} h l = record { over = omega arith; is = sym (ap (λ (k : ℕ). sets w at (take k vs)) z) }
  where
    z : length w - at ≡ 0
    z = omega arith

-- some cells, and then as many as there is room for
pub full_more : {w w₁ w₂ us vs : List ℕ} {to mid : ℕ} → Wrote w w₁ to mid us → Full w₁ w₂ mid vs → Full w w₂ to (us ++ vs)
full_more {w} {w₁} {w₂} {us} {vs} {to} {mid} p q = record {
  over = omega (arith, p.ends, q.over, wrote_length p, length-append us vs);
  is = q.is
      ∙ ap (λ (l : List ℕ). sets l mid (take (length w₁ - mid) vs)) p.is
      ∙ ap (λ (k : ℕ). sets (sets w to us) k (take (length w₁ - mid) vs)) p.ends
      ∙ sets_append us (take (length w₁ - mid) vs) w to
      ∙ ap (sets w to) (sym (ap (λ (k : ℕ). take k (us ++ vs)) e ∙ take-append-add us vs (length w₁ - mid)));
}
  where
    e : length w - to ≡ length us + (length w₁ - mid)
    e = omega (arith, p.ends, p.room, wrote_length p)

-- what would come behind does not matter
pub full_longer : {w w' us : List ℕ} {to : ℕ} (vs : List ℕ) → Full w w' to us → Full w w' to (us ++ vs)
full_longer {w} {w'} {us} {to} vs p = record {
  over = omega (arith, p.over, length-append us vs);
  is = p.is ∙ ap (sets w to) (sym (take-append-le (length w - to) us vs (omega (arith, p.over))));
}

-- ---- numbers below a bound

pub below_front : (n : ℕ) (us vs : List ℕ) → Below n (us ++ vs) → Below n us
unfolding Below
below_front n [] vs h = tt
below_front n (u ∷ us) vs h = (h.0, below_front n us vs h.1)

pub below_back : (n : ℕ) (us vs : List ℕ) → Below n (us ++ vs) → Below n vs
unfolding Below
below_back n [] vs h = h
below_back n (u ∷ us) vs h = below_back n us vs h.1
