-- Parts of a store, and cells below a place that stay as they are.
use mathlib.Core.Path.{◌≡◌, refl, sym, ap, ap₂, ◌∙◌}
use mathlib.Core.List.{List, [], ◌∷◌, ◌++◌}
use Prim.Native.Nat.{ℕ, ◌+◌, ◌-◌, ◌≤◌, ◌<◌}
use native.Mathlib.Omega.{arith}
use native.Mathlib.Decide.{dec_lt}
use native.Mathlib.Numerals.{add-one}
use lib.ListN.{length, take, drop, set, length-set}
use lib.Seq.{slice, slice_empty, slice-cons, take-add, take-take, drop-append-le, take-set-le, length-take-le, get_or-set_same, drop_at}
use Rattle.expressions.specs.Walk.{SameBelow, CellPut}

module _ {w w' : List ℕ} {n : ℕ} (h : SameBelow n w w') where
  pub below_less : (m : ℕ) → m ≤ n → SameBelow m w w'
  below_less m l = record { long = h.long; is = sym (take-take m n w' l) ∙ ap (take m) h.is ∙ take-take m n w l }

  pub below_then : {w'' : List ℕ} {m : ℕ} → n ≤ m → SameBelow m w' w'' → SameBelow n w w''
  below_then {w''} {m} l k =
      record { long = k.long ∙ h.long; is = sym (take-take n m w'' l) ∙ ap (take n) k.is ∙ take-take n m w' l ∙ h.is }

  -- a part that ends below n stays
  pub part_stays : (from end : ℕ) → end ≤ n → slice from end w' ≡ slice from end w
  part_stays from end l = ap (drop from) (below_less end l).is

pub below_same : (n : ℕ) (w : List ℕ) → SameBelow n w w
below_same n w = record { long = refl; is = refl }

-- one cell written
pub below_put : {w w' : List ℕ} {to x next : ℕ} → CellPut w w' to x next → SameBelow to w w'
below_put {w} {w'} {to} {x} h =
    record { long = ap length h.is ∙ length-set w to x; is = ap (take to) h.is ∙ take-set-le to w to x (omega arith) }

-- the index behind it
pub put_next : {w w' : List ℕ} {to x next : ℕ} → CellPut w w' to x next → to ≤ length w + 1 → (to ≤ next) × (next ≤ length w + 1)
put_next {w} {to = to} {next = next} h l = at (dec_lt to (length w))
  where
    at : Dec (to < length w) → (to ≤ next) × (next ≤ length w + 1)
    at (yes p) = let e = h.room p in (omega (arith, e), omega (arith, e))
    at (no p) = let e = h.none (omega arith) in (omega (arith, e), omega (arith, e))

-- a cell that was written inside the store
pub put_inside : {w w' : List ℕ} {to x next : ℕ} → CellPut w w' to x next → next ≤ length w → (to < length w) × (next ≡ to + 1)
put_inside {w} {to = to} {next = next} h l = at (dec_lt to (length w))
  where
    at : Dec (to < length w) → (to < length w) × (next ≡ to + 1)
    at (yes p) = (p, h.room p)
    at (no p) = let e = h.none (omega arith) in absurd (omega (arith, e))

-- two parts that follow each other
pub part_append : (w : List ℕ) (a b c : ℕ) → a ≤ b → b ≤ c → c ≤ length w → slice a c w ≡ slice a b w ++ slice b c w
part_append w a b c l m n =
    let e : c ≡ b + (c - b) = omega arith in
    let t : take c w ≡ take b w ++ take (c - b) (drop b w) = ap (λ k. take k w) e ∙ take-add b (c - b) w in
    let lb : length (take b w) ≡ b = length-take-le b w (omega arith) in
    let right : slice b c w ≡ take (c - b) (drop b w) = ap (drop b) t ∙ drop_at (take b w) _ b lb in
    ap (drop a) t ∙ drop-append-le a (take b w) _ (omega (arith, lb)) ∙ ap (λ x. slice a b w ++ x) (sym right)

-- the one cell that was written
pub part_put : {w w' : List ℕ} {to x next : ℕ} → CellPut w w' to x next → to < length w → slice to (to + 1) w' ≡ x ∷ []
part_put {w} {w'} {to} {x} h l =
    ap (slice to (to + 1)) h.is
    ∙ slice-cons to (to + 1) (set w to x) 0 (omega arith) (omega (arith, length-set w to x))
    ∙ ap₂ ◌∷◌ (get_or-set_same w to x 0 l) (ap (λ k. slice k (to + 1) (set w to x)) (sym (add-one to)) ∙ slice_empty (to + 1) (set w to x))
