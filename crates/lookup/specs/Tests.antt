-- Tests of the procedure, and what they tell.
use Rattle.std.specs.Prelude.{◌≡◌, refl, ℕ, suc, ◌≤◌, ◌<◌, Bool, true, false, ◌&&◌, length}
use Rattle.std.proofs.Common.{ap₂, arith, leb-true, le-leb, ltb-true, lt-ltb}
use Rattle.std.proofs.lemmas.Bool.{false≢true}
use Rattle.aut68.specs.Sizes.{nesting}
use Rattle.aut68.specs.Stores.{Limits, Larger}
use Rattle.aut68.specs.Expr.{Expr, size, levels}
use Rattle.aut68.specs.Lines.{Line, Lines, Kind, variable, primitive, abbreviation}
use Rattle.aut68.specs.Procedure.CheckLine.{within_limits, middle_within_limits, room}

pub and_true : (s t : Bool) → (s && t) ≡ true → (s ≡ true) × (t ≡ true)
and_true true true e = (refl, refl)
and_true true false e = absurd (false≢true e)
and_true false true e = absurd (false≢true e)
and_true false false e = absurd (false≢true e)

-- size and nesting of a completed expression
pub within_limits_lem : (L : ℕ) (e : Expr) → within_limits L e ≡ true → (size e ≤ L) × (levels e ≤ nesting)
unfolding within_limits
within_limits_lem L e h = let (p, q) = and_true _ _ h in (leb-true _ _ p, leb-true _ _ q)

pub limits_within : (L : ℕ) (e : Expr) → size e ≤ L → levels e ≤ nesting → within_limits L e ≡ true
unfolding within_limits
limits_within L e p q = ap₂ ◌&&◌ (le-leb _ _ p) (le-leb _ _ q)

-- of a completed middle
pub middle_limits : (L : ℕ) {k : Kind} → middle_within_limits L k ≡ true → (m : Expr) → k ≡ abbreviation m → within_limits L m ≡ true
unfolding middle_within_limits
middle_limits L {k} h m e = rw e at h

-- both hold under a larger limit
pub larger_within : {L L' : ℕ} → L ≤ L' → (e : Expr) → within_limits L e ≡ true → within_limits L' e ≡ true
larger_within {L} {L'} h e t = let (p, q) = within_limits_lem L e t in limits_within L' e (omega (arith, p, h)) q

pub larger_middle_within : {L L' : ℕ} → L ≤ L' → (k : Kind) → middle_within_limits L k ≡ true → middle_within_limits L' k ≡ true
unfolding middle_within_limits
larger_middle_within h variable t = t
larger_middle_within h primitive t = t
larger_middle_within h (abbreviation m) t = larger_within h m t

-- a line that has room has it under larger limits
pub larger_room : {m m' : Limits} → Larger m m' → (ls : Lines) (l : Line) → room ls m l ≡ true → room ls m' l ≡ true
unfolding room
larger_room {m} {m'} h ls l e =
    let (front, index) = and_true _ _ e in
    let (numbered, terms) = and_true _ _ front in
    let (below, table) = and_true _ _ numbered in
    let k = h.lines in
    let n : suc (length ls) < m.lines = ltb-true _ _ below in
    let n' : suc (length ls) < m'.lines = omega arith in
    rw (h.same_table, h.same_terms, h.same_index) (ap₂ ◌&&◌ (ap₂ ◌&&◌ (ap₂ ◌&&◌ (lt-ltb _ _ n') table) terms) index)
