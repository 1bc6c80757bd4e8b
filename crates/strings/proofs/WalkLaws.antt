-- The bindings around a cell, found by walking back from it: what is to come at a cell that was passed, by what is to come behind it.
use mathlib.Core.Path.{◌≡◌, refl, sym, ap, ◌∙◌, subst}
use mathlib.Core.Logic.{◌≢◌}
use mathlib.Core.Bool.{Bool, true, false}
use mathlib.Core.List.{List, [], ◌∷◌, ◌++◌}
use Prim.Native.Nat.{ℕ, zero, suc, ◌+◌, ◌-◌, ◌%◌, ◌≤◌, ◌<◌}
use native.Mathlib.Omega.{arith}
use lib.Dec.{eqb}
use lib.ListN.{length, get_or, replicate, length-append, get_or-replicate, get_or-append}
use lib.Seq.{get_or-append-add}
use borrow.Author.Tests.{eqb-true, eq-eqb, ne_eqb}
use Rattle.aut68.specs.Sizes.{cell_factor}
use Rattle.cells.specs.Cells.{parts_after}
use Rattle.strings.specs.Levels.{part_levels, levels_past, levels_at}
use Rattle.strings.proofs.ReadLaws.{levels_long, abstraction_parts}

-- ---- one cell

-- `have` expressions lie between the cell x and the one in question, which is the next to come. x has no more parts: they are its
-- parts, and x itself is one of the expressions.
walk_past : (tb : List ℕ) (x have : ℕ) (ks : List ℕ) → parts_after tb x ≤ have → have < length (levels_past tb x ks)
    → (have - parts_after tb x + 1 < length ks) × (get_or ks (have - parts_after tb x + 1) 0 ≡ get_or (levels_past tb x ks) have 0)
unfolding levels_past
walk_past tb x have [] h l = absurd (omega arith)
walk_past tb x have (k ∷ ks) h l =
    let p = levels_long tb k x in
    let a = length-append (part_levels tb k x) ks in
    let n = have - parts_after tb x in
    let e : length (part_levels tb k x) + n ≡ have = omega (arith, p) in
    (omega (arith, p, a), ap (λ (i : ℕ). get_or (k ∷ ks) i 0) (one n) ∙ sym (get_or-append-add (part_levels tb k x) ks n 0) ∙ ap (λ (i : ℕ). get_or (part_levels tb k x ++ ks) i 0) e)
  where
    one : (n : ℕ) → n + 1 ≡ suc n
    one n = omega arith

-- x has more parts: it stands around the cell in question, and one binding more does if that is in the body of an abstraction
walk_in : (tb : List ℕ) (x have : ℕ) (ks : List ℕ) → have < parts_after tb x → have < length (levels_past tb x ks)
    → (0 < length ks) × (get_or (levels_past tb x ks) have 0 ≡ get_or ks 0 0 + elim (eqb (x % cell_factor) 5) as (λ _. ℕ) [ true ↦ have | false ↦ 0 ])
unfolding levels_past part_levels
walk_in tb x have [] h l = absurd (omega arith)
walk_in tb x have (k ∷ ks) h l = (omega arith, get_or-append (part_levels tb k x) ks 0 have (omega (arith, levels_long tb k x)) ∙ of (eqb (x % cell_factor) 5) refl)
  where
    two : (i : ℕ) → i < 2 → get_or (k ∷ suc k ∷ []) i 0 ≡ k + i
    two zero l = omega arith
    two (suc zero) l = omega arith
    two (suc (suc i)) l = absurd (omega arith)

    of : (t : Bool) → eqb (x % cell_factor) 5 ≡ t
        → get_or (elim t as (λ _. List ℕ) [ true ↦ k ∷ suc k ∷ [] | false ↦ replicate (parts_after tb x) k ]) have 0 ≡ k + elim t as (λ _. ℕ) [ true ↦ have | false ↦ 0 ]
    of true e = two have (omega (arith, abstraction_parts tb x (eqb-true (x % cell_factor) 5 e)))
    of false e = get_or-replicate (parts_after tb x) have k 0 h ∙ omega arith

-- ---- the walk

-- At cell j of a walk back from cell i of s: `have` whole expressions lie between them, and `found` bindings around cell i are passed. So the
-- expression at cell i stands `have` behind the next to come at cell j.
pub record Walked (tb s : List ℕ) (i j have found : ℕ) : Type 0 where
  pub short : have + found + j ≤ i
  pub is : 0 < length (levels_at tb s i) → (have < length (levels_at tb s j)) × (get_or (levels_at tb s j) have 0 + found ≡ get_or (levels_at tb s i) 0 0)

pub walk_starts : {tb s : List ℕ} {i : ℕ} → Walked tb s i i 0 0
walk_starts = record { short = omega arith; is = λ p. (p, omega arith) }

pub walk_at : {tb s : List ℕ} {i j j' have found : ℕ} → j ≡ j' → Walked tb s i j have found → Walked tb s i j' have found
walk_at {tb} {s} {i} {have = have} {found} e h = subst (λ n. Walked tb s i n have found) e h

pub walk_behind : {tb s : List ℕ} {i j have found : ℕ} → 0 < j → Walked tb s i j have found → Walked tb s i (suc (j - 1)) have found
walk_behind p h = walk_at (omega arith) h

-- at the first cell all bindings are found
pub walk_ends : {tb s : List ℕ} {i have found : ℕ} → Walked tb s i 0 have found → 0 < length (levels_at tb s i) → found ≡ get_or (levels_at tb s i) 0 0
unfolding levels_at
walk_ends {have = have} {found} h p = let (l, e) = h.is p in omega (arith, e, first have l)
  where
    first : (n : ℕ) → n < 1 → ◌≡◌ {A = ℕ} (get_or (0 ∷ []) n 0) 0
    first zero l = refl
    first (suc n) l = absurd (omega arith)

module _ {tb s : List ℕ} {i j have found have' found' parts : ℕ} (h : Walked tb s i (suc j) have found) (k : parts ≡ parts_after tb (get_or s j 0)) where
  -- from the cell behind cell j to cell j: it lies between
  pub walked_past : parts ≤ have → have' ≡ have - parts + 1 → found' ≡ found → Walked tb s i j have' found'
  unfolding levels_at
  walked_past l e f =
      record {
        short = omega (arith, h.short);
        is = λ q. (let (a, b) = h.is q in let (c, d) = walk_past tb (get_or s j 0) have (levels_at tb s j) (omega arith) a in rw (e, f, k) (c, omega (arith, b, d)));
      }

  walked_in : have < parts → have' ≡ 0 → found' ≡ found + elim (eqb (get_or s j 0 % cell_factor) 5) as (λ _. ℕ) [ true ↦ have | false ↦ 0 ] → Walked tb s i j have' found'
  unfolding levels_at
  walked_in l e f =
      record {
        short = omega (arith, h.short, f, small (eqb (get_or s j 0 % cell_factor) 5));
        is = λ q. (let (a, b) = h.is q in let (c, d) = walk_in tb (get_or s j 0) have (levels_at tb s j) (omega arith) a in rw e (c, omega (arith, b, d, f)));
      }
    where
      small : (t : Bool) → elim t as (λ _. ℕ) [ true ↦ have | false ↦ 0 ] ≤ have
      small true = omega arith
      small false = omega arith

  -- it stands around cell i: an abstraction, behind whose domain cell i lies if one expression lies between; any other cell
  pub walked_abstraction : have < parts → get_or s j 0 % cell_factor ≡ 5 → have' ≡ 0 → found' ≡ found + have → Walked tb s i j have' found'
  walked_abstraction l n e f = walked_in l e (f ∙ sym (ap (λ (t : Bool). found + elim t as (λ _. ℕ) [ true ↦ have | false ↦ 0 ]) (eq-eqb (get_or s j 0 % cell_factor) 5 n)))

  pub walked_other : have < parts → get_or s j 0 % cell_factor ≢ 5 → have' ≡ 0 → found' ≡ found → Walked tb s i j have' found'
  walked_other l n e f = walked_in l e (f ∙ omega (arith, ap {B = ℕ} (λ (t : Bool). elim t as (λ _. ℕ) [ true ↦ have | false ↦ 0 ]) (ne_eqb (get_or s j 0 % cell_factor) 5 n)))
