-- Cells that are laid one behind the other, as far as the store has room and nesting levels are left.
use mathlib.Core.Path.{◌≡◌, ap, ap₂, ◌∙◌}
use mathlib.Core.Logic.{◌⊎◌, inl, inr, ⊎_elim}
use mathlib.Core.List.{List, [], ◌∷◌, ◌++◌}
use Prim.Native.Nat.{ℕ, suc, ◌+◌, ◌≤◌, ◌<◌, max}
use native.Mathlib.Omega.{arith}
use native.Mathlib.Decide.{dec_lt}
use lib.ListN.{length, length-append}
use lib.Seq.{slice, slice_empty, length-slice}
use Rattle.aut68.specs.Expr.{Exprs, levelss, cellss, in_front}
use Rattle.completion.specs.Posts.{variable_cells}
use Rattle.lookup.specs.Completing.{levels_in_front, front_levels}
use Rattle.completion.proofs.PutInLaws.{length_variables}
use Rattle.expressions.specs.Walk.{SameBelow, CellPut, Laid}
use Rattle.expressions.specs.Posts.{Inserted}
use Rattle.expressions.proofs.StoreLaws.{part_stays, part_append, part_put, below_put, put_inside}

-- where there is room, the end is where it must be
pub laid_end : {w : List ℕ} {to end d : ℕ} {xs : List ℕ} {n : ℕ} → Laid w to end d xs n → to ≤ end → end ≤ length w → end ≡ to + length xs
laid_end {w} {to} {end} h l m =
    let e = length-slice to end w m in
    let q = ap length (h.fits m).0 in
    omega (arith, e, q)

pub nothing_laid : {w : List ℕ} {to d : ℕ} → Laid w to to d [] 0
nothing_laid {w} {to} = record { fits = λ l. (slice_empty to w, omega arith); over = λ l. inl (omega arith) }

-- two parts, one behind the other
pub laid_append : {w w' : List ℕ} {to mid end d : ℕ} {xs ys : List ℕ} {n m : ℕ} → SameBelow mid w w' → to ≤ mid → mid ≤ end
    → Laid w to mid d xs n → Laid w' mid end d ys m → Laid w' to end d (xs ++ ys) (max n m)
laid_append {w} {w'} {to} {mid} {end} {d} {xs} {ys} {n} {m} s l k A B =
    record {
      fits = λ h.
          let (p, i) = A.fits (omega (arith, s.long)) in
          let (q, j) = B.fits h in
          (part_append w' to mid end l k h ∙ ap₂ ◌++◌ (part_stays s to mid (omega arith) ∙ p) q, omega arith);
      over = λ h. at (dec_lt (length w') mid) h;
    }
  where
    e : length (xs ++ ys) ≡ length xs + length ys
    e = length-append xs ys

    at : Dec (length w' < mid) → length w' < end → (length w' < to + length (xs ++ ys)) ⊎ (d < max n m)
    at (yes p) h = ⊎_elim (λ x. inl (omega (arith, e, s.long))) (λ x. inr (omega arith)) (A.over (omega (arith, s.long)))
    at (no p) h =
        let q = laid_end A l (omega (arith, s.long)) in
        ⊎_elim (λ x. inl (omega (arith, e, q))) (λ x. inr (omega arith)) (B.over h)

-- a cell, and what lies one level deeper behind it
pub laid_cell : {w w₁ w' : List ℕ} {to x next end d : ℕ} {xs : List ℕ} {n : ℕ} → CellPut w w₁ to x next → SameBelow next w₁ w' → next ≤ end
    → Laid w' next end d xs n → Laid w' to end (suc d) (x ∷ xs) (suc n)
laid_cell {w} {w₁} {w'} {to} {x} {next} {end} {d} {xs} {n} put s l A =
    record {
      fits = λ h.
          let (i, e) = put_inside put (omega (arith, long)) in
          let (p, j) = A.fits h in (
            part_append w' to next end (omega (arith, e)) l h
                ∙ ap₂ ◌++◌ (part_stays s to next (omega arith) ∙ ap (λ k. slice to k w₁) e ∙ part_put put i) p,
            omega arith,
          );
      over = λ h. at (dec_lt to (length w)) h;
    }
  where
    long : length w' ≡ length w
    long = s.long ∙ (below_put put).long

    at : Dec (to < length w) → length w' < end → (length w' < to + suc (length xs)) ⊎ (suc d < suc n)
    at (yes p) h = let e = put.room p in ⊎_elim (λ y. inl (omega (arith, e))) (λ y. inr (omega arith)) (A.over h)
    at (no p) h = inl (omega (arith, long))

-- ---- what was left out, in front

front_fits : (us : List ℕ) (es : Exprs) {d : ℕ} → (us ≡ []) ⊎ (1 ≤ d) → levelss es ≤ d → levelss (in_front us es) ≤ d
unfolding in_front
front_fits us es (inl e) l = let q : levelss (in_front us es) ≡ levelss es = ap (λ vs. levelss (in_front vs es)) e in omega (arith, q)
front_fits us es (inr k) l = omega (arith, (front_levels us es).1)

front_deep : (us : List ℕ) (es : Exprs) → 1 ≤ length us → 1 ≤ levelss (in_front us es)
front_deep [] es l = absurd (omega arith)
front_deep (u ∷ us) es l = omega (arith, levels_in_front u us es)

pub laid_in_front : {w w' : List ℕ} {first end end' d : ℕ} (us : List ℕ) (es : Exprs) → first ≤ end → end ≤ end' → length w' ≡ length w
    → Laid w first end d (cellss es) (levelss es) → Inserted w w' first end end' d us
    → Laid w' first end' d (variable_cells us ++ cellss es) (levelss (in_front us es))
laid_in_front {w} {w'} {first} {end} {end'} {d} us es l k long A h =
    record {
      fits = λ r.
          let (p, i) = A.fits (omega arith) in
          let (q, j) = h.fits (omega arith) in
          (q ∙ ap (λ ys. variable_cells us ++ ys) p, front_fits us es j i);
      over = λ r. at (dec_lt (length w) end) (h.over (omega arith));
    }
  where
    e : length (variable_cells us ++ cellss es) ≡ length us + length (cellss es)
    e = length-append (variable_cells us) (cellss es) ∙ ap (λ n. n + length (cellss es)) (length_variables us)

    at : Dec (length w < end) → (length w < end + length us) ⊎ ((1 ≤ length us) × (d < 1))
        → (length w' < first + length (variable_cells us ++ cellss es)) ⊎ (d < levelss (in_front us es))
    at t (inr (a, b)) = inr (omega (arith, front_deep us es a))
    at (yes p) (inl a) = ⊎_elim (λ x. inl (omega (arith, e))) (λ x. inr (omega (arith, (front_levels us es).0))) (A.over p)
    at (no p) (inl a) = let q = laid_end A l (omega arith) in inl (omega (arith, e, q))
