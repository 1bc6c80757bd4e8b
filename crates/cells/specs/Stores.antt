-- Laws: runs of cells written into a store, what stays outside a part, and where an expression still lies.
use Rattle.std.specs.Prelude.{◌≡◌, refl, ◌⊎◌, List, [], ◌∷◌, ◌++◌, ℕ, suc, ◌+◌, ◌≤◌, ◌<◌, min, length, get_or, take, drop, set}
use Rattle.std.proofs.Common.{sym, ap, ◌∙◌, inl, inr, ⊎_elim, append_assoc, add-zero, arith, length-take, length-drop, take-append-drop, get_or-set_other, get_or-take, get_or-drop, ext_get_or, take_at, drop_at, drop-drop, length-take-le}
use Rattle.std.proofs.lemmas.List.Edits.{sets, sets-eq}
use Rattle.std.proofs.Math.Seq.{length-sets}
use Rattle.cells.specs.Cells.{At, Outside}
use Rattle.cells.specs.Forests.{at_length}

-- ---- runs of stores

-- two runs, one behind the other, are one
pub sets_append : (a b w : List ℕ) (i : ℕ) → sets (sets w i a) (i + length a) b ≡ sets w i (a ++ b)
sets_append [] b w i = ap (λ (k : ℕ). sets w k b) (add-zero i)
sets_append (x ∷ a) b w i =
    let e : i + suc (length a) ≡ suc i + length a = omega arith in
    ap (λ (k : ℕ). sets (sets (set w i x) (suc i) a) k b) e ∙ sets_append a b (set w i x) (suc i)

-- a run writes nowhere else
pub sets_elsewhere : (vs w : List ℕ) (i j : ℕ) → (j < i) ⊎ (i + length vs ≤ j) → get_or (sets w i vs) j 0 ≡ get_or w j 0
sets_elsewhere [] w i j h = refl
sets_elsewhere (x ∷ vs) w i j h =
    sets_elsewhere vs (set w i x) (suc i) j (⊎_elim (λ k. inl (omega arith)) (λ k. inr (omega arith)) h)
    ∙ get_or-set_other w i j x 0 (λ e. ⊎_elim (λ k. absurd (omega arith)) (λ k. absurd (omega arith)) h)

-- what was written stands there
pub at_sets : (w vs : List ℕ) (i : ℕ) → i + length vs ≤ length w → At (sets w i vs) i vs (drop (i + length vs) w)
at_sets w vs i h = record {
  is =
      ap (drop i) (sets-eq vs w i h ∙ append_assoc (take i w) vs (drop (i + length vs) w))
      ∙ drop_at (take i w) (vs ++ drop (i + length vs) w) i (length-take-le i w (omega arith));
}

-- ---- outside a part

pub outside_same : {from end : ℕ} {w : List ℕ} → Outside from end w w
outside_same = record { long = refl; same = λ i h. refl }

pub outside_of : {from end : ℕ} {w w' : List ℕ} → w' ≡ w → Outside from end w w'
outside_of e = rw e outside_same

pub outside_then : {from end : ℕ} {w w' w'' : List ℕ} → Outside from end w w' → Outside from end w' w'' → Outside from end w w''
outside_then p q = record { long = q.long ∙ p.long; same = λ i h. q.same i h ∙ p.same i h }

-- a larger part
pub outside_more : {from end from' end' : ℕ} {w w' : List ℕ} → from' ≤ from → end ≤ end' → Outside from end w w' → Outside from' end' w w'
outside_more l h p = record { long = p.long; same = λ i k. p.same i (⊎_elim (λ a. inl (omega arith)) (λ a. inr (omega arith)) k) }

pub outside_sets : (w vs : List ℕ) (i : ℕ) → Outside i (i + length vs) w (sets w i vs)
outside_sets w vs i = record { long = length-sets w i vs; same = λ j h. sets_elsewhere vs w i j h }

-- below the part the store is the same list
pub outside_below : {from end n : ℕ} {w w' : List ℕ} → n ≤ from → Outside from end w w' → take n w' ≡ take n w
outside_below {from} {end} {n} {w} {w'} h p =
    ext_get_or 0 (take n w') (take n w)
    (length-take n w' ∙ ap (min n) p.long ∙ sym (length-take n w))
    λ i l.
    let k : i < n = omega (arith, length-take n w') in
    get_or-take n w' i 0 k ∙ p.same i (inl (omega arith)) ∙ sym (get_or-take n w i 0 k)

-- ---- where a run of cells lies

-- the run itself, and what is behind it
pub at_taken : {s : List ℕ} {i : ℕ} {xs rest : List ℕ} → At s i xs rest → take (length xs) (drop i s) ≡ xs
at_taken {xs = xs} {rest} a = ap (take (length xs)) a.is ∙ take_at xs rest (length xs) refl

pub at_rest : {s : List ℕ} {i : ℕ} {xs rest : List ℕ} → At s i xs rest → rest ≡ drop (i + length xs) s
at_rest {s} {i} {xs} {rest} a = sym (drop_at xs rest (length xs) refl) ∙ ap (drop (length xs)) (sym a.is) ∙ drop-drop (length xs) i s

pub at_of_taken : (s : List ℕ) (i n : ℕ) (xs : List ℕ) → take n (drop i s) ≡ xs → At s i xs (drop (i + n) s)
at_of_taken s i n xs e =
    record { is = sym (take-append-drop n (drop i s)) ∙ rw (e, drop-drop n i s) }

-- it still lies there where its cells are as they were
pub at_same : {w w' : List ℕ} {i : ℕ} {xs rest : List ℕ} → length w' ≡ length w → ((j : ℕ) → i ≤ j → j < i + length xs → get_or w' j 0 ≡ get_or w j 0)
    → At w i xs rest → At w' i xs (drop (i + length xs) w')
at_same {w} {w'} {i} {xs} {rest} q p a =
    at_of_taken w' i (length xs) xs
    (ext_get_or 0 (take (length xs) (drop i w')) xs long
    λ j l.
    let k : j < length xs = omega (arith, long) in
    get_or-take (length xs) (drop i w') j 0 k
    ∙ get_or-drop i w' j 0
    ∙ p (i + j) (omega arith) (omega arith)
    ∙ sym (get_or-drop i w j 0)
    ∙ sym (get_or-take (length xs) (drop i w) j 0 k)
    ∙ ap (λ (l : List ℕ). get_or l j 0) (at_taken a))
  where
    long : length (take (length xs) (drop i w')) ≡ length xs
    long = length-take-le (length xs) (drop i w') (omega (arith, at_length a, length-drop i w', q))

-- so after a change elsewhere
pub at_kept : {from end : ℕ} {w w' : List ℕ} {i : ℕ} {xs rest : List ℕ} → Outside from end w w' → (i + length xs ≤ from) ⊎ (end ≤ i)
    → At w i xs rest → At w' i xs (drop (i + length xs) w')
at_kept p h a = at_same p.long (λ j l k. p.same j (⊎_elim (λ b. inl (omega arith)) (λ b. inr (omega arith)) h)) a

-- and in the store cut off behind it
pub at_before : {s : List ℕ} {i n : ℕ} {xs rest : List ℕ} → i + length xs ≤ n → At s i xs rest → At (take n s) i xs (drop (i + length xs) (take n s))
at_before {s} {i} {n} {xs} {rest} h a =
    at_of_taken (take n s) i (length xs) xs
    (ext_get_or 0 (take (length xs) (drop i (take n s))) xs long
    λ j l.
    let k : j < length xs = omega (arith, long) in
    get_or-take (length xs) (drop i (take n s)) j 0 k
    ∙ get_or-drop i (take n s) j 0
    ∙ get_or-take n s (i + j) 0 (omega arith)
    ∙ sym (get_or-drop i s j 0)
    ∙ sym (get_or-take (length xs) (drop i s) j 0 k)
    ∙ ap (λ (l : List ℕ). get_or l j 0) (at_taken a))
  where
    long : length (take (length xs) (drop i (take n s))) ≡ length xs
    long = length-take-le (length xs) (drop i (take n s)) (omega (arith, at_length a, length-drop i (take n s), length-take n s))
