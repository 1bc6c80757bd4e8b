-- Laws: parts of a store, put together, and after changes elsewhere.
use Rattle.std.specs.Prelude.{◌≡◌, ◌⊎◌, List, [], ◌∷◌, ◌++◌, ℕ, zero, suc, ◌+◌, ◌-◌, ◌≤◌, ◌<◌, min, length, get_or, take, drop, set}
use Rattle.std.proofs.Common.{sym, ap, ap₂, ◌∙◌, inl, inr, ⊎_elim, append_assoc, zero-add, add_assoc, arith, length-take, length-drop, length-set, take-append-drop, ext_get_or, get_or-take, get_or-drop, take-take, drop-drop, get_or-set_same}
use Rattle.std.proofs.Math.Seq.{slice, slice-cons, slice_empty, take-nil}
use Rattle.std.proofs.lemmas.List.{drop-append-le}
use Rattle.cells.specs.Cells.{Outside}
use Rattle.cells.specs.Stores.{outside_sets}

-- ---- parts of one store

-- a part, cut off behind or taken from its start
pub run_is_slice : (a n : ℕ) (s : List ℕ) → slice a (a + n) s ≡ take n (drop a s)
run_is_slice zero n s = ap (λ (k : ℕ). take k s) (zero-add n)
run_is_slice (suc a) n [] = ap (drop (suc a)) (take-nil (suc a + n)) ∙ sym (take-nil n)
run_is_slice (suc a) n (x ∷ s) =
    let e : suc a + n ≡ suc (a + n) = omega arith in
    ap (λ (k : ℕ). drop (suc a) (take k (x ∷ s))) e ∙ run_is_slice a n s

pub slice_append : (a b c : ℕ) (w : List ℕ) → a ≤ b → b ≤ c → c ≤ length w → slice a b w ++ slice b c w ≡ slice a c w
slice_append a b c w h k l =
    sym
    (ap (drop a) (sym (take-append-drop b (take c w)) ∙ ap (λ (p : List ℕ). p ++ slice b c w) (take-take b c w k))
    ∙ drop-append-le a (take b w) (slice b c w) (omega (arith, length-take b w)))

-- the first cell of a part
pub slice_next : (a k n : ℕ) (w : List ℕ) → k < n → a + n ≤ length w → slice (a + k) (a + n) w ≡ get_or w (a + k) 0 ∷ slice (a + (k + 1)) (a + n) w
slice_next a k n w h l =
    let e : suc (a + k) ≡ a + (k + 1) = omega arith in
    slice-cons (a + k) (a + n) w 0 (omega arith) l ∙ ap (λ (i : ℕ). get_or w (a + k) 0 ∷ slice i (a + n) w) e

-- and the last
pub slice_snoc : (a k : ℕ) (w : List ℕ) → a + k < length w → slice a (a + (k + 1)) w ≡ slice a (a + k) w ++ (get_or w (a + k) 0 ∷ [])
slice_snoc a k w l =
    sym (slice_append a (a + k) (a + (k + 1)) w (omega arith) (omega arith) (omega arith))
    ∙ ap (λ (p : List ℕ). slice a (a + k) w ++ p)
    (slice_next a k (k + 1) w (omega arith) (omega arith) ∙ ap (λ (p : List ℕ). get_or w (a + k) 0 ∷ p) (slice_empty (a + (k + 1)) w))

-- a part of a part
pub slice_slice : (a e : ℕ) (l : List ℕ) (b n : ℕ) → a + (b + n) ≤ e → slice b (b + n) (slice a e l) ≡ slice (a + b) (a + b + n) l
slice_slice a e l b n h =
    ap (drop b) (sym (run_is_slice a (b + n) (take e l)) ∙ ap (drop a) (take-take (a + (b + n)) e l h))
    ∙ drop-drop b a (take (a + (b + n)) l)
    ∙ ap (λ (k : ℕ). drop (a + b) (take k l)) (sym (add_assoc a b n))

-- ---- parts of two stores

-- where a part is the same, so is each part of it
pub slice_inside : (w w' : List ℕ) (a b c d : ℕ) → slice a b w' ≡ slice a b w → a ≤ c → c ≤ d → d ≤ b → slice c d w' ≡ slice c d w
slice_inside w w' a b c d e h k l = cut w' ∙ ap (λ (p : List ℕ). take (d - c) (drop (c - a) p)) e ∙ sym (cut w)
  where
    cut : (s : List ℕ) → slice c d s ≡ take (d - c) (drop (c - a) (slice a b s))
    cut s =
        let p : d ≡ c + (d - c) = omega arith in
        let q : a + (c - a) ≡ c = omega arith in
        ap (drop c) (sym (take-take d b s l))
        ∙ ap (λ (k : ℕ). slice c k (take b s)) p
        ∙ run_is_slice c (d - c) (take b s)
        ∙ ap (take (d - c)) (sym (drop-drop (c - a) a (take b s) ∙ ap (λ (k : ℕ). drop k (take b s)) q))

-- a part outside of what was written
pub slice_outside : {from end : ℕ} {w w' : List ℕ} (a b : ℕ) → Outside from end w w' → (b ≤ from) ⊎ (end ≤ a) → slice a b w' ≡ slice a b w
slice_outside {w = w} {w'} a b p h =
    ext_get_or 0 (slice a b w') (slice a b w) (long w' ∙ ap (λ (k : ℕ). min b k - a) p.long ∙ sym (long w))
    λ i l.
    let k : a + i < b = omega (arith, long w') in
    read w' i k ∙ p.same (a + i) (⊎_elim (λ f. inl (omega arith)) (λ f. inr (omega arith)) h) ∙ sym (read w i k)
  where
    long : (s : List ℕ) → length (slice a b s) ≡ min b (length s) - a
    long s = length-drop a (take b s) ∙ ap (λ (k : ℕ). k - a) (length-take b s)

    read : (s : List ℕ) (i : ℕ) → a + i < b → get_or (slice a b s) i 0 ≡ get_or s (a + i) 0
    read s i l = get_or-drop a (take b s) i 0 ∙ get_or-take b s (a + i) 0 l

-- one cell written behind a part
pub slice_set : (a k x : ℕ) (w : List ℕ) → a + k < length w → slice a (a + (k + 1)) (set w (a + k) x) ≡ slice a (a + k) w ++ (x ∷ [])
slice_set a k x w l =
    slice_snoc a k (set w (a + k) x) (omega (arith, length-set w (a + k) x))
    ∙ ap₂ (λ (p : List ℕ) (y : ℕ). p ++ (y ∷ [])) (slice_outside a (a + k) (outside_sets w (x ∷ []) (a + k)) (inl (omega arith))) (get_or-set_same w (a + k) x 0 l)

pub slice_put : (a k x : ℕ) (w l : List ℕ) → a + k < length w → slice a (a + k) w ++ (x ∷ l) ≡ slice a (a + (k + 1)) (set w (a + k) x) ++ l
slice_put a k x w l h = sym (append_assoc (slice a (a + k) w) (x ∷ []) l) ∙ ap (λ (p : List ℕ). p ++ l) (sym (slice_set a k x w h))
