-- Laws: runs of cells compared.
use Rattle.std.specs.Prelude.{◌≡◌, refl, Bool, true, false, List, [], ◌∷◌, ◌++◌, ℕ, ◌+◌, ◌-◌, ◌≤◌, ◌<◌, ◌&&◌, eqb, leb, length, get_or, take, drop}
use Rattle.std.proofs.Common.{sym, ap, ap₂, ◌∙◌, add-one, arith, length-drop, take-suc, get_or-take, get_or-drop}
use Rattle.std.proofs.lemmas.Bool.{false≢true}
use Rattle.std.proofs.Math.Seq.{slice}
use Rattle.std.specs.Cmp.Lexicographic.{pointwise}
use borrow.Author.Tests.{le-leb, lt-leb, leb-true, leb-false}
use Rattle.aut68.specs.Bytes.{same_bytes}
use Rattle.lookup.specs.SameBytes.{same_true, same_refl, same_of_ne}
use Rattle.aut68.specs.Expr.{Expr, size, cells}
use Rattle.cells.specs.Cells.{At, Wf, AnyVariable, same_run, same_cells}
use Rattle.cells.specs.Forests.{at_inside, size_is_length, cells_unique}
use Rattle.cells.specs.Stores.{at_taken}
use Rattle.cells.specs.Slices.{run_is_slice}
use Rattle.cells.specs.CopyLaws.{and_false}

pointwise_same : (xs ys : List ℕ) → pointwise eqb xs ys ≡ same_bytes xs ys
unfolding same_bytes
pointwise_same [] [] = refl
pointwise_same [] (y ∷ ys) = refl
pointwise_same (x ∷ xs) [] = refl
pointwise_same (x ∷ xs) (y ∷ ys) = go (eqb x y) (pointwise_same xs ys)
  where
    go : (t : Bool) → pointwise eqb xs ys ≡ same_bytes xs ys → (t && pointwise eqb xs ys) ≡ elim t [ true ↦ same_bytes xs ys | false ↦ false ]
    go true e = e
    go false e = refl

module _ (s : List ℕ) (a : ℕ) (f : List ℕ) (b n : ℕ) where
  pub same_whole : a + n ≤ length s → b + n ≤ length f → same_run s a f b n ≡ same_bytes (take n (drop a s)) (take n (drop b f))
  unfolding same_run
  same_whole h k = rw (le-leb _ _ h, le-leb _ _ k, same_run)

  pub same_no_first : length s < a + n → same_run s a f b n ≡ false
  unfolding same_run
  same_no_first h = rw (lt-leb _ _ h, same_run)

  pub same_no_second : length f < b + n → same_run s a f b n ≡ false
  unfolding same_run
  same_no_second h = rw (lt-leb (b + n) (length f) h, and_false (leb (a + n) (length s)), same_run)

  pub same_equal : a + n ≤ length s → b + n ≤ length f → take n (drop a s) ≡ take n (drop b f) → same_run s a f b n ≡ true
  same_equal h k e = same_whole h k ∙ ap (same_bytes (take n (drop a s))) (sym e) ∙ same_refl (take n (drop a s))

  -- two runs that are whole, compared by `==`
  pub same_slices : a + n ≤ length s → b + n ≤ length f → pointwise eqb (take (a + n - a) (drop a s)) (take (b + n - b) (drop b f)) ≡ same_run s a f b n
  same_slices h k =
      pointwise_same (take (a + n - a) (drop a s)) (take (b + n - b) (drop b f))
      ∙ ap₂ (λ (i j : ℕ). same_bytes (take i (drop a s)) (take j (drop b f))) (omega arith) (omega arith)
      ∙ sym (same_whole h k)

  -- the end of a loop that compares
  pub same_end : {i : ℕ} → i ≤ n → n ≤ i → a + n ≤ length s → b + n ≤ length f → take i (drop a s) ≡ take i (drop b f) → same_run s a f b n ≡ true
  same_end {i} l g h k e =
      let q : n ≡ i = omega arith in
      same_equal h k (ap (λ (m : ℕ). take m (drop a s)) q ∙ e ∙ ap (λ (m : ℕ). take m (drop b f)) (sym q))

  pub same_differ : a + n ≤ length s → b + n ≤ length f → (i : ℕ) → i < n → (get_or s (a + i) 0 ≡ get_or f (b + i) 0 → ⊥) → same_run s a f b n ≡ false
  same_differ h k i l d =
      same_whole h k
      ∙ same_of_ne _ _ λ e. d
      (sym (get_or-take n (drop a s) i 0 l ∙ get_or-drop a s i 0)
      ∙ ap (λ (m : List ℕ). get_or m i 0) e
      ∙ get_or-take n (drop b f) i 0 l ∙ get_or-drop b f i 0)

  -- one equal cell more
  pub equal_more_lem : a + n < length s → b + n < length f → take n (drop a s) ≡ take n (drop b f) → get_or s (a + n) 0 ≡ get_or f (b + n) 0
      → take (n + 1) (drop a s) ≡ take (n + 1) (drop b f)
  equal_more_lem h k e d =
      ap (λ (m : ℕ). take m (drop a s)) (add-one n)
      ∙ take-suc (drop a s) n 0 (omega (arith, length-drop a s))
      ∙ ap₂ (λ (l : List ℕ) (x : ℕ). l ++ (x ∷ [])) e (get_or-drop a s n 0 ∙ d ∙ sym (get_or-drop b f n 0))
      ∙ sym (take-suc (drop b f) n 0 (omega (arith, length-drop b f)))
      ∙ ap (λ (m : ℕ). take m (drop b f)) (sym (add-one n))

  -- what it says: both runs are whole and have the same cells, or they have not
  pub same_run_means : same_run s a f b n ≡ true
      → (a + n ≤ length s) × (b + n ≤ length f) × (slice a (a + n) s ≡ slice b (b + n) f)
  same_run_means = go (leb (a + n) (length s)) (leb (b + n) (length f)) refl refl
    where
      go : (t u : Bool) → leb (a + n) (length s) ≡ t → leb (b + n) (length f) ≡ u → same_run s a f b n ≡ true
          → (a + n ≤ length s) × (b + n ≤ length f) × (slice a (a + n) s ≡ slice b (b + n) f)
      go false u p q e = absurd (false≢true (sym (same_no_first (leb-false _ _ p)) ∙ e))
      go true false p q e = absurd (false≢true (sym (same_no_second (leb-false _ _ q)) ∙ e))
      go true true p q e =
          let h = leb-true (a + n) (length s) p in
          let k = leb-true (b + n) (length f) q in
          (h, k, run_is_slice a n s ∙ same_true _ _ (sym (same_whole h k) ∙ e) ∙ sym (run_is_slice b n f))

-- two expressions of n cells in one store are the same expression exactly where their cells are
module _ (tb : List ℕ) {w : List ℕ} {a b : ℕ} (e f : Expr) {n : ℕ} {ra rb : List ℕ} (wa : Wf tb e) (wb : Wf tb f) (sa : size e ≡ n) (sb : size f ≡ n)
    (pa : At w a (cells e) ra) (pb : At w b (cells f) rb) where
  first_cells : take n (drop a w) ≡ cells e
  first_cells = ap (λ (k : ℕ). take k (drop a w)) (sym sa ∙ size_is_length e) ∙ at_taken pa

  second_cells : take n (drop b w) ≡ cells f
  second_cells = ap (λ (k : ℕ). take k (drop b w)) (sym sb ∙ size_is_length f) ∙ at_taken pb

  both_whole : (a + n ≤ length w) × (b + n ≤ length w)
  both_whole = (omega (arith, at_inside e pa, size_is_length e), omega (arith, at_inside f pb, size_is_length f))

  pub same_cells_same : e ≡ f → same_cells w a b n ≡ true
  same_cells_same q = same_equal w a w b n both_whole.0 both_whole.1 (first_cells ∙ ap cells q ∙ sym second_cells)

  pub same_cells_differ : (e ≡ f → ⊥) → same_cells w a b n ≡ false
  same_cells_differ d =
      same_whole w a w b n both_whole.0 both_whole.1
      ∙ same_of_ne _ _ λ q.
      d (cells_unique AnyVariable AnyVariable tb e f [] [] wa wb (ap (λ (l : List ℕ). l ++ []) (sym first_cells ∙ q ∙ second_cells))).0
