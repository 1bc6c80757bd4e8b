-- Laws: identical sides, and identical expressions where they lie.
use mathlib.Core.Path.{◌≡◌, refl, sym, ap, ◌∙◌}
use mathlib.Core.Bool.{Bool, true, false}
use mathlib.Core.List.{List, [], ◌++◌}
use Prim.Native.Nat.{ℕ, ◌+◌, ◌-◌, ◌≤◌, ◌<◌}
use native.Mathlib.Decide.{dec_lt}
use native.Mathlib.Omega.{arith}
use lib.ListN.{length, get_or}
use lib.Seq.{ext_get_or}
use Rattle.aut68.specs.Expr.{Expr, size, cells, identical}
use Rattle.calculus.specs.Shapes.{identical_same}
use Rattle.cells.specs.Cells.{At, Wf, AnyVariable, parts_after, same_cells}
use Rattle.cells.specs.Forests.{Pending, pending_one, pending_long, pending_ends, pass_cell, at_inside, cells_unique}
use Rattle.sides.specs.Sides.{identical_self, same_cells_identical}
use Rattle.sides.specs.Posts.{SaysIdentical, SaysSame}
use Rattle.sides.proofs.Places.{at_cell}

-- sides that differ
identical_not : (e f : Expr) → (e ≡ f → ⊥) → identical e f ≡ false
identical_not e f d = go (identical e f) refl
  where
    go : (t : Bool) → identical e f ≡ t → identical e f ≡ false
    go true q = absurd (d (identical_same e f q))
    go false q = q

-- of other sizes
pub other_sizes : {w : List ℕ} {l n r m : ℕ} → (n ≡ m → ⊥) → SaysIdentical w l n r m false
other_sizes d = record { means = λ tb e f re rf we wf p q a b. sym (identical_not e f λ x. d (p ∙ ap size x ∙ sym q)) }

-- of one size
pub of_one_size : {w : List ℕ} {l n r m : ℕ} {answer : Bool} → n ≡ m → answer ≡ same_cells w l r n → SaysIdentical w l n r m answer
of_one_size z h = record { means = λ tb e f re rf we wf p q a b. h ∙ same_cells_identical tb e f we wf (sym p) (sym q ∙ sym z) a b }

-- ---- where they lie

-- the cells from a up to i are those from b up to j, and of either expression as many parts are pending behind them
pub record Agree (tb w : List ℕ) (a b i j pending : ℕ) : Type 0 where
  pub same : (k : ℕ) → a + k < i → get_or w (a + k) 0 ≡ get_or w (b + k) 0
  pub first : (e : Expr) (rest : List ℕ) → Wf tb e → At w a (cells e) rest → Pending AnyVariable tb w i pending rest
  pub second : (f : Expr) (rest : List ℕ) → Wf tb f → At w b (cells f) rest → Pending AnyVariable tb w j pending rest

pub agree_none : {tb w : List ℕ} {a b : ℕ} → Agree tb w a b a b 1
agree_none = record {
  same = λ k h. absurd (omega arith);
  first = λ e rest we p. pending_one e we p;
  second = λ f rest wf p. pending_one f wf p;
}

module _ {tb w : List ℕ} {a b i j pending : ℕ} (begun : a ≤ i) (together : j + a ≡ i + b) (A : Agree tb w a b i j pending) where
  -- one cell more
  pub agree_more : 0 < pending → get_or w i 0 ≡ get_or w j 0 → {n : ℕ} → n ≡ parts_after tb (get_or w i 0) → Agree tb w a b (i + 1) (j + 1) (pending - 1 + n)
  agree_more pos q {n} c = record {
    same = λ k h. go k h (dec_lt (a + k) i);
    first = λ e rest we p. rw c (pass_cell pos (A.first e rest we p));
    second = λ f rest wf p. rw (c, q) (pass_cell pos (A.second f rest wf p));
  }
    where
      go : (k : ℕ) → a + k < i + 1 → Dec (a + k < i) → get_or w (a + k) 0 ≡ get_or w (b + k) 0
      go k h (yes l) = A.same k l
      go k h (no l) =
          let x : a + k ≡ i = omega arith in
          let y : b + k ≡ j = omega arith in
          rw (x, y) q

  -- one of them would end past the store
  pub past_end : 0 < pending → (i < length w → j < length w → length w - i < pending) → SaysSame tb w a b false
  past_end pos h = record {
    means = λ e f re rf we wf p q.
        let x : pending ≤ length w - i = omega (arith, pending_long (A.first e re we p)) in
        let y : pending ≤ length w - j = omega (arith, pending_long (A.second f rf wf q)) in
        absurd (omega (arith, h (omega arith) (omega arith)));
  }

  -- two cells differ
  pub cells_differ : 0 < pending → (get_or w i 0 ≡ get_or w j 0 → ⊥) → SaysSame tb w a b false
  cells_differ pos d = record { means = λ e f re rf we wf p q. sym (identical_not e f λ x. d (go e f re rf we p q x)) }
    where
      go : (e f : Expr) (re rf : List ℕ) → Wf tb e → At w a (cells e) re → At w b (cells f) rf → e ≡ f → get_or w i 0 ≡ get_or w j 0
      go e f re rf we p q x =
          let k : ℕ = i - a in
          let l : k < length (cells e) = omega (arith, pending_long (A.first e re we p), at_inside e p) in
          let y : a + k ≡ i = omega arith in
          let z : b + k ≡ j = omega arith in
          ap (λ (o : ℕ). get_or w o 0) (sym y)
          ∙ at_cell p k l
          ∙ ap (λ (g : Expr). get_or (cells g) k 0) x
          ∙ sym (at_cell q k (omega (arith, ap (λ (g : Expr). length (cells g)) x)))
          ∙ ap (λ (o : ℕ). get_or w o 0) z

  -- nothing is pending
  pub cells_agree : pending ≡ 0 → i ≤ length w → j ≤ length w → SaysSame tb w a b true
  cells_agree z h k = record {
    means = λ e f re rf we wf p q.
        let x : e ≡ f = (cells_unique AnyVariable AnyVariable tb e f [] [] we wf (ap (λ (l : List ℕ). l ++ []) (all e f re rf we wf p q))).0 in
        sym (ap (identical e) (sym x) ∙ identical_self e);
  }
    where
      all : (e f : Expr) (re rf : List ℕ) → Wf tb e → Wf tb f → At w a (cells e) re → At w b (cells f) rf → cells e ≡ cells f
      all e f re rf we wf p q =
          let x : i ≡ a + length (cells e) = pending_ends h (omega arith) p (rw z at (A.first e re we p)) in
          let y : j ≡ b + length (cells f) = pending_ends k (omega arith) q (rw z at (A.second f rf wf q)) in
          ext_get_or 0 (cells e) (cells f) (omega arith) λ o l. sym (at_cell p o l) ∙ A.same o (omega arith) ∙ at_cell q o (omega arith)
