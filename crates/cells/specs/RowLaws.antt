-- Laws: the cells of a row, the parts that follow a cell, and where a forest ends.
use Rattle.std.specs.Prelude.{◌≡◌, ◌⊎◌, List, ℕ, suc, ◌+◌, ◌*◌, ◌-◌, ◌/◌, ◌%◌, ◌≤◌, length, get_or}
use Rattle.std.proofs.Common.{sym, ap, ◌∙◌, ⊎_elim, arith, length-drop, eq-eqb, ne_eqb}
use Rattle.std.proofs.Math.ListN.{get_or-eq_default}
use Rattle.aut68.specs.Lines.{row_cell}
use Rattle.aut68.specs.Sizes.{cell_factor, row_width, at_context}
use Rattle.aut68.specs.Expr.{Exprs, cellss}
use Rattle.cells.specs.Cells.{parts_after, At}
use Rattle.cells.specs.Forests.{Pending, pending_none, at_length}

-- line 0 has no row
pub row_cell_of_none : (tb : List ℕ) (v k : ℕ) → v ≡ 0 → row_cell tb v k ≡ 0
unfolding row_cell
row_cell_of_none tb v k e = rw (eq-eqb v 0 e, row_cell)

pub row_cell_is : (tb : List ℕ) (v k : ℕ) → (v ≡ 0 → ⊥) → row_cell tb v k ≡ get_or tb (row_width * v + k - row_width) 0
unfolding row_cell
row_cell_is tb v k n = rw (ne_eqb v 0 n, row_cell)

-- a cell of the row behind the first n rows
pub row_cell_behind : (tb : List ℕ) (n k : ℕ) → row_cell tb (suc n) k ≡ get_or tb (row_width * n + k) 0
row_cell_behind tb n k =
    let e : row_width * suc n + k - row_width ≡ row_width * n + k = omega arith in
    row_cell_is tb (suc n) k (λ z. omega arith) ∙ ap (λ (i : ℕ). get_or tb i 0) e

-- a row past the end of the table has no cell
pub row_cell_past : (tb : List ℕ) (v k : ℕ) → (v ≡ 0 → ⊥) → length tb ≤ row_width * v + k - row_width → row_cell tb v k ≡ 0
row_cell_past tb v k n h = row_cell_is tb v k n ∙ get_or-eq_default tb 0 h

pub parts_after_constant : (tb : List ℕ) (x : ℕ) → x % cell_factor ≡ 3 → parts_after tb x ≡ row_cell tb (x / cell_factor) at_context
unfolding parts_after
parts_after_constant tb x e = rw (eq-eqb (x % cell_factor) 3 e, parts_after)

pub parts_after_application : (tb : List ℕ) (x : ℕ) → x % cell_factor ≡ 4 → parts_after tb x ≡ 2
unfolding parts_after
parts_after_application tb x e = rw (ne_eqb (x % cell_factor) 3 (λ q. omega arith), eq-eqb (x % cell_factor) 4 e, parts_after)

pub parts_after_abstraction : (tb : List ℕ) (x : ℕ) → x % cell_factor ≡ 5 → parts_after tb x ≡ 2
unfolding parts_after
parts_after_abstraction tb x e =
    rw (ne_eqb (x % cell_factor) 3 (λ q. omega arith), ne_eqb (x % cell_factor) 4 (λ q. omega arith), eq-eqb (x % cell_factor) 5 e, parts_after)

pub parts_after_other : (tb : List ℕ) (x : ℕ) → (x % cell_factor ≡ 3 → ⊥) → (x % cell_factor ≡ 4 → ⊥) → (x % cell_factor ≡ 5 → ⊥) → parts_after tb x ≡ 0
unfolding parts_after
parts_after_other tb x a b d = rw (ne_eqb (x % cell_factor) 3 a, ne_eqb (x % cell_factor) 4 b, ne_eqb (x % cell_factor) 5 d, parts_after)

-- a forest that began at `start`, which may lie past the end of the store
pub pending_end : {X : ℕ → Type 0} {tb s : List ℕ} {start i n : ℕ} {rest : List ℕ} (es : Exprs) → start ≤ i → (i ≤ length s) ⊎ (i ≡ start) → n ≡ 0
    → At s start (cellss es) rest → Pending X tb s i n rest → i ≡ start + length (cellss es)
pending_end {s = s} {i = i} {rest = rest} es l h z a p =
    let e : length s - i ≡ length rest = sym (length-drop i s) ∙ ap length (pending_none (rw z at p)) in
    ⊎_elim (λ k. omega (arith, at_length a)) (λ k. omega (arith, at_length a)) h
