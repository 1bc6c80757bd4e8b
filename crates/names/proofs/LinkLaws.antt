-- Heads of chains, and links in rows.
use mathlib.Core.Path.{◌≡◌, refl, sym, ap, ◌∙◌}
use mathlib.Core.List.{List}
use Prim.Native.Nat.{ℕ, suc, ◌+◌, ◌*◌, ◌/◌, ◌%◌, ◌≤◌, ◌<◌}
use native.Mathlib.Numerals.{add-one}
use lib.ListN.{length, get_or, set, length-set, get_or-eq_default}
use Rattle.aut68.specs.Lines.{row_cell}
use Rattle.aut68.specs.Sizes.{cell_values, line_limit, row_width, at_name_length}
use Rattle.cells.specs.Links.{link_factor, link_of, link_at, link_row, unlink_row, unlinked}
use Rattle.names.specs.Hints.{slot_at}
use Rattle.names.specs.Posts.{HeadPost, LinkPost}

pub link_is_lem : (tb : List ℕ) (v : ℕ) {size : ℕ} → size ≡ row_cell tb v at_name_length → size / link_factor ≡ link_of tb v
unfolding link_of
link_is_lem tb v e = ap (λ (x : ℕ). x / link_factor) e

-- ---- heads

pub head_is_lem : (w : List ℕ) (h q : ℕ) {at r : ℕ} → at ≡ slot_at (length w) h q → r ≡ get_or w at 0 → r ≡ get_or w (slot_at (length w) h q) 0
head_is_lem w h q e s = s ∙ ap (λ (k : ℕ). get_or w k 0) e

pub head_past : (w : List ℕ) (h q : ℕ) {at : ℕ} → at ≡ slot_at (length w) h q → length w ≤ at → 0 ≡ get_or w (slot_at (length w) h q) 0
head_past w h q {at} e l = head_is_lem w h q e (sym (get_or-eq_default w 0 l))

pub no_head : {w : List ℕ} {h q v r : ℕ} → (slot_at (length w) h q < length w → v < cell_values → ⊥) → HeadPost w w h q v r
no_head f = record { long = refl; was = λ i l. absurd (f i l); is = λ i l. absurd (f i l) }

pub head_put : {w w' : List ℕ} {h q v r at : ℕ} → at ≡ slot_at (length w) h q → r ≡ get_or w at 0 → w' ≡ set w at v → HeadPost w w' h q v r
head_put {w} {v = v} {at = at} e z s =
    record {
      long = ap length s ∙ length-set w at v;
      was = λ i l. z ∙ ap (λ (k : ℕ). get_or w k 0) e;
      is = λ i l. s ∙ ap (λ (k : ℕ). set w k v) e;
    }

-- ---- links

pub not_linked : {tb : List ℕ} {n h : ℕ} → (suc n < line_limit → h < line_limit → row_width * suc n ≤ length tb → get_or tb (link_at n) 0 < link_factor → ⊥) → LinkPost tb tb n h
not_linked f = record { long = refl; is = λ l k r s. absurd (f l k r s) }

pub row_linked : {tb tb' : List ℕ} {n h : ℕ} → tb' ≡ set tb (link_at n) (get_or tb (link_at n) 0 + link_factor * h) → LinkPost tb tb' n h
unfolding link_row
row_linked {tb} e = record { long = ap length e ∙ length-set tb _ _; is = λ l k r s. e }

pub unlinked_none : (tb : List ℕ) → tb ≡ unlinked 0 tb
unfolding unlinked
unlinked_none tb = refl

pub unlinked_turn : (tb tb₁ : List ℕ) (v at : ℕ) → at ≡ link_at v → tb₁ ≡ unlinked v tb → set tb₁ at (get_or tb₁ at 0 % link_factor) ≡ unlinked (v + 1) tb
unfolding unlinked unlink_row
unlinked_turn tb tb₁ v at e q =
    (λ i. set (q i) (e i) (get_or (q i) (e i) 0 % link_factor)) ∙ ap (λ (n : ℕ). unlinked n tb) (sym (add-one v))

pub unlinked_at : (tb tb₁ : List ℕ) (v n : ℕ) → v ≡ n → tb₁ ≡ unlinked v tb → tb₁ ≡ unlinked n tb
unlinked_at tb tb₁ v n e q = q ∙ ap (λ (k : ℕ). unlinked k tb) e
