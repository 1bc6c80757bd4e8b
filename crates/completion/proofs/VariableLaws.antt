-- Cells of the lines up from a line, the last first.
use mathlib.Core.Path.{◌≡◌, ap, ◌∙◌}
use mathlib.Core.List.{List, [], ◌∷◌}
use Prim.Native.Nat.{ℕ, zero, suc, ◌+◌, ◌≤◌}
use native.Mathlib.Omega.{arith}
use lib.ListN.{length, get_or, set}
use lib.Seq.{get_or-set_same, get_or-set_other}
use Rattle.cells.specs.Stores.{outside_same, outside_then, outside_more, outside_sets}
use Rattle.completion.specs.Posts.{line_up, LineUp, VariableCell, VariablesPut}

pub variables_none : {tb w : List ℕ} {from n last : ℕ} → n ≡ 0 → VariablesPut tb w w from n last
variables_none z = record { kept = outside_same; put = λ i j e. absurd (omega arith) }

pub variables_all : {tb w w' : List ℕ} {from at n m last : ℕ} → VariablesPut tb w w' at m last → at ≡ from → m ≡ n → VariablesPut tb w w' from n last
variables_all h e q = rw (e, q) at h

-- one cell more
module _ {tb w₀ w : List ℕ} {from at n m last c x : ℕ} (h : VariablesPut tb w₀ w from n last) (e : from ≡ suc at) (q : m ≡ suc n) (room : from + n ≤ length w₀)
    (u : LineUp tb last n c) (v : VariableCell c x) where
  pub variables_more : VariablesPut tb w₀ (set w at x) at m last
  variables_more =
      record {
        kept = outside_then (outside_more (omega arith) (omega arith) h.kept) (outside_more (omega arith) (omega arith) (outside_sets w (x ∷ []) at));
        put = go;
      }
    where
      here : get_or (set w at x) (at + 0) 0 ≡ x
      here = ap (λ a. get_or (set w at x) a 0) {y = at} (omega arith) ∙ get_or-set_same w at x 0 (omega (arith, h.kept.long))

      there : (i : ℕ) → get_or (set w at x) (at + suc i) 0 ≡ get_or w (from + i) 0
      there i = get_or-set_other w at (at + suc i) x 0 (λ b. omega arith) ∙ ap (λ a. get_or w a 0) {y = from + i} (omega arith)

      go : (i j : ℕ) → i + suc j ≡ m → VariableCell (line_up tb last j) (get_or (set w at x) (at + i) 0)
      go zero j z =
          let r : j ≡ n = omega arith in
          rw (here, r, ← u.is) v
      go (suc i) j z = rw (there i) (h.put i j (omega arith))
