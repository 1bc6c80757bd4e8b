-- A string read from the left: the expressions still to come, by the number of bindings around each.
use Rattle.std.specs.Prelude.{◌≡◌, true, false, List, [], ◌∷◌, ◌++◌, ℕ, zero, suc, ◌+◌, ◌*◌, ◌%◌, ◌<◌, eqb, get_or, replicate}
use Rattle.aut68.specs.Sizes.{cell_factor}
use Rattle.aut68.specs.Lines.{Lines}
use Rattle.aut68.specs.Rules.Resolved.{VariableLine, ConstantOf}
use Rattle.cells.specs.Cells.{parts_after}

-- the parts of the cell x, which stands under k bindings: an abstraction's body stands under one more
unfoldable pub part_levels : List ℕ → ℕ → ℕ → List ℕ
part_levels tb k x = elim (eqb (x % cell_factor) 5) [ true ↦ k ∷ suc k ∷ [] | false ↦ replicate (parts_after tb x) k ]

-- what is to come behind the cell x: its parts for itself
unfoldable pub levels_past : List ℕ → ℕ → List ℕ → List ℕ
levels_past tb x [] = []
levels_past tb x (k ∷ ks) = part_levels tb k x ++ ks

-- what is to come at index i of s; at its start one expression, outside every binding
unfoldable pub levels_at : List ℕ → List ℕ → ℕ → List ℕ
levels_at tb s zero = 0 ∷ []
levels_at tb s (suc i) = levels_past tb (get_or s i 0) (levels_at tb s i)

-- the cell x is right over the lines ls, under k bindings
pub data RightCell (ls : Lines) (k x : ℕ) : Type 0 where
  a_variable : (v : ℕ) → x ≡ cell_factor * v + 1 → VariableLine ls v → RightCell ls k x
  a_bound : (i : ℕ) → x ≡ cell_factor * i + 2 → i < k → RightCell ls k x
  a_constant : (v n : ℕ) → x ≡ cell_factor * v + 3 → ConstantOf ls v n → RightCell ls k x
  an_application : x ≡ 4 → RightCell ls k x
  an_abstraction : x ≡ 5 → RightCell ls k x

-- s has right cells for all that is to come, and no other
unfoldable pub Holds : Lines → List ℕ → List ℕ → List ℕ → Type 0
Holds ls tb ks [] = ks ≡ []
Holds ls tb [] (x ∷ s) = ⊥
Holds ls tb (k ∷ ks) (x ∷ s) = RightCell ls k x × Holds ls tb (part_levels tb k x ++ ks) s
