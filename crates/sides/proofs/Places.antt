-- Laws: where cells lie in a store that is changed elsewhere, or cut off.
use mathlib.Core.Path.{◌≡◌, sym, ap, ◌∙◌}
use mathlib.Core.List.{List}
use Prim.Native.Nat.{ℕ, ◌+◌, ◌≤◌, ◌<◌}
use native.Mathlib.Omega.{arith}
use lib.ListN.{length, get_or, take, drop, length-take, length-drop}
use lib.Seq.{get_or-take, get_or-drop, ext_get_or, length-take-le}
use Rattle.aut68.specs.Expr.{Expr, cells}
use Rattle.cells.specs.Cells.{At}
use Rattle.cells.specs.Forests.{at_inside}
use Rattle.cells.specs.Stores.{at_taken, at_of_taken}

-- the cells themselves, one by one
pub at_cell : {s : List ℕ} {i : ℕ} {xs rest : List ℕ} → At s i xs rest → (j : ℕ) → j < length xs → get_or s (i + j) 0 ≡ get_or xs j 0
at_cell {s} {i} {xs} a j h = sym (get_or-drop i s j 0) ∙ sym (get_or-take (length xs) (drop i s) j 0 h) ∙ ap (λ (l : List ℕ). get_or l j 0) (at_taken a)

-- they lie in any store that agrees with the first where they lie
pub at_agree : {s s' : List ℕ} {i : ℕ} {xs rest : List ℕ} → At s i xs rest → i + length xs ≤ length s'
    → ((j : ℕ) → i ≤ j → j < i + length xs → get_or s' j 0 ≡ get_or s j 0) → At s' i xs (drop (i + length xs) s')
at_agree {s} {s'} {i} {xs} a h same =
    at_of_taken s' i (length xs) xs
    (ext_get_or 0 (take (length xs) (drop i s')) xs long λ j l.
    let k : j < length xs = omega (arith, long) in
    get_or-take (length xs) (drop i s') j 0 k ∙ get_or-drop i s' j 0 ∙ same (i + j) (omega arith) (omega arith) ∙ at_cell a j k)
  where
    long : length (take (length xs) (drop i s')) ≡ length xs
    long = length-take-le (length xs) (drop i s') (omega (arith, length-drop i s'))

-- an expression in the first n cells lies in the whole store
pub at_whole : (s : List ℕ) (n : ℕ) {i : ℕ} (e : Expr) {rest : List ℕ} → At (take n s) i (cells e) rest → At s i (cells e) (drop (i + length (cells e)) s)
at_whole s n e a =
    at_agree a (omega (arith, at_inside e a, length-take n s)) λ j p q. sym (get_or-take n s j 0 (omega (arith, at_inside e a, length-take n s)))

-- it ends before the cut
pub at_under : (s : List ℕ) (n : ℕ) {i : ℕ} (e : Expr) {rest : List ℕ} → At (take n s) i (cells e) rest → i + length (cells e) ≤ n
at_under s n e a = omega (arith, at_inside e a, length-take n s)
