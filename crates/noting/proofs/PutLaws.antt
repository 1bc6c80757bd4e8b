-- Cells that are put.
use mathlib.Core.Path.{◌≡◌, subst}
use mathlib.Core.Logic.{⊎_elim}
use mathlib.Core.List.{List}
use Prim.Native.Nat.{ℕ, ◌+◌, ◌/◌, ◌≤◌, ◌<◌}
use native.Mathlib.Omega.{arith}
use lib.ListN.{length, set, length-set}
use lib.Seq.{get_or-set_same, get_or-set_other}
use Rattle.cells.specs.Cells.{Outside}
use Rattle.noting.specs.Posts.{Put}

pub put_set : (w : List ℕ) (i x : ℕ) → Put (length w) i x w (set w (length w / 2 + i) x)
put_set w i x =
    record {
      long = length-set w (length w / 2 + i) x;
      others = λ j n. get_or-set_other w (length w / 2 + i) j x 0 n;
      is = λ l b. get_or-set_same w (length w / 2 + i) x 0 l;
    }

-- in the same store, under another name
pub put_as : {n m i j x : ℕ} {w w' : List ℕ} → n ≡ m → i ≡ j → Put n i x w w' → Put m j x w w'
put_as {n} {m} {i} {j} {x} {w} {w'} e f h = subst (λ (k : ℕ). Put m k x w w') f (subst (λ (k : ℕ). Put k i x w w') e h)

pub put_outside : {n i x from end : ℕ} {w w' : List ℕ} → from ≤ n / 2 + i → n / 2 + i < end → Put n i x w w' → Outside from end w w'
put_outside a b h = record { long = h.long; same = λ j k. h.others j (λ e. ⊎_elim (λ l. omega arith) (λ l. omega arith) k) }
