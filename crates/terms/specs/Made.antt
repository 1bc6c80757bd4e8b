-- What lifting, substitution and instantiation answer and write.
use Rattle.std.specs.Prelude.{◌≡◌, ◌⊎◌, Bool, true, List, ℕ, zero, suc, ◌+◌, ◌≤◌, ◌<◌, length, get_or, take, None, Some, ⊤}
use Rattle.std.proofs.Math.Option.{Option, none, some}
use Rattle.std.specs.Prelude as Code
use Rattle.std.proofs.lemmas.List.Edits.{sets}
use Rattle.std.proofs.Math.Seq.{slice}
use Rattle.aut68.specs.Lines.{row_cell}
use Rattle.aut68.specs.Sizes.{cell_values, at_context}
use Rattle.aut68.specs.Expr.{Expr, Exprs, nil, cons, size, cells, cellss, count_exprs}
use Rattle.aut68.specs.Substitution.{lift, substitute, argument_for, instantiate}
use Rattle.cells.specs.Cells.{Formed, RightCount, Wf, Wfs, At, Below, Outside}

-- What None stands for, a result with more cells than its room: more than any limit.
unfoldable pub no_room : ℕ
no_room = cell_values

-- the size that the code answers
abbrev pub size_in : Code.Option ℕ → ℕ
size_in None = no_room
size_in (Some n) = n

-- which is at most the room
abbrev pub WithinRoom : ℕ → Code.Option ℕ → Type 0
WithinRoom room None = ⊤
WithinRoom room (Some n) = n ≤ room

-- A result made from index `to` on in at most `room` cells: the answer r is its size, or no_room exactly where it has more
-- cells than the room; its cells are written as far as the room goes, and every other cell is as it was.
pub record Made (room : ℕ) (e : Expr) (r to : ℕ) (w w' : List ℕ) : Type 0 where
  pub fits : size e ≤ room → r ≡ size e
  pub large : room < size e → r ≡ no_room
  pub cells_are : w' ≡ sets w to (take room (cells e))

-- argument i of a string, the first being 0
unfoldable pub argument_at : Exprs → ℕ → Option Expr
argument_at nil i = none
argument_at (cons a xs) zero = some a
argument_at (cons a xs) (suc i) = argument_at xs i

-- the argument of the variable of line v is the one whose number is the context length on v's row
abbrev pub Numbered : List ℕ → List ℕ → Exprs → ℕ → Type 0
Numbered tb vs xs v = argument_for v vs xs ≡ argument_at xs (row_cell tb v at_context)

-- whatever the cells are: no cell outside the room is changed, and the answer is at most the room, or no_room
pub record Confined (w w' : List ℕ) (to room r : ℕ) : Type 0 where
  pub outside : Outside to (to + room) w w'
  pub answers : (r ≤ room) ⊎ (r ≡ no_room)

-- the expression at e, moved under d more bindings
pub record RaisePost (tb w w' : List ℕ) (e d to room r : ℕ) : Type 0 where
  pub confined : Confined w w' to room r
  pub made : (x : Expr) (rest : List ℕ) → to + room ≤ length w → Wf tb x → At (take to w) e (cells x) rest → Below cell_values (cells (lift d 0 x))
      → Made room (lift d 0 x) r to w w'

-- the expression at t, with the one at a for the variable of the binding just outside it
pub record SubstitutePost (tb w w' : List ℕ) (t a to room r : ℕ) : Type 0 where
  pub confined : Confined w w' to room r
  pub made : (x y : Expr) (rx ry : List ℕ) → to + room ≤ length w → Wf tb x → Wf tb y → At (take to w) t (cells x) rx → At (take to w) a (cells y) ry
      → Below cell_values (cells (substitute y 0 x)) → Made room (substitute y 0 x) r to w w'

-- ---- arguments put in for context variables

-- where argument i starts in the cells of a string; for i past the last one, where the string ends
unfoldable pub start_of : Exprs → ℕ → ℕ
start_of nil i = 0
start_of (cons a xs) zero = 0
start_of (cons a xs) (suc i) = size a + start_of xs i

-- starts has where the first n arguments start, and where the last of them ends: for the first 64 of these places
pub record StartedTo (n : ℕ) (xs : Exprs) (starts : List ℕ) : Type 0 where
  pub place : (i : ℕ) → i ≤ n → i < 64 → get_or starts i 0 ≡ start_of xs i

abbrev pub Started : Exprs → List ℕ → Type 0
Started xs starts = StartedTo (count_exprs xs) xs starts

-- the `count` arguments xs lie from index `base` of s on, and starts has where
pub record ArgumentsLie (tb s : List ℕ) (base count : ℕ) (starts : List ℕ) (xs : Exprs) : Type 0 where
  pub formed : Wfs tb xs
  pub counted : count_exprs xs ≡ count
  pub started : Started xs starts
  pub rest : List ℕ
  pub lies : At s base (cellss xs) rest

-- the expression at index e of s, with the arguments in w put in for the context variables, all at once
pub record InstantiatePost (tb s w w' : List ℕ) (e base count : ℕ) (starts : List ℕ) (to room r : ℕ) : Type 0 where
  pub confined : Confined w w' to room r
  pub made : (vs : List ℕ) (xs : Exprs) (x : Expr) (rx : List ℕ) → to + room ≤ length w → Formed (Numbered tb vs xs) (RightCount tb) x
      → ArgumentsLie tb (take to w) base count starts xs → At s e (cells x) rx → Below cell_values (cells (instantiate vs xs 0 x))
      → Made room (instantiate vs xs 0 x) r to w w'

-- `true` only if the n cells of f from index `at` on are those of the expression in the cells from..stop of s, with the
-- arguments in w put in
pub record InstancePost (tb s : List ℕ) (from stop : ℕ) (w : List ℕ) (base count : ℕ) (starts f : List ℕ) (at n : ℕ) (r : Bool) : Type 0 where
  pub is : r ≡ true → (vs : List ℕ) (xs : Exprs) (x : Expr) (rx : List ℕ) → Formed (Numbered tb vs xs) (RightCount tb) x
      → ArgumentsLie tb w base count starts xs → At s from (cells x) rx → stop ≡ from + size x
      → (at + n ≤ length f) × (slice at (at + n) f ≡ cells (instantiate vs xs 0 x))
