-- A pair of sides at one depth, and what is done with it.
use Rattle.std.specs.Prelude.{◌≡◌, Bool, true, false, Option, None, Some, Result, Ok, Err, ⊤, List, ℕ, ◌+◌, ◌*◌, ◌≤◌, ◌<◌, length, get_or, take}
use Rattle.aut68.specs.Sizes.{work_units, nesting}
use Rattle.aut68.specs.Language.{aut68}
use Rattle.aut68.specs.Expr.{Expr, size, cells, identical}
use Rattle.aut68.specs.Lines.{Lines}
use Rattle.aut68.specs.Procedure.Answer.{done, stop, too_large, out_of_budget}
use Rattle.aut68.specs.Procedure.Compare.{same, by_parts, next, Comparison, compare_parts, sides}
use Rattle.calculus.specs.Resolved.{KnownCategory}
use Rattle.constants.specs.declared.codes.Reason.{Reason}
use Rattle.constants.specs.declared.codes.Reason.TheVariants.{TooLarge, OutOfBudget}
use Rattle.cells.specs.Cells.{Wf, At, Outside, parts_after}
use Rattle.cells.specs.Layout.{unit_at, scratch_unit}
use Rattle.heads.specs.Book.{Book}
use Rattle.heads.specs.declared.heads.Head.{Head}
use Rattle.agreement.specs.Which.{Which, pick, step_in}
use Rattle.sides.specs.declared.sides.NextStep.{NextStep}
use Rattle.sides.specs.declared.sides.NextStep.TheVariants.{Left, Right}
use Rattle.sides.specs.declared.sides.Sizes.{Sizes}
use Rattle.sides.specs.declared.sides.Progress.{Progress}
use Rattle.sides.specs.declared.sides.Progress.TheVariants.{Stepped}
use Rattle.sides.specs.declared.sides.Progress.TheVariants as Progresses
use Rattle.sides.specs.declared.sides.Settled.{Settled}
use Rattle.sides.specs.declared.sides.Settled.TheVariants as SettledCases

-- ---- what the code answers

-- the side of the next step: 0 none, 1 the left, 2 the right
abbrev pub side_in : Option NextStep → ℕ
side_in None = 0
side_in (Some (Left h)) = 1
side_in (Some (Right h)) = 2

-- the next step is that side's
abbrev pub Takes : Option Head → Option Head → Option NextStep → Type 0
Takes first second None = ⊤
Takes first second (Some (Left h)) = first ≡ Some h
Takes first second (Some (Right h)) = second ≡ Some h

-- nothing was opened; else the sizes
abbrev pub same_in : Option Sizes → Bool
same_in None = true
same_in (Some o) = false

abbrev pub left_in : Option Sizes → ℕ
left_in None = 0
left_in (Some o) = o.left

abbrev pub right_in : Option Sizes → ℕ
right_in None = 0
right_in (Some o) = o.right

-- the shapes differ; else the number of parts
abbrev pub differ_in : Option ℕ → Bool
differ_in None = true
differ_in (Some n) = false

abbrev pub parts_in : Option ℕ → ℕ
parts_in None = 0
parts_in (Some n) = n

-- ---- two expressions in one store

-- e, known under k bindings and of at most `limit` cells, at index a of s
pub record Side (ls : Lines) (limit k : ℕ) (s : List ℕ) (a : ℕ) (e : Expr) : Type 0 where
  pub known : KnownCategory ls k e
  pub small : size e ≤ limit
  pub rest : List ℕ
  pub at : At s a (cells e) rest

-- e at index a and f at index b
pub record Pair (ls : Lines) (limit k : ℕ) (s : List ℕ) (a b : ℕ) (e f : Expr) : Type 0 where
  pub left : Side ls limit k s a e
  pub right : Side ls limit k s b f

-- the sides at l and r: two units, one behind the other, below the scratch unit of a store of n cells
pub record Placed (limit n l r : ℕ) : Type 0 where
  pub next : r ≡ l + limit
  pub below : r + limit ≤ unit_at limit scratch_unit
  pub long : work_units * limit ≤ n

-- ---- identical sides, and the choice of a side

-- the n cells at l and the m cells at r are one expression's
pub record SaysIdentical (w : List ℕ) (l n r m : ℕ) (answer : Bool) : Type 0 where
  pub means : (tb : List ℕ) (e f : Expr) (re rf : List ℕ) → Wf tb e → Wf tb f → n ≡ size e → m ≡ size f
      → At w l (cells e) re → At w r (cells f) rf → answer ≡ identical e f

-- the expressions at a and b are one
pub record SaysSame (tb w : List ℕ) (a b : ℕ) (answer : Bool) : Type 0 where
  pub means : (e f : Expr) (re rf : List ℕ) → Wf tb e → Wf tb f → At w a (cells e) re → At w b (cells f) rf → answer ≡ identical e f

-- The side of the next head step, by the kinds and lines of both (0 none, 1 a contraction, 2 an unfolding of that line): 0 no
-- side, 1 the left, 2 the right. A contraction before an unfolding; of two contractions the left; of two unfoldings the
-- constant of the larger line, the left if equal.
pub record Chooses (kind line kind' line' side : ℕ) : Type 0 where
  pub none : kind ≡ 0 → kind' ≡ 0 → side ≡ 0
  pub only_left : 0 < kind → kind' ≡ 0 → side ≡ 1
  pub only_right : kind ≡ 0 → 0 < kind' → side ≡ 2
  pub left_contraction : kind ≡ 1 → 0 < kind' → side ≡ 1
  pub right_contraction : kind ≡ 2 → kind' ≡ 1 → side ≡ 2
  pub left_larger : kind ≡ 2 → kind' ≡ 2 → line' ≤ line → side ≡ 1
  pub right_larger : kind ≡ 2 → kind' ≡ 2 → line < line' → side ≡ 2

-- ---- a pair opened

-- the expressions at a and b are one; else they were put at l and r, with the sizes n and m
pub record Opens (tb w : List ℕ) (a b l r : ℕ) (w' : List ℕ) (answer : Bool) (n m : ℕ) : Type 0 where
  pub frame : l ≤ r → Outside l (length w) w w'
  pub identically : answer ≡ true → (e f : Expr) (re rf : List ℕ) → Wf tb e → Wf tb f → At w a (cells e) re → At w b (cells f) rf → identical e f ≡ true
  pub opened : answer ≡ false → {ts : List ℕ} {limit : ℕ} (ls : Lines) (k : ℕ) (e f : Expr) → Book ls limit tb ts → Placed limit (length w) l r
      → Pair ls limit k (take l w) a b e f → Pair ls limit k w' l r e f × (n ≡ size e) × (m ≡ size f)

-- the shapes of the sides at l and r differ, or no side lies there; else each has so many parts
pub record SaysShapes (tb w : List ℕ) (l r : ℕ) (answer : Bool) (parts : ℕ) : Type 0 where
  pub differ : answer ≡ true → l < length w → r < length w → get_or w l 0 ≡ get_or w r 0 → ⊥
  pub match : answer ≡ false → (l < length w) × (r < length w) × (get_or w l 0 ≡ get_or w r 0) × (parts ≡ parts_after tb (get_or w l 0))

-- ---- one head step

-- By what comes next for the sides e and f, with the budget b: what was found, the budget b' left and the store w'. The sides are
-- identical; or no side has a head step; or a step was taken in one of them, and the sizes are what they are now. Else a refusal: the
-- step would leave a side too large, or is past the budget.
pub data Turned (ls : Lines) (limit k : ℕ) (w' : List ℕ) (l r : ℕ) (e f : Expr) (b : ℕ) (found : Result Progress Reason) (b' : ℕ) : Type 0 where
  identically : found ≡ Ok Progresses.Identical → b' ≡ b → next ls e f ≡ same → Turned ls limit k w' l r e f b found b'
  to_parts : found ≡ Ok Progresses.Normal → b' ≡ b → next ls e f ≡ by_parts → Pair ls limit k w' l r e f → Turned ls limit k w' l r e f b found b'
  onward : (s : Which) (g : Expr) → found ≡ Ok (Stepped (record { left = size (pick s g e); right = size (pick s f g) })) → b' + 1 ≡ b → next ls e f ≡ step_in s g
      → size g ≤ limit → Pair ls limit k w' l r (pick s g e) (pick s f g) → Turned ls limit k w' l r e f b found b'
  too_far : (s : Which) (g : Expr) → found ≡ Err TooLarge → b' ≡ b → 0 < b → next ls e f ≡ step_in s g → limit < size g
      → Turned ls limit k w' l r e f b found b'
  spent : (s : Which) (g : Expr) → found ≡ Err OutOfBudget → b' ≡ b → b ≡ 0 → next ls e f ≡ step_in s g → Turned ls limit k w' l r e f b found b'

-- the sides of n and m cells at l and r, after a step, if one is next
pub record Turns (tb ts w : List ℕ) (limit budget l n r m : ℕ) (w' : List ℕ) (found : Result Progress Reason) (rest : ℕ) : Type 0 where
  pub spends : rest ≤ budget
  pub counts : {sizes : Sizes} → found ≡ Ok (Stepped sizes) → rest + 1 ≡ budget
  -- what lies below the left side is as it was
  pub frame : l ≤ r → l ≤ unit_at limit scratch_unit → Outside l (length w) w w'
  pub means : (ls : Lines) (k : ℕ) (e f : Expr) → Book ls limit tb ts → k ≤ 2 * nesting → Placed limit (length w) l r → Pair ls limit k w l r e f
      → n ≡ size e → m ≡ size f → Turned ls limit k w' l r e f budget found rest

-- ---- all head steps of the first comparison

-- From the sides e and f with the budget b, the procedure came to an end, with the budget b' left and the store w': the sides are
-- identical, or no side has a head step, or it is refused.
pub data Goes (ls : Lines) (limit k : ℕ) (w' : List ℕ) (l r : ℕ) (e f : Expr) (b : ℕ) (end : Result Settled Reason) (b' : ℕ) : Type 0 where
  identically : end ≡ Ok SettledCases.Identical → ((inner : Comparison) → sides aut68 ls limit inner e f b ≡ done tt b') → Goes ls limit k w' l r e f b end b'
  to_parts : (e' f' : Expr) → end ≡ Ok SettledCases.Normal → Pair ls limit k w' l r e' f'
      → ((inner : Comparison) → sides aut68 ls limit inner e f b ≡ compare_parts aut68 inner e' f' b') → Goes ls limit k w' l r e f b end b'
  too_far : end ≡ Err TooLarge → ((inner : Comparison) → sides aut68 ls limit inner e f b ≡ stop too_large b') → Goes ls limit k w' l r e f b end b'
  spent : end ≡ Err OutOfBudget → ((inner : Comparison) → sides aut68 ls limit inner e f b ≡ stop out_of_budget b') → Goes ls limit k w' l r e f b end b'

-- the expressions at a and b, put at l and r as the sides, after all head steps
pub record Settles (tb ts w : List ℕ) (limit budget a b l r : ℕ) (w' : List ℕ) (end : Result Settled Reason) (rest : ℕ) : Type 0 where
  pub frame : l ≤ r → l ≤ unit_at limit scratch_unit → Outside l (length w) w w'
  pub means : (ls : Lines) (k : ℕ) (e f : Expr) → Book ls limit tb ts → k ≤ 2 * nesting → Placed limit (length w) l r → Pair ls limit k (take l w) a b e f
      → Goes ls limit k w' l r e f budget end rest
