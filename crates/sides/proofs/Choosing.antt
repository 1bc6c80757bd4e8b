-- Laws of the procedure: what comes next, by the choice of a side.
use mathlib.Core.Path.{◌≡◌, refl}
use mathlib.Core.Bool.{Bool, true, false}
use mathlib.Core.Option.{some}
use Prim.Native.Nat.{ℕ}
use native.Mathlib.Omega.{arith}
use lib.Dec.{leb}
use borrow.Author.Tests.{leb-true, leb-false}
use Rattle.aut68.specs.Expr.{Expr, identical}
use Rattle.aut68.specs.Lines.{Lines}
use Rattle.aut68.specs.Procedure.HeadStep.{Head, no_step, beta, delta, head_step, left}
use Rattle.aut68.specs.Procedure.Compare.{by_parts, choose, next}
use Rattle.agreement.specs.Which.{Which, the_left, the_right, pick, step_in}
use Rattle.sides.specs.Posts.{Chooses}

pub next_choice : (ls : Lines) (e f : Expr) → identical e f ≡ false → next ls e f ≡ choose (head_step ls e) (head_step ls f)
unfolding next
next_choice ls e f q = rw (q, next)

-- ---- the choice of a side

-- the number of a side in the code
abbrev pub number : Which → ℕ
number the_left = 1
number the_right = 2

-- the kind and the line of a head step, as numbers
pub data Numbered (kind line : ℕ) : Head → Type 0 where
  none : kind ≡ 0 → Numbered kind line no_step
  contracts : {e : Expr} → kind ≡ 1 → Numbered kind line (beta e)
  unfolds : {v : ℕ} {e : Expr} → kind ≡ 2 → line ≡ v → Numbered kind line (delta v e)

-- what the chosen side says of the procedure's choice
pub data Choice (h h' : Head) (side : ℕ) : Type 0 where
  neither : side ≡ 0 → choose h h' ≡ by_parts → Choice h h' side
  chosen : (s : Which) (e : Expr) → side ≡ number s → left (pick s h h') ≡ some e → choose h h' ≡ step_in s e → Choice h h' side

module _ {kind line kind' line' side : ℕ} (c : Chooses kind line kind' line' side) where
  larger : {v v' : ℕ} {e f : Expr} → kind ≡ 2 → line ≡ v → kind' ≡ 2 → line' ≡ v' → (t : Bool) → leb v' v ≡ t → Choice (delta v e) (delta v' f) side
  unfolding choose left
  larger {v} {v'} {e} {f} p x q y true t = chosen the_left e (c.left_larger p q (omega (arith, leb-true v' v t))) refl (rw (t, choose))
  larger {v} {v'} {e} {f} p x q y false t = chosen the_right f (c.right_larger p q (omega (arith, leb-false v' v t))) refl (rw (t, choose))

  pub choice : {h h' : Head} → Numbered kind line h → Numbered kind' line' h' → Choice h h' side
  unfolding choose left
  choice (none p) (none q) = neither (c.none p q) refl
  choice (none p) (contracts q) = chosen the_right _ (c.only_right p (omega arith)) refl refl
  choice (none p) (unfolds q y) = chosen the_right _ (c.only_right p (omega arith)) refl refl
  choice (contracts p) (none q) = chosen the_left _ (c.only_left (omega arith) q) refl refl
  choice (contracts p) (contracts q) = chosen the_left _ (c.left_contraction p (omega arith)) refl refl
  choice (contracts p) (unfolds q y) = chosen the_left _ (c.left_contraction p (omega arith)) refl refl
  choice (unfolds p x) (none q) = chosen the_left _ (c.only_left (omega arith) q) refl refl
  choice (unfolds p x) (contracts q) = chosen the_right _ (c.right_contraction p q) refl refl
  choice (unfolds {v} p x) (unfolds {v = v'} q y) = larger p x q y (leb v' v) refl
