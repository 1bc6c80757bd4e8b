-- The head step whose kind is told by a number: what it leaves.
use Rattle.std.specs.Prelude.{◌≡◌, Option, None, List, ℕ, ◌+◌, ◌-◌, ◌*◌, ◌≤◌, length}
use Rattle.aut68.specs.Sizes.{largest_limit, work_units}
use Rattle.aut68.specs.Expr.{Expr, size, cells}
use Rattle.aut68.specs.Lines.{Lines}
use Rattle.calculus.specs.Resolved.{KnownCategory}
use Rattle.cells.specs.Cells.{At}
use Rattle.cells.specs.Layout.{unit_at, scratch_unit}
use Rattle.terms.specs.Made.{WithinRoom}
use Rattle.heads.specs.Book.{Book}
use Rattle.heads.specs.Heads.{HeadIs}
use Rattle.reduction.specs.declared.numbered.NumberedHead.{NumberedHead}
use Rattle.reduction.specs.Frames.{Framed, Quiet}
use Rattle.reduction.specs.Posts.{Stepped}

-- as StepPost (Posts), for any number as the kind: of kind 0 there is no step
pub record NumberedStepPost (tb ts w w' : List ℕ) (limit : ℕ) (h : NumberedHead) (r : Option ℕ) : Type 0 where
  pub framed : Framed (unit_at limit scratch_unit) h.at (h.at - h.kept + limit) w w'
  pub refused : r ≡ None → Quiet (unit_at limit scratch_unit) w w'
  pub within : WithinRoom limit r
  pub made : work_units * limit ≤ length w → {ls : Lines} → Book ls limit tb ts → (k : ℕ) (e : Expr) {start : ℕ} {rest : List ℕ} → KnownCategory ls k e → k ≤ largest_limit
      → size e ≤ limit → At w start (cells e) rest → start + limit ≤ unit_at limit scratch_unit
      → HeadIs ls start h.kind h.at h.kept h.line e → (h.kind ≡ 0 → ⊥) → Stepped ls limit start e r w'
