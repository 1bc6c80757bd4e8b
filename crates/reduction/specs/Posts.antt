-- What the functions that make a head step leave.
use Rattle.std.specs.Prelude.{◌≡◌, Option, None, Some, List, ℕ, ◌+◌, ◌-◌, ◌*◌, ◌≤◌, ◌<◌, length, get_or}
use Rattle.std.proofs.Math.Option.{some}
use Rattle.aut68.specs.Sizes.{cell_values, largest_limit, work_units}
use Rattle.aut68.specs.Expr.{Expr, Exprs, const, app, abs, size, cells, cellss, count_exprs}
use Rattle.aut68.specs.Substitution.{substitute, instantiate}
use Rattle.aut68.specs.Lines.{Line, Lines, abbreviation}
use Rattle.aut68.specs.Rules.Names.{IsLine}
use Rattle.aut68.specs.Procedure.HeadStep.{head_step, left}
use Rattle.aut68.specs.Rules.Resolved.{Known}
use Rattle.calculus.specs.Resolved.{KnownCategory}
use Rattle.cells.specs.Cells.{Wf, Wfs, At, Below, Outside}
use Rattle.cells.specs.Layout.{unit_at, scratch_unit, result_unit}
use Rattle.terms.specs.Made.{no_room, size_in, WithinRoom, Started}
use Rattle.heads.specs.Book.{Book}
use Rattle.heads.specs.Heads.{HeadIs, applied, front}
use Rattle.heads.specs.Posts.{kind_of, line_of}
use Rattle.heads.specs.declared.heads.Head.{Head}
use Rattle.reduction.specs.Frames.{Framed, Quiet, Lies}

-- ---- what is made, in the result unit or in place

-- e stands at index `place`, and r is its size; or it has more cells than the room
pub record MadeAt (place room : ℕ) (e : Expr) (r : ℕ) (w' : List ℕ) : Type 0 where
  pub fits : size e ≤ room → (r ≡ size e) × Lies w' place e
  pub large : room < size e → r ≡ no_room

-- whatever lies there: nothing below the scratch unit is changed
pub record Prepared (limit room : ℕ) (r : Option ℕ) (w w' : List ℕ) : Type 0 where
  pub quiet : Quiet (unit_at limit scratch_unit) w w'
  pub within : WithinRoom room r

-- where the `count` arguments that lie from index `at` of w on start is entered in `starts`, whose first place has 0
pub record ArgumentsAtPost (tb w : List ℕ) (at count : ℕ) (starts starts' : List ℕ) : Type 0 where
  pub started : length starts ≡ 64 → get_or starts 0 0 ≡ 0 → (xs : Exprs) {rest : List ℕ} → count_exprs xs ≡ count → Wfs tb xs → At w at (cellss xs) rest
      → length (cellss xs) < cell_values → Started xs starts'

-- <A>[x,P]T at index `at`
pub record ContractedPost (tb w w' : List ℕ) (limit at room : ℕ) (r : Option ℕ) : Type 0 where
  pub prepared : Prepared limit room r w w'
  pub made : work_units * limit ≤ length w → room ≤ limit → (a p t : Expr) {rest : List ℕ} → Wf tb a → Wf tb p → Wf tb t
      → At w at (cells (app a (abs p t))) rest → at + size (app a (abs p t)) ≤ unit_at limit scratch_unit → Below cell_values (cells (substitute a 0 t))
      → MadeAt (unit_at limit result_unit) room (substitute a 0 t) (size_in r) w'

-- the constant of line v at index `at`
pub record UnfoldedPost (tb ts w w' : List ℕ) (limit at v room : ℕ) (r : Option ℕ) : Type 0 where
  pub prepared : Prepared limit room r w w'
  pub made : work_units * limit ≤ length w → room ≤ limit → {ls : Lines} → Book ls limit tb ts → (k : ℕ) (xs : Exprs) {l : Line} {m : Expr} {rest : List ℕ}
      → IsLine ls v l → l.kind ≡ abbreviation m → Known ls k (const v xs) → k ≤ largest_limit → At w at (cells (const v xs)) rest
      → at + size (const v xs) ≤ unit_at limit scratch_unit → size (const v xs) ≤ limit → MadeAt (unit_at limit result_unit) room (instantiate l.context xs 0 m) (size_in r) w'

-- The abbreviation of line v, which takes no arguments, at index `at` becomes its middle there, if that has at most `room` cells.
pub record InPlacePost (tb ts w w' : List ℕ) (at v room : ℕ) (r : Option ℕ) : Type 0 where
  pub outside : Outside at (at + room) w w'
  pub refused : r ≡ None → w' ≡ w
  pub within : WithinRoom room r
  pub made : {ls : Lines} {limit : ℕ} → Book ls limit tb ts → {l : Line} {m : Expr} → IsLine ls v l → l.kind ≡ abbreviation m → at + room ≤ length w
      → MadeAt at room m (size_in r) w'

-- the redex of e, behind the A's fs, has become `made` at index `place`
pub record Redex (ls : Lines) (place room : ℕ) (e : Expr) (kept r : ℕ) (w' : List ℕ) : Type 0 where
  pub fs : Exprs
  pub old : Expr
  pub made : Expr
  pub was : e ≡ applied fs old
  pub becomes : left (head_step ls e) ≡ some (applied fs made)
  pub keeps : kept ≡ length (front fs)
  pub stands : MadeAt place room made r w'

pub record RedexPost (tb ts w w' : List ℕ) (limit : ℕ) (h : Head) (room : ℕ) (r : Option ℕ) : Type 0 where
  pub prepared : Prepared limit room r w w'
  pub made : work_units * limit ≤ length w → room ≤ limit → {ls : Lines} → Book ls limit tb ts → (k : ℕ) (e : Expr) {start : ℕ} {rest : List ℕ}
      → KnownCategory ls k e → k ≤ largest_limit → size e ≤ limit → At w start (cells e) rest → start + limit ≤ unit_at limit scratch_unit
      → HeadIs ls start (kind_of h.step) h.at h.kept (line_of h.step) e → Redex ls (unit_at limit result_unit) room e h.kept (size_in r) w'

-- ---- the step

-- e's head step leaves `next`: it stands where e stood, and r is its size; or it has more cells than the limit
pub record Stepped (ls : Lines) (limit start : ℕ) (e : Expr) (r : Option ℕ) (w' : List ℕ) : Type 0 where
  pub next : Expr
  pub is : left (head_step ls e) ≡ some next
  pub fits : size next ≤ limit → (r ≡ Some (size next)) × Lies w' start next
  pub large : limit < size next → r ≡ None

pub record StepPost (tb ts w w' : List ℕ) (limit : ℕ) (h : Head) (r : Option ℕ) : Type 0 where
  -- below the scratch unit: nothing before the redex, nothing past the expression's unit; nothing at all where the step is refused
  pub framed : Framed (unit_at limit scratch_unit) h.at (h.at - h.kept + limit) w w'
  pub refused : r ≡ None → Quiet (unit_at limit scratch_unit) w w'
  pub within : WithinRoom limit r
  pub made : work_units * limit ≤ length w → {ls : Lines} → Book ls limit tb ts → (k : ℕ) (e : Expr) {start : ℕ} {rest : List ℕ} → KnownCategory ls k e → k ≤ largest_limit
      → size e ≤ limit → At w start (cells e) rest → start + limit ≤ unit_at limit scratch_unit
      → HeadIs ls start (kind_of h.step) h.at h.kept (line_of h.step) e → Stepped ls limit start e r w'
