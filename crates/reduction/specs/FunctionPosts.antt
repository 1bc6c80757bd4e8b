-- What head steps until an abstraction leave.
use Rattle.std.specs.Prelude.{◌≡◌, List, ℕ, ◌+◌, ◌*◌, ◌≤◌, ◌<◌, length, get_or, Option, Some, None, Ok, Err}
use Rattle.std.specs.Prelude as Code
use Rattle.aut68.specs.Sizes.{largest_limit, work_units}
use Rattle.aut68.specs.Expr.{Expr, abs, size, cells}
use Rattle.aut68.specs.Lines.{Lines}
use Rattle.aut68.specs.Procedure.Answer.{Refusal, done, stop, code_of}
use Rattle.aut68.specs.Procedure.HeadStep.{no_step, head_step}
use Rattle.aut68.specs.Procedure.Category.{head_form, to_function}
use Rattle.aut68.specs.Procedure.Category
use Rattle.calculus.specs.Resolved.{KnownCategory}
use Rattle.cells.specs.Cells.{At}
use Rattle.cells.specs.Layout.{unit_at, scratch_unit}
use Rattle.cells.specs.Posts.{Skipped}
use Rattle.cells.specs.Results.{Result}
use Rattle.constants.specs.declared.codes.Reason.{Reason}
use Rattle.heads.specs.Book.{Book}
use Rattle.reduction.specs.Frames.{Framed, Lies}
use Rattle.reduction.specs.declared.functions.Function.{Function}

-- the expression at index `at` is an abstraction, with its domain and its body there; or it is none
abbrev pub ShapePost : List ℕ → List ℕ → ℕ → Option (ℕ × ℕ) → Type 0
ShapePost tb w at (Some (d, b)) = (get_or w at 0 ≡ 5) × (d ≡ at + 1) × Skipped tb w (at + 1) 1 b
ShapePost tb w at None = at < length w → get_or w at 0 ≡ 5 → ⊥

-- c has come to its head form g, which has no head step; or the procedure stops on the way
pub data FormIs (ls : Lines) (limit k at : ℕ) (c : Expr) (budget : ℕ) (w' : List ℕ) (code size' budget' : ℕ) : Type 0 where
  normal : (g : Expr) → code ≡ 0 → head_step ls g ≡ no_step → KnownCategory ls k g → size g ≤ limit → size' ≡ size g → Lies w' at g
      → head_form ls limit c budget ≡ done g budget' → FormIs ls limit k at c budget w' code size' budget'
  refused : (r : Refusal) → code ≡ code_of r → head_form ls limit c budget ≡ stop r budget' → FormIs ls limit k at c budget w' code size' budget'

pub record FormPost (tb ts w w' : List ℕ) (limit budget at n code size' budget' : ℕ) : Type 0 where
  pub framed : Framed (unit_at limit scratch_unit) at (at + limit) w w'
  pub is : work_units * limit ≤ length w → {ls : Lines} → Book ls limit tb ts → (k : ℕ) (c : Expr) {rest : List ℕ} → KnownCategory ls k c → k ≤ largest_limit
      → size c ≤ limit → n ≡ size c → at + limit ≤ unit_at limit scratch_unit → At w at (cells c) rest → FormIs ls limit k at c budget w' code size' budget'

-- the function of an answer that is one
abbrev pub function_in : Code.Result Function Reason → Function
function_in (Ok f) = f
function_in (Err r) = record { size = 0; domain = 0; body = 0 }

-- the abstraction f lies at `at`, of r.size cells, its domain and its body where r says
pub record FunctionAt (ls : Lines) (limit k at : ℕ) (w' : List ℕ) (r : Function) (f : Category.Function) : Type 0 where
  pub known : KnownCategory ls k (abs f.domain f.body)
  pub lies : Lies w' at (abs f.domain f.body)
  pub small : size (abs f.domain f.body) ≤ limit
  pub size_is : r.size ≡ size (abs f.domain f.body)
  pub domain_at : r.domain ≡ at + 1
  pub body_at : r.body ≡ at + 1 + size f.domain

pub record FunctionPost (tb ts w w' : List ℕ) (limit budget at n code : ℕ) (r : Function) (budget' : ℕ) : Type 0 where
  -- below the scratch unit nothing outside the expression's unit is changed
  pub framed : Framed (unit_at limit scratch_unit) at (at + limit) w w'
  pub is : work_units * limit ≤ length w → {ls : Lines} → Book ls limit tb ts → (k : ℕ) (c : Expr) {rest : List ℕ} → KnownCategory ls k c → k ≤ largest_limit
      → size c ≤ limit → n ≡ size c → at + limit ≤ unit_at limit scratch_unit → At w at (cells c) rest
      → Result (FunctionAt ls limit k at w' r) code budget' (to_function ls limit c budget)
