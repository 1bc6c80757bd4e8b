-- One of the two sides.
use Rattle.aut68.specs.Expr.{Expr}
use Rattle.aut68.specs.Procedure.Compare.{Next, step_left, step_right}

pub data Which : Type 0 where
  the_left the_right : Which

abbrev pub pick : {A : Type 0} → Which → A → A → A
pick the_left x y = x
pick the_right x y = y

-- a head step in it that leaves an expression
abbrev pub step_in : Which → Expr → Next
step_in the_left = step_left
step_in the_right = step_right
