-- The second comparison, of AUT-68: as the first (Procedure/Compare), but where a side has a head step the parts are compared first,
-- one level deeper, and the step is taken only if they differ. It decides no outcome of a book.
use Rattle.std.specs.Prelude.{ℕ, zero, suc, Bool, true, false, eqb, leb}
use Rattle.aut68.specs.Sizes.{nesting}
use Rattle.aut68.specs.Language.{aut68}
use Rattle.aut68.specs.Procedure.Answer.{Act, Answer, done, stop, refuse, Refusal, code_of, too_large, out_of_budget}
use Rattle.aut68.specs.Expr.{Expr, size}
use Rattle.aut68.specs.Lines.{Lines}
use Rattle.aut68.specs.Procedure.Compare.{same, by_parts, step_left, step_right, next, Comparison, compare_parts}

-- 9, 'categories differ'
unfoldable pub differs : Refusal → Bool
differs r = eqb (code_of r) 9

-- After an attempt: where the parts differ, go on with what is left of the budget; any other answer stands.
unfoldable pub unless_equal : Act ℕ (Unit {0}) → Answer ℕ (Unit {0}) → Answer ℕ (Unit {0})
unless_equal go (done u b) = done u b
unless_equal go (stop r b) = elim (differs r) [ true ↦ go b | false ↦ stop r b ]

-- A head step that leaves e: one past the budget is 'spent', and is looked at before the size; one that would leave a side
-- too large is 'large', and is not counted.
unfoldable pub step_to : ℕ → Expr → Act ℕ (Unit {0}) → Act ℕ (Unit {0})
step_to L e go zero = stop out_of_budget zero
step_to L e go (suc b) = elim (leb (size e) L) [ true ↦ go b | false ↦ stop too_large (suc b) ]

-- One pass over two sides at one depth: equal if identical; else, where no side has a head step, what their parts say;
-- where one has, the parts are compared first, and only if they differ the step is taken, on the sides as they stood, and
-- `again` goes on. (The shapes of two sides one of which has a head step match only if they are two uses of one abbreviation
-- or two applications: `attempted_left`, crate `agreement`. Of any others `compare_parts` says 9 at once, at no cost.)
unfoldable pub pass : Lines → ℕ → Comparison → Comparison → Comparison
pass ls L deeper again l r b =
    elim (next ls l r) [
      | same ↦ done tt b
      | by_parts ↦ compare_parts aut68 deeper l r b
      | step_left l' ↦ unless_equal (step_to L l' (again l' r)) (compare_parts aut68 deeper l r b)
      | step_right r' ↦ unless_equal (step_to L r' (again l r')) (compare_parts aut68 deeper l r b)
    ]

-- At most so many passes. A step leads from each to the next, so one pass more than there are steps left is enough: the
-- first clause is never met from `sides_first`, which is a loop of passes with no bound of its own (`sides_first_loop`, crate
-- `agreement`).
unfoldable pub passes : Lines → ℕ → Comparison → ℕ → Comparison
passes ls L deeper zero l r b = stop out_of_budget b
passes ls L deeper (suc n) l r b = pass ls L deeper (passes ls L deeper n) l r b

unfoldable pub sides_first : Lines → ℕ → Comparison → Comparison
sides_first ls L deeper l r b = passes ls L deeper (suc b) l r b

-- The first pair has depth 1, with 32 levels left; opening depth 33 is 'large', even for identical sides.
unfoldable pub parts_first_at : Lines → ℕ → ℕ → Comparison
parts_first_at ls L zero = λ l r. refuse too_large
parts_first_at ls L (suc d) = sides_first ls L (parts_first_at ls L d)

unfoldable pub parts_first : Lines → ℕ → Comparison
parts_first ls L = parts_first_at ls L nesting
