-- `over_binding`: `type` stays; before anything else `[x,P]` is put.
use mathlib.Core.Path.{refl}
use native.Mathlib.Omega.{arith}
use Rattle.aut68.specs.Procedure.Answer.{code_of}
use Rattle.cells.specs.Layout.{unit_at}
use Rattle.levels.proofs.Bindings.{over_types, over_unlimited, over_large, over_made}
use Rattle.levels.proofs.binders.over_binding.Goals as goal
use Rattle.levels.proofs.binders.over_binding.Goals.{then-limit-gt-LARGEST_LIMIT-via-then-limit-gt-LARGEST_LIMIT, then-limit-gt-LARGEST_LIMIT-via-else-limit-gt-LARGEST_LIMIT+then-t-limit, then-limit-gt-LARGEST_LIMIT-via-else-limit-gt-LARGEST_LIMIT+else-t-limit+then-size-limit}

pub returns-then-is_type : goal.returns-then-is_type
returns-then-is_type c budget = over_types refl c.is_type.ensures c.if-is_type.true

pub returns-then-limit-gt-LARGEST_LIMIT : goal.returns-then-limit-gt-LARGEST_LIMIT
unfolding code_of
returns-then-limit-gt-LARGEST_LIMIT c budget = elim c.then-limit-gt-LARGEST_LIMIT.branch [
  | then-limit-gt-LARGEST_LIMIT-via-then-limit-gt-LARGEST_LIMIT w ↦ over_unlimited w.if-limit-gt-LARGEST_LIMIT.true (λ z. omega arith) refl
  | then-limit-gt-LARGEST_LIMIT-via-else-limit-gt-LARGEST_LIMIT+then-t-limit w ↦
      over_large refl c.is_type.ensures c.if-is_type.false (omega (arith, w.if-t-limit.true)) refl refl refl
  | then-limit-gt-LARGEST_LIMIT-via-else-limit-gt-LARGEST_LIMIT+else-t-limit+then-size-limit w ↦
      over_large refl c.is_type.ensures c.if-is_type.false (omega (arith, w.if-t-limit.false, w.if-size-limit.true)) refl refl refl
]

pub overflow_add-to : goal.overflow_add-to
unfolding unit_at
overflow_add-to c = omega (arith, c.result_at-to.ensures c.if-limit-gt-LARGEST_LIMIT.false)

pub returns : goal.returns
returns c budget =
    over_made c.requires.0 refl c.is_type.ensures c.if-is_type.false (omega arith) (omega arith)
    (λ h. c.result_at-to.ensures h) (λ h. c.level_at-from.ensures h c.requires.0) c.load.ensures c.move_cells.ensures
    (c.made.ensures budget)
