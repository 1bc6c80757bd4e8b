use mathlib.Core.Path.{◌≡◌, refl, sym, ◌∙◌}
use native.Mathlib.Omega.{arith}
use lib.ListN.{length}
use borrow.Author.Tests.{eqb-true, eqb-false}
use Rattle.lookup.specs.Answers.{code_nonzero}
use Rattle.reduction.proofs.Exits.{passed_on}
use Rattle.levels.specs.Finds.{refusal_nonzero}
use Rattle.levels.proofs.Instances.{constant_refused}
use Rattle.levels.proofs.Functions.{function_refused}
use Rattle.levels.proofs.Types.{type_refused}
use Rattle.levels.proofs.Bindings.{over_refused}
use Rattle.typing.proofs.Applications.{applied_refused}
use Rattle.categories.proofs.KindLaws.{category_deep, category_empty, by_variable_lem, by_bound_lem, by_alone, by_constant_lem, by_application_lem, by_abstraction_lem, by_nothing}
use Rattle.categories.proofs.ArgumentLaws.{argument_none, argument_stored, argument_other}
use Rattle.categories.proofs.BinderLaws.{application_refused, application_made, abstraction_refused, abstraction_made}
use Rattle.categories.proofs.Within.{part, part_length, part_first}
use Rattle.categories.proofs.Strings.{ArgumentPost}
use Rattle.categories.proofs.Turns.{turns_start, turns_more, turns_stop, turns_end}
use Prim.Native.Nat.{ℕ}
use Rattle.categories.proofs.+abstraction_application_arguments_category.Goals as goal
use Rattle.categories.proofs.+abstraction_application_arguments_category.Goals.{arguments-Joined-is_stored, arguments-then-is_stored+in_ok-n, arguments-else-is_stored+in_ok-n-2}

-- the argument at hand, by whichever way
arguments-fitted : (t : ℕ) (c : arguments-Joined-is_stored t)
    → (let a = c.args in
    let g = c.loop-i in
    ArgumentPost a.table.now a.terms.now (part a.s.now g.at) a.scope g.w a.limit g.budget a.level
    c.context_variable-line.result c.level_at-base.result g.i g.starts c.if-is_stored.w 0
    c.if-is_stored.n c.if-is_stored.budget
    × (length c.if-is_stored.w ≡ length g.w))
arguments-fitted t c = (
  elim c.if-is_stored.branch [
    | arguments-then-is_stored+in_ok-n w ↦
        rw (w.w-is, w.n-is, w.in_ok-n.ensures.1, w.budget-is) (argument_stored w.in_ok-n.ensures.0
        (omega (arith, part_length c.args.s.now c.loop-i.at, c.in-Some.ensures.lookup.3.0))
        (c.in-Some.ensures.lookup.3.1 0 ∙ sym (part_first c.args.s.now c.loop-i.at)) refl c.is_stored.ensures w.if-is_stored.true)
    | arguments-else-is_stored+in_ok-n-2 w ↦
        rw (w.w-is, w.n-is, w.in_ok-n-2.ensures.1, w.budget-is) (argument_other w.category-found.ensures w.in_ok-n-2.ensures.0)
  ],
  c.if-is_stored.auto.w,
)

pub abstraction-returns-in_err-domain : goal.abstraction-returns-in_err-domain
abstraction-returns-in_err-domain t c =
    rw (passed_on _ _ c.from_residual.ensures.1) (abstraction_refused c.in_err-domain.ensures (type_refused (refusal_nonzero _)) (refusal_nonzero _))

pub abstraction-returns-in_err-found_type : goal.abstraction-returns-in_err-found_type
abstraction-returns-in_err-found_type t c =
    rw (passed_on _ _ c.from_residual-in_err-found_type.ensures.1) (abstraction_refused c.in_ok-domain.ensures (c.in_err-found_type.ensures _ _) (refusal_nonzero _))

pub abstraction-returns-in_err-found : goal.abstraction-returns-in_err-found
abstraction-returns-in_err-found t c =
    rw (passed_on _ _ c.from_residual-in_err-found.ensures.1) (abstraction_made c.in_ok-domain.ensures (c.in_ok-found_type.ensures _ _) c.requires.1 refl
    refl refl c.bind-inner.ensures c.in_err-found.ensures (over_refused (refusal_nonzero _) refl refl refl))

pub abstraction-returns : goal.abstraction-returns
abstraction-returns t c =
    abstraction_made c.in_ok-domain.ensures (c.in_ok-found_type.ensures _ _) c.requires.1 refl
    refl refl c.bind-inner.ensures c.in_ok-found.ensures (c.over_binding.ensures _)

pub application-returns-in_err-found : goal.application-returns-in_err-found
application-returns-in_err-found t c =
    rw (passed_on _ _ c.from_residual.ensures.1) (application_refused c.requires.1 c.skip-b.ensures c.in_err-found.ensures (function_refused {domain = 0} {body = 0} (refusal_nonzero _)) (refusal_nonzero _))

pub application-returns-in_err-function : goal.application-returns-in_err-function
application-returns-in_err-function t c =
    rw (passed_on _ _ c.from_residual-in_err-function.ensures.1) (application_refused c.requires.1 c.skip-b.ensures c.in_ok-found.ensures c.in_err-function.ensures (refusal_nonzero _))

pub application-returns-in_err-category : goal.application-returns-in_err-category
application-returns-in_err-category t c =
    rw (passed_on _ _ c.from_residual-in_err-category.ensures.1) (application_made c.requires.1 c.skip-b.ensures c.in_ok-found.ensures c.in_ok-function.ensures (omega (arith, c.requires))
    refl c.in_err-category.ensures (applied_refused (refusal_nonzero _) refl refl refl))

pub application-returns : goal.application-returns
application-returns t c =
    application_made c.requires.1 c.skip-b.ensures c.in_ok-found.ensures c.in_ok-function.ensures (omega (arith, c.requires))
    refl c.in_ok-category.ensures (c.applied.ensures _)

pub arguments-loop-i-init : goal.arguments-loop-i-init
arguments-loop-i-init t c =
    (omega arith, turns_start c.requires.2 c.requires.3, refl)

pub arguments-returns-in_default : goal.arguments-returns-in_default
arguments-returns-in_default t c =
    turns_stop c.requires.1 c.loop-i.invariant.1 c.field-count.ensures.0 c.loop-i-test.true c.context_of.ensures
    c.context_variable-line.ensures (λ h. c.level_at-base.ensures h (omega (arith, c.requires)))
    (argument_none (omega (arith, part_length c.args.s.now c.loop-i.at, c.in_default.ensures.lookup.3))) (code_nonzero _)

pub arguments-returns-in_err-n : goal.arguments-returns-in_err-n
arguments-returns-in_err-n t c =
    rw (passed_on _ _ c.from_residual.ensures.1) (turns_stop c.requires.1 c.loop-i.invariant.1 c.field-count.ensures.0 c.loop-i-test.true c.context_of.ensures
    c.context_variable-line.ensures (λ h. c.level_at-base.ensures h (omega (arith, c.requires)))
    (argument_stored c.in_err-n.ensures.0 (omega (arith, part_length c.args.s.now c.loop-i.at, c.in-Some.ensures.lookup.3.0))
    (c.in-Some.ensures.lookup.3.1 0 ∙ sym (part_first c.args.s.now c.loop-i.at)) refl c.is_stored.ensures c.if-is_stored.true) (refusal_nonzero _))

pub arguments-returns-in_err-n-2 : goal.arguments-returns-in_err-n-2
arguments-returns-in_err-n-2 t c =
    rw (passed_on _ _ c.from_residual-in_err-n-2.ensures.1) (turns_stop c.requires.1 c.loop-i.invariant.1 c.field-count.ensures.0 c.loop-i-test.true c.context_of.ensures
    c.context_variable-line.ensures (λ h. c.level_at-base.ensures h (omega (arith, c.requires)))
    (argument_other c.category-found.ensures c.in_err-n-2.ensures.0) (refusal_nonzero _))

pub arguments-loop-i-preserved : goal.arguments-loop-i-preserved
arguments-loop-i-preserved t c = (
  omega (arith, (arguments-fitted t (goal.at.arguments-loop-i-preserved t c).Joined-is_stored).0.within, part_length c.args.s.now c.loop-i.at, c.loop-i.invariant),
  turns_more c.requires.1 c.loop-i.invariant.1 c.field-count.ensures.0 c.loop-i-test.true
      c.context_of.ensures c.context_variable-line.ensures (λ h. c.level_at-base.ensures h (omega (arith, c.requires)))
      (arguments-fitted t (goal.at.arguments-loop-i-preserved t c).Joined-is_stored).0 refl c.keep_argument.ensures c.enter_start.ensures,
  omega (arith, (arguments-fitted t (goal.at.arguments-loop-i-preserved t c).Joined-is_stored).1, c.loop-i.invariant),
)

pub arguments-returns : goal.arguments-returns
arguments-returns t c = turns_end c.field-count.ensures.0 (omega arith) (omega arith) c.loop-i.invariant.0 c.loop-i.invariant.1

pub category-returns-then-level-ge-NESTING : goal.category-returns-then-level-ge-NESTING
category-returns-then-level-ge-NESTING t c = category_deep c.if-level-ge-NESTING.true

pub category-returns-then-is_empty : goal.category-returns-then-is_empty
category-returns-then-is_empty t c = category_empty (eqb-true _ _ (sym c.if-is_empty.ensures))

pub category-returns-in-3 : goal.category-returns-in-3
category-returns-in-3 t c =
    by_alone (omega (arith, eqb-false _ _ (sym c.if-is_empty.ensures))) c.in-3.is refl (sym c.field.ensures.0 ∙ c.if-field-eq0.true) (c.stored-in-3.ensures _)

pub category-returns-in-1 : goal.category-returns-in-1
category-returns-in-1 t c =
    by_variable_lem (omega (arith, eqb-false _ _ (sym c.if-is_empty.ensures))) c.in-1.is refl (c.stored.ensures _)

pub category-returns-in-2 : goal.category-returns-in-2
category-returns-in-2 t c =
    by_bound_lem (omega (arith, eqb-false _ _ (sym c.if-is_empty.ensures))) c.in-2.is refl (c.bound.ensures _)

pub category-returns-in_err-extent-in-3-2 : goal.category-returns-in_err-extent-in-3-2
category-returns-in_err-extent-in-3-2 t c =
    rw (passed_on _ _ c.from_residual.ensures.1) (by_constant_lem (omega (arith, eqb-false _ _ (sym c.if-is_empty.ensures))) c.in-3.is refl c.in_err-extent-in-3-2.ensures (constant_refused (refusal_nonzero _) refl refl refl))

pub category-returns-in_ok-extent-in-3-2 : goal.category-returns-in_ok-extent-in-3-2
category-returns-in_ok-extent-in-3-2 t c =
    by_constant_lem (omega (arith, eqb-false _ _ (sym c.if-is_empty.ensures))) c.in-3.is refl c.in_ok-extent-in-3-2.ensures (c.constant.ensures _)

pub category-returns-in-4 : goal.category-returns-in-4
category-returns-in-4 t c = by_application_lem c.in-4.is c.application.ensures

pub category-returns-in-5 : goal.category-returns-in-5
category-returns-in-5 t c = by_abstraction_lem c.in-5.is c.abstraction.ensures

pub category-returns-in_default : goal.category-returns-in_default
category-returns-in_default t c =
    by_nothing (λ z. omega arith) (λ z. omega arith) (λ z. omega arith) (λ z. omega arith) (λ z. omega arith) refl refl
