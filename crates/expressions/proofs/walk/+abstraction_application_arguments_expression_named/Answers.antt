use mathlib.Core.Path.{refl, sym, ap}
use Rattle.std.proofs.lemmas.Result.{err_from_is_err_and}
use Rattle.expressions.proofs.CompletedLaws.{completed_refused}
use Rattle.lookup.specs.Answers.{code_nonzero}
use native.Mathlib.Omega.{arith}
use Rattle.kinds.specs.declared.Kind.TheVariants.{Less, Bracket}
use Rattle.kinds.specs.Numbers.{number}
use Rattle.kinds.proofs.Tests.{one_of_number}
use Rattle.expressions.proofs.ExpressionLaws.{stopped, refused_here, walked_here, code_malformed, code_too_large, expression_too_deep, expression_malformed, expression_application, expression_abstraction, expression_named}
use Rattle.expressions.proofs.PairLaws.{application_unopened, application_first_refused, application_unclosed, application_read}
use Rattle.expressions.proofs.PairLaws.{abstraction_unopened, abstraction_unnamed, abstraction_no_comma, abstraction_first_refused, abstraction_unclosed, abstraction_read}
use Rattle.expressions.proofs.NamedLaws.{fault_err, named_unnamed, named_alone, named_read}
use Rattle.expressions.proofs.ArgumentLaws.{arguments_here, arguments_start, arguments_refused, arguments_more, arguments_unclosed, arguments_closed}
use Rattle.expressions.proofs.walk.+abstraction_application_arguments_expression_named.Goals as goal

pub abstraction-returns-in_default : goal.abstraction-returns-in_default
abstraction-returns-in_default t c =
    refused_here _
    (abstraction_unopened c.requires.0 c.requires.1 c.requires.2 c.in_default.ensures.past (omega arith) (stopped _ _ _))
    (sym code_malformed) c.requires.1

pub abstraction-returns-in_default-name_at : goal.abstraction-returns-in_default-name_at
abstraction-returns-in_default-name_at t c =
    refused_here _
    (abstraction_unnamed c.requires.0 c.requires.1 c.requires.2 c.in-Some.ensures.past c.in-Some.ensures.inside
    c.in_default-name_at.ensures refl (stopped _ _ _))
    (sym code_malformed) c.requires.1

pub abstraction-returns-in_default-symbol : goal.abstraction-returns-in_default-symbol
abstraction-returns-in_default-symbol t c =
    refused_here _
    (abstraction_no_comma c.requires.0 c.requires.1 c.requires.2 c.in-Some.ensures.past c.in-Some.ensures.inside
    c.in-Ok.ensures.1 c.in-Ok.ensures.0 c.in_default-symbol.ensures.past (omega arith) (stopped _ _ _))
    (sym code_malformed) c.requires.1

pub abstraction-returns-in_err-a : goal.abstraction-returns-in_err-a
abstraction-returns-in_err-a t c =
    let p = err_from_is_err_and c.from_residual.result c.from_residual.ensures.1 in
    rw (p.1, p.2)
    (refused_here _
    (abstraction_first_refused c.requires.0 c.requires.1 c.requires.2 c.in-Some.ensures.past c.in-Some.ensures.inside
    c.in-Ok.ensures.1 c.in-Ok.ensures.0 c.in-Some-symbol.ensures.past c.in-Some-symbol.ensures.inside c.put-cell.ensures
    c.nest-level.ensures c.in_err-a.ensures (code_nonzero _))
    refl c.requires.1)

pub abstraction-returns-in_default-symbol-2 : goal.abstraction-returns-in_default-symbol-2
abstraction-returns-in_default-symbol-2 t c =
    refused_here _
    (abstraction_unclosed c.requires.0 c.requires.1 c.requires.2 c.in-Some.ensures.past c.in-Some.ensures.inside
    c.in-Ok.ensures.1 c.in-Ok.ensures.0 c.in-Some-symbol.ensures.past c.in-Some-symbol.ensures.inside c.put-cell.ensures
    c.nest-level.ensures c.in_ok-a.ensures refl c.in_default-symbol-2.ensures.past
    (omega arith) (stopped _ _ _))
    (sym code_malformed) c.requires.1

pub abstraction-returns : goal.abstraction-returns
abstraction-returns t c =
    walked_here _ _ c.expression-2.result
    (abstraction_read c.requires.0 c.requires.1 c.requires.2 c.in-Some.ensures.past c.in-Some.ensures.inside
    c.in-Ok.ensures.1 c.in-Ok.ensures.0 c.in-Some-symbol.ensures.past c.in-Some-symbol.ensures.inside c.put-cell.ensures
    c.nest-level.ensures c.in_ok-a.ensures refl c.in-Some-symbol-2.ensures.past c.in-Some-symbol-2.ensures.inside
    c.bind-inner.ensures c.expression-2.ensures)
    c.requires.1

pub application-returns-in_default : goal.application-returns-in_default
application-returns-in_default t c =
    refused_here _
    (application_unopened c.requires.0 c.requires.1 c.requires.2 c.in_default.ensures.past (omega arith) (stopped _ _ _))
    (sym code_malformed) c.requires.1

pub application-returns-in_err-a : goal.application-returns-in_err-a
application-returns-in_err-a t c =
    let p = err_from_is_err_and c.from_residual.result c.from_residual.ensures.1 in
    rw (p.1, p.2)
    (refused_here _
    (application_first_refused c.requires.0 c.requires.1 c.requires.2 c.in-Some.ensures.past c.in-Some.ensures.inside
    c.put-cell.ensures c.nest-inner.ensures c.in_err-a.ensures (code_nonzero _))
    refl c.requires.1)

pub application-returns-in_default-symbol : goal.application-returns-in_default-symbol
application-returns-in_default-symbol t c =
    refused_here _
    (application_unclosed c.requires.0 c.requires.1 c.requires.2 c.in-Some.ensures.past c.in-Some.ensures.inside
    c.put-cell.ensures c.nest-inner.ensures c.in_ok-a.ensures refl
    c.in_default-symbol.ensures.past (omega arith) (stopped _ _ _))
    (sym code_malformed) c.requires.1

pub application-returns : goal.application-returns
application-returns t c =
    walked_here _ _ c.expression-2.result
    (application_read c.requires.0 c.requires.1 c.requires.2 c.in-Some.ensures.past c.in-Some.ensures.inside c.put-cell.ensures
    c.nest-inner.ensures c.in_ok-a.ensures refl c.in-Some-symbol.ensures.past c.in-Some-symbol.ensures.inside
    c.expression-2.ensures)
    c.requires.1

pub arguments-loop-a-init : goal.arguments-loop-a-init
arguments-loop-a-init t c =
    arguments_start c.requires.0 c.requires.1

pub arguments-returns-in_err-a : goal.arguments-returns-in_err-a
arguments-returns-in_err-a t c =
    let p = err_from_is_err_and c.from_residual.result c.from_residual.ensures.1 in
    rw (p.1, p.2)
    (arguments_here _
    (arguments_refused c.loop-a.invariant c.in_err-a.ensures (code_nonzero _))
    refl c.requires.1)

pub arguments-returns-in_default-symbol : goal.arguments-returns-in_default-symbol
arguments-returns-in_default-symbol t c =
    arguments_here _
    (arguments_unclosed c.loop-a.invariant c.in_ok-a.ensures refl c.in_default.ensures.past
    (omega arith) c.in_default-symbol.ensures.past (omega arith) (stopped _ _ _))
    (sym code_malformed) c.requires.1

pub arguments-returns-in_default : goal.arguments-returns-in_default
arguments-returns-in_default t c =
    arguments_closed c.loop-a.invariant c.in_ok-a.ensures refl c.in_default.ensures.past
    (omega arith) c.in-Some-symbol.ensures.past c.in-Some-symbol.ensures.inside

pub arguments-loop-a-preserved : goal.arguments-loop-a-preserved
arguments-loop-a-preserved t c =
    arguments_more c.loop-a.invariant c.in_ok-a.ensures refl c.in-Some.ensures.past
    c.in-Some.ensures.inside

pub expression-returns-then-opens : goal.expression-returns-then-opens
expression-returns-then-opens t c =
    refused_here _
    (expression_too_deep c.spaces-at.ensures c.kind_at-k.ensures c.requires.0 c.requires.1
    (omega (arith, c.if-scope-ge-NESTING)) c.opens.ensures c.if-opens.true (stopped _ _ _))
    (sym code_too_large) c.requires.1

pub expression-returns-then-scope-ge-NESTING : goal.expression-returns-then-scope-ge-NESTING
expression-returns-then-scope-ge-NESTING t c =
    refused_here _
    (expression_malformed c.spaces-at.ensures c.kind_at-k.ensures c.requires.0 c.requires.1
    (omega (arith, c.if-scope-ge-NESTING)) c.opens.ensures c.if-opens.false (stopped _ _ _))
    (sym code_malformed) c.requires.1

pub expression-returns-in-Less : goal.expression-returns-in-Less
expression-returns-in-Less t c =
    expression_application c.spaces-at.ensures c.kind_at-k.ensures c.requires.0 c.requires.1 c.if-scope-ge-NESTING.false
    (ap number c.in-Less.is) c.application.ensures

pub expression-returns-in-Bracket : goal.expression-returns-in-Bracket
expression-returns-in-Bracket t c =
    expression_abstraction c.spaces-at.ensures c.kind_at-k.ensures c.requires.0 c.requires.1 c.if-scope-ge-NESTING.false
    (ap number c.in-Bracket.is) c.abstraction.ensures

pub expression-returns-in_default : goal.expression-returns-in_default
expression-returns-in_default t c =
    expression_named c.spaces-at.ensures c.kind_at-k.ensures c.requires.0 c.requires.1 c.if-scope-ge-NESTING.false
    (λ e. c.in_default.not-Less (one_of_number _ Less e)) (λ e. c.in_default.not-Bracket (one_of_number _ Bracket e)) c.named.ensures

pub named-returns-in_default-symbol : goal.named-returns-in_default-symbol
named-returns-in_default-symbol t c =
    named_alone c.requires.0 c.requires.1 c.requires.2 c.in-Some.ensures.2 c.in-Some.ensures.0 c.bound-b.ensures
    c.name_meaning-m.ensures (rw c.cell_of.ensures at c.put-cell.ensures) c.in_default-symbol.ensures.past (omega arith)
    (rw (c.err-found.ensures.value, fault_err c.name_meaning-m.result) at c.completed.ensures)

pub named-returns : goal.named-returns
named-returns t c =
    named_read c.requires.0 c.requires.1 c.requires.2 c.in-Some.ensures.2 c.in-Some.ensures.0 c.bound-b.ensures
    c.name_meaning-m.ensures (rw c.cell_of.ensures at c.put-cell.ensures) c.in-Some-symbol.ensures.past c.in-Some-symbol.ensures.inside c.nest-inner.ensures
    (rw (c.err-found.ensures.value, fault_err c.name_meaning-m.result) at c.in_ok-a.ensures) c.completed-2.ensures

pub named-returns-in_default : goal.named-returns-in_default
named-returns-in_default t c =
    refused_here _
    (named_unnamed c.requires.0 c.requires.1 c.requires.2 c.in_default.ensures refl (stopped _ _ _))
    (sym code_malformed) c.requires.1

pub named-returns-in_err-a : goal.named-returns-in_err-a
named-returns-in_err-a t c =
    let p = err_from_is_err_and c.from_residual.result c.from_residual.ensures.1 in
    rw (p.1, p.2)
    (refused_here _
    (named_read c.requires.0 c.requires.1 c.requires.2 c.in-Some.ensures.2 c.in-Some.ensures.0 c.bound-b.ensures
    c.name_meaning-m.ensures (rw c.cell_of.ensures at c.put-cell.ensures) c.in-Some-symbol.ensures.past c.in-Some-symbol.ensures.inside c.nest-inner.ensures
    (rw (c.err-found.ensures.value, fault_err c.name_meaning-m.result) at c.in_err-a.ensures) (completed_refused _ (code_nonzero _)))
    refl c.requires.1)
