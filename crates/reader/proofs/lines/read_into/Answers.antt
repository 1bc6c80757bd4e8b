use mathlib.Core.Path.{refl, ap}
use Rattle.std.proofs.lemmas.Result.{err_from_is_err_and}
use Rattle.aut68.specs.Procedure.Answer.{code_of}
use Rattle.lookup.specs.Answers.{code_nonzero}
use Rattle.expressions.specs.Walk.{fault_in}
use Rattle.reader.proofs.StepLaws.{known_place, place_none, place_some}
use Rattle.reader.proofs.LineLaws.{line_heading_refused, line_body_refused, line_no_indicator, line_taken, line_large_middle, line_large_category, line_fault, line_read}
use Rattle.reader.proofs.lines.read_into.Goals as goal
use Rattle.reader.proofs.lines.read_into.Goals.{then-middle-limit-via-then-middle-limit, then-middle-limit-via-else-middle-limit+then-size-middle}

pub returns-in_default : goal.returns-in_default
returns-in_default c = line_heading_refused c.in_default.ensures refl

pub returns-in_err-b : goal.returns-in_err-b
returns-in_err-b c =
    let p = err_from_is_err_and c.from_residual.result c.from_residual.ensures.1 in
    rw (p.1, p.2)
    (line_body_refused _ c.requires c.in-Some.ensures c.indicator_line-found.ensures.found
    (known_place _ c.indicator_line-found.ensures.small c.unwrap_or-indicator.ensures) c.note_context.ensures c.middle_kind-kind.ensures c.in_err-b.ensures
    (code_nonzero _) refl)

pub returns-then-is_none : goal.returns-then-is_none
unfolding code_of
returns-then-is_none c =
    line_no_indicator _ c.requires c.in-Some.ensures c.indicator_line-found.ensures.found
    (known_place _ c.indicator_line-found.ensures.small c.unwrap_or-indicator.ensures) c.note_context.ensures c.middle_kind-kind.ensures c.in_ok-b.ensures refl
    (place_none _ _ c.is_none.ensures c.if-is_none.true) refl

pub returns-then-is_taken : goal.returns-then-is_taken
unfolding code_of
returns-then-is_taken c =
    line_taken _ c.requires c.in-Some.ensures c.indicator_line-found.ensures.found
    (known_place _ c.indicator_line-found.ensures.small c.unwrap_or-indicator.ensures) c.note_context.ensures c.middle_kind-kind.ensures c.in_ok-b.ensures refl
    (place_some _ _ c.is_none.ensures c.if-is_none.false c.indicator_line-found.ensures.small) c.word.ensures c.is_taken.ensures
    c.if-is_taken.true refl

pub returns-in-Some-fault : goal.returns-in-Some-fault
returns-in-Some-fault c =
    line_fault _ c.requires c.in-Some.ensures c.indicator_line-found.ensures.found
    (known_place _ c.indicator_line-found.ensures.small c.unwrap_or-indicator.ensures) c.note_context.ensures c.middle_kind-kind.ensures c.in_ok-b.ensures refl
    (place_some _ _ c.is_none.ensures c.if-is_none.false c.indicator_line-found.ensures.small) c.word.ensures c.is_taken.ensures
    c.if-is_taken.false (rw c.in-Some-fault.is (code_nonzero _)) (rw c.in-Some-fault.is refl)

pub returns-then-middle-limit : goal.returns-then-middle-limit
unfolding code_of
returns-then-middle-limit c =
    elim c.then-middle-limit.branch [
      | then-middle-limit-via-then-middle-limit w ↦
          line_large_middle _ c.requires c.in-Some.ensures c.indicator_line-found.ensures.found
          (known_place _ c.indicator_line-found.ensures.small c.unwrap_or-indicator.ensures) c.note_context.ensures c.middle_kind-kind.ensures c.in_ok-b.ensures refl
          (place_some _ _ c.is_none.ensures c.if-is_none.false c.indicator_line-found.ensures.small) c.word.ensures c.is_taken.ensures
          c.if-is_taken.false (ap fault_in c.in_default-fault.is) w.if-middle-limit.true refl
      | then-middle-limit-via-else-middle-limit+then-size-middle w ↦
          line_large_category _ c.requires c.in-Some.ensures c.indicator_line-found.ensures.found
          (known_place _ c.indicator_line-found.ensures.small c.unwrap_or-indicator.ensures) c.note_context.ensures c.middle_kind-kind.ensures c.in_ok-b.ensures refl
          (place_some _ _ c.is_none.ensures c.if-is_none.false c.indicator_line-found.ensures.small) c.word.ensures c.is_taken.ensures
          c.if-is_taken.false (ap fault_in c.in_default-fault.is) w.if-middle-limit.false w.if-size-middle.true refl
    ]

pub returns : goal.returns
returns c =
    line_read _ c.requires c.in-Some.ensures c.indicator_line-found.ensures.found
    (known_place _ c.indicator_line-found.ensures.small c.unwrap_or-indicator.ensures) c.note_context.ensures c.middle_kind-kind.ensures c.in_ok-b.ensures refl
    (place_some _ _ c.is_none.ensures c.if-is_none.false c.indicator_line-found.ensures.small) c.word.ensures c.is_taken.ensures
    c.if-is_taken.false (ap fault_in c.in_default-fault.is) c.if-middle-limit.false _ refl c.if-size-middle.false c.context_length.ensures c.current.ensures
