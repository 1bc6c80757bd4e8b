-- `check_linked`: a paragraph line or an ordinary one passes or stops the check (PieceLaws); the book ends (LoopLaws).
use mathlib.Core.Path.{refl, ap, ◌∙◌}
use native.Mathlib.Omega.{arith}
use Rattle.aut68.specs.Stores.{stores}
use Rattle.constants.specs.Refusals.{code_in}
use Rattle.lookup.specs.Answers.{code_nonzero}
use Rattle.books.proofs.LoopLaws.{stands_first, going_starts, going_ends, ends_as, fitting_as}
use Rattle.books.proofs.PieceLaws.{sign_is_one, sign_passes, sign_stops, line_passes, line_stops}
use Rattle.books.proofs.lines.check_linked.Goals as goal

pub loop-p-init : goal.loop-p-init
loop-p-init c =
    let a = c.args in (
      refl,
      refl,
      refl,
      refl,
      λ work. going_starts a.book.now a.budget a.limit (stores a.table.now a.terms.now work a.index.now) c.clear.new.w c.none_open-o.result
          (stands_first a.limit a.book.now a.table.now a.w.now _ c.requires c.line_at-hints.ensures c.clear.ensures c.clear.auto.w)
          (c.none_open-o.ensures a.book.now),
    )

pub slice_bounds-sign_of-count : goal.slice_bounds-sign_of-count
slice_bounds-sign_of-count c = omega (arith, c.line_end-next.ensures.from c.loop-p-test.true)

pub slice_bounds-sign_of-start : goal.slice_bounds-sign_of-start
slice_bounds-sign_of-start c = omega (arith, c.line_end-next.ensures.from c.loop-p-test.true)

pub slice_bounds-sign_of-end : goal.slice_bounds-sign_of-end
slice_bounds-sign_of-end c = c.line_end-next.ensures.within (omega (arith, c.loop-p-test.true))

pub check_signed-requires : goal.check_signed-requires
check_signed-requires c =
    let inside = c.loop-p-test.true in
    let end = c.line_end-next.ensures in
    (omega (arith, end.from inside), end.within (omega arith), c.requires.short)

pub returns-in-Err : goal.returns-in-Err
returns-in-Err c =
    let k = c.check_signed in
    let v = c.loop-p.invariant in
    let fits = fitting_as c.requires (v.3 ∙ c.clear.auto.w) in
    λ work. ends_as _ (ap code_in c.end_of.ensures.0) c.end_of.ensures.1 c.end_of.ensures.2
    (sign_stops (v.4 work) fits c.line_end-next.ensures c.loop-p-test.true c.kinds_of_bytes-kinds.ensures c.in-Some.ensures
    (sign_is_one c.in-Some.sign) refl k.new.w c.in-Err.ensures (code_nonzero _))

pub check_line-requires : goal.check_line-requires
check_line-requires c =
    let inside = c.loop-p-test.true in
    (omega (arith, c.line_end-next.ensures.from inside), c.line_end-next.ensures.within (omega arith))

pub loop-p-preserved-in-Some : goal.loop-p-preserved-in-Some
loop-p-preserved-in-Some c =
    let k = c.check_signed in
    let v = c.loop-p.invariant in
    let fits = fitting_as c.requires (v.3 ∙ c.clear.auto.w) in (
      v.0,
      v.1,
      v.2,
      k.auto.w ∙ v.3,
      λ work. sign_passes (v.4 work) fits c.line_end-next.ensures c.loop-p-test.true c.kinds_of_bytes-kinds.ensures c.in-Some.ensures
          (sign_is_one c.in-Some.sign) refl k.new.w c.in-Ok.ensures refl,
    )

pub returns-in-Err-check_line : goal.returns-in-Err-check_line
returns-in-Err-check_line c =
    let v = c.loop-p.invariant in
    let fits = fitting_as c.requires (v.3 ∙ c.clear.auto.w) in
    let e = c.end_of-in-Err-check_line.ensures in
    λ work. ends_as _ (ap code_in e.0) e.1 e.2
    (line_stops (v.4 work) fits c.line_end-next.ensures c.loop-p-test.true c.kinds_of_bytes-kinds.ensures c.in_default.ensures
    refl refl c.in-Err-check_line.ensures.line (code_nonzero _))

pub loop-p-smaller : goal.loop-p-smaller
loop-p-smaller c =
    let inside = c.loop-p-test.true in
    omega (arith, c.in_default-check_line.ensures.line.onward refl, c.line_end-next.ensures.from inside, c.line_end-next.ensures.within (omega arith))

pub loop-p-preserved : goal.loop-p-preserved
loop-p-preserved c =
    let k = c.check_line in
    let v = c.loop-p.invariant in
    let fits = fitting_as c.requires (v.3 ∙ c.clear.auto.w) in (
      k.auto.table ∙ v.0,
      k.auto.terms ∙ v.1,
      k.auto.index ∙ v.2,
      k.auto.w ∙ v.3,
      λ work. line_passes (v.4 work) fits c.line_end-next.ensures c.loop-p-test.true c.kinds_of_bytes-kinds.ensures c.in_default.ensures
          refl refl c.in_default-check_line.ensures.line refl,
    )

pub returns : goal.returns
returns c =
    let a = c.args in
    let v = c.loop-p.invariant in
    let e = c.at_end.ensures in
    let f = c.end_of-2.ensures in
    λ work. ends_as _ (ap code_in f.0) f.1 f.2
    (going_ends a.book.now a.budget a.limit (stores a.table.now a.terms.now work a.index.now) (v.4 work) c.loop-p-test.false e.0 e.1)
