use mathlib.Core.Path.{refl}
use native.Mathlib.Omega.{arith}
use Rattle.cells.specs.Forests.{at_inside, size_is_length}
use Rattle.heads.proofs.HeadLaws.{search_starts, search_inside, search_ends, search_application, applying_inside, search_contracts, search_passes}
use Rattle.heads.proofs.heads.head_of.Goals as goal

pub returns-then-at-w : goal.returns-then-at-w
returns-then-at-w c = record { placed = omega arith; is = λ B k e K a q. absurd (omega (arith, at_inside e a, size_is_length e)) }

pub loop-i-init : goal.loop-i-init
loop-i-init c = (omega arith, omega arith, refl, omega arith, record { of = λ B k e K a q. search_starts k e K a q })

pub returns-in_err-step : goal.returns-in_err-step
returns-in_err-step c =
    let I = c.loop-i.invariant in
    rw c.from_residual.ensures
    (record {
      placed = omega arith;
      is = λ B k e K a q. search_ends B (λ z. absurd (omega arith)) (I.4.of B k e K a q) c.if-x-ne4.true c.in_err-step.ensures;
    })

pub returns-then-x-ne4 : goal.returns-then-x-ne4
returns-then-x-ne4 c =
    let I = c.loop-i.invariant in
    record {
      placed = omega arith;
      is = λ B k e K a q. search_ends B (λ z. (refl, refl)) (I.4.of B k e K a q) c.if-x-ne4.true c.in_ok-step.ensures;
    }

pub returns-then-b-end : goal.returns-then-b-end
returns-then-b-end c =
    let I = c.loop-i.invariant in
    record {
      placed = omega arith;
      is = λ B k e K a q. absurd (omega (arith, applying_inside B (search_application B (I.4.of B k e K a q) c.if-x-ne4.false c.skip-b.ensures)));
    }

pub returns-then-w-b-eq5 : goal.returns-then-w-b-eq5
returns-then-w-b-eq5 c =
    let I = c.loop-i.invariant in
    record {
      placed = omega arith;
      is = λ B k e K a q. search_contracts B (search_application B (I.4.of B k e K a q) c.if-x-ne4.false c.skip-b.ensures) c.if-w-b-eq5.true refl refl refl;
    }

pub loop-i-preserved : goal.loop-i-preserved
loop-i-preserved c =
    let I = c.loop-i.invariant in
    let S = c.skip-b.ensures.within (omega arith) in (
      omega arith,
      omega arith,
      I.2,
      I.3,
      record {
        of = λ B k e K a q. search_passes B (search_application B (I.4.of B k e K a q) c.if-x-ne4.false c.skip-b.ensures) c.if-w-b-eq5.false;
      },
    )

pub returns : goal.returns
returns c =
    let I = c.loop-i.invariant in
    record {
      placed = omega arith;
      is = λ B k e K a q. absurd (omega (arith, search_inside (I.4.of B k e K a q)));
    }
