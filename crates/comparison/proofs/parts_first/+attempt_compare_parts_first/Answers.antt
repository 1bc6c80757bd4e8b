use native.Mathlib.Omega.{arith}
use Prim.Native.Nat.{ℕ, ◌+◌, ◌-◌}
use mathlib.Core.Path.{◌≡◌, refl}
use Rattle.std.proofs.lemmas.Result.{err_from_is_err_and}
use Rattle.lookup.specs.Answers.{code_nonzero}
use Rattle.sides.proofs.ProgressLaws.{put_in_place}
use Rattle.comparison.proofs.Depths.{no_pair, Opened, side_small}
use Rattle.comparison.proofs.Parts.{shapes_differ, parts_start, parts_done, parts_stopped, parts_next}
use Rattle.comparison.proofs.Attempts.{parts_first_none, first_same, pass_same, pass_stands, pass_ended, pass_next, different, mismatched}
use mathlib.Core.Bool.{true, false}
use Rattle.constants.specs.declared.codes.Reason.TheVariants.{Mismatch}
use Rattle.comparison.proofs.parts_first.+attempt_compare_parts_first.Goals as goal
use Rattle.comparison.proofs.parts_first.+attempt_compare_parts_first.Goals.{compare_parts_first-After-side_at-l}

-- what is known where the sides are placed
opened : (t : ℕ) (c : compare_parts_first-After-side_at-l t)
    → (let a = c.args in
    Opened a.limit a.deeper c.side_at-l.result (c.side_at-l.result + a.limit))
opened t c = record {
  some = c.if-deeper-eq0.false;
  few = c.if-deeper-gt-NESTING.false;
  small = c.if-limit-gt-LARGEST_LIMIT.false;
  left = c.side_at-l.ensures c.if-limit-gt-LARGEST_LIMIT.false (omega (arith, c.if-deeper-gt-NESTING.false));
  right = refl;
}

pub attempt-returns-in_default : goal.attempt-returns-in_default
attempt-returns-in_default t c = record { spends = omega arith; compares = shapes_differ c.in_default.ensures refl }

pub attempt-loop-part-init : goal.attempt-loop-part-init
attempt-loop-part-init t c =
    let all : c.in-Some.parts - 0 ≡ c.in-Some.parts = omega arith in
    (omega arith, rw all (parts_start c.in-Some.ensures refl))

pub attempt-returns-in_err-compare_parts_first : goal.attempt-returns-in_err-compare_parts_first
attempt-returns-in_err-compare_parts_first t c =
    let I = c.loop-part.invariant.1 in
    let p = err_from_is_err_and c.from_residual.result c.from_residual.ensures.1 in
    rw (p.1, p.2)
    (record { spends = omega (arith, c.loop-part.invariant.0, c.compare_parts_first.ensures.spends); compares = parts_stopped I (omega (arith, c.loop-part-test.true)) c.in_err-compare_parts_first.ensures.compares c.compare_parts_first.auto.w (λ z. code_nonzero _ z) })

pub attempt-loop-part-preserved : goal.attempt-loop-part-preserved
attempt-loop-part-preserved t c =
    let I = c.loop-part.invariant.1 in
    let left : c.in-Some.parts - (c.loop-part._part + 1) ≡ c.in-Some.parts - c.loop-part._part - 1 = omega arith in
    (omega (arith, c.loop-part.invariant.0, c.compare_parts_first.ensures.spends), rw left (parts_next I (omega (arith, c.loop-part-test.true)) c.in_ok-compare_parts_first.ensures.compares c.compare_parts_first.auto.w refl c.skip-i.ensures c.skip-j.ensures))

pub attempt-returns : goal.attempt-returns
attempt-returns t c = record { spends = c.loop-part.invariant.0; compares = parts_done c.loop-part.invariant.1 (omega (arith, c.loop-part-test.false)) }

pub compare_parts_first-returns-then-deeper-eq0 : goal.compare_parts_first-returns-then-deeper-eq0
compare_parts_first-returns-then-deeper-eq0 t c =
    record { spends = omega arith; compares = no_pair (λ ls e f. parts_first_none ls _ e f _) (λ p q r. omega arith) }

pub compare_parts_first-overflow_add-r : goal.compare_parts_first-overflow_add-r
compare_parts_first-overflow_add-r t c = omega (arith, side_small _ c.args.deeper _ (opened t c).small (opened t c).left)

pub compare_parts_first-returns-in_default : goal.compare_parts_first-returns-in_default
compare_parts_first-returns-in_default t c = first_same (opened t (goal.at.compare_parts_first-returns-in_default t c).After-side_at-l) c.in_default.ensures refl

pub compare_parts_first-returns-then-identical : goal.compare_parts_first-returns-then-identical
compare_parts_first-returns-then-identical t c =
    pass_same (opened t (goal.at.compare_parts_first-returns-then-identical t c).After-side_at-l) (put_in_place c.in-Some.ensures refl c.open_pair.auto.w) c.loop-sizes.invariant
    c.identical.ensures c.if-identical.true

pub compare_parts_first-returns-in_default-attempt : goal.compare_parts_first-returns-in_default-attempt
compare_parts_first-returns-in_default-attempt t c =
    pass_stands (opened t (goal.at.compare_parts_first-returns-in_default-attempt t c).After-side_at-l) (put_in_place c.in-Some.ensures refl c.open_pair.auto.w) c.loop-sizes.invariant
    c.identical.ensures c.if-identical.false
    c.in_default-attempt.ensures c.attempt.auto.w (λ q. omega arith)

pub compare_parts_first-returns-then-ne : goal.compare_parts_first-returns-then-ne
compare_parts_first-returns-then-ne t c =
    pass_stands (opened t (goal.at.compare_parts_first-returns-then-ne t c).After-side_at-l) (put_in_place c.in-Some.ensures refl c.open_pair.auto.w) c.loop-sizes.invariant
    c.identical.ensures c.if-identical.false
    c.in-Err.ensures c.attempt.auto.w
    λ q. let e : c.in-Err.reason ≡ Mismatch = different _ q in let g : true ≡ false = rw e at c.if-ne.ensures in absurd (cc)

pub compare_parts_first-returns-in_err-turn : goal.compare_parts_first-returns-in_err-turn
compare_parts_first-returns-in_err-turn t c =
    let p = err_from_is_err_and c.from_residual.result c.from_residual.ensures.1 in
    rw (p.1, p.2)
    (pass_ended (opened t (goal.at.compare_parts_first-returns-in_err-turn t c).After-side_at-l) (put_in_place c.in-Some.ensures refl c.open_pair.auto.w) c.loop-sizes.invariant
    c.identical.ensures c.if-identical.false
    (rw (mismatched _ c.if-ne.ensures) at c.in-Err.ensures) c.attempt.auto.w c.in_err-turn.ensures refl)

pub compare_parts_first-returns-in-Identical : goal.compare_parts_first-returns-in-Identical
compare_parts_first-returns-in-Identical t c =
    pass_ended (opened t (goal.at.compare_parts_first-returns-in-Identical t c).After-side_at-l) (put_in_place c.in-Some.ensures refl c.open_pair.auto.w) c.loop-sizes.invariant
    c.identical.ensures c.if-identical.false
    (rw (mismatched _ c.if-ne.ensures) at c.in-Err.ensures) c.attempt.auto.w (rw c.in-Identical.is at c.in_ok-turn.ensures) refl

pub compare_parts_first-returns-in-Normal : goal.compare_parts_first-returns-in-Normal
compare_parts_first-returns-in-Normal t c =
    pass_ended (opened t (goal.at.compare_parts_first-returns-in-Normal t c).After-side_at-l) (put_in_place c.in-Some.ensures refl c.open_pair.auto.w) c.loop-sizes.invariant
    c.identical.ensures c.if-identical.false
    (rw (mismatched _ c.if-ne.ensures) at c.in-Err.ensures) c.attempt.auto.w (rw c.in-Normal.is at c.in_ok-turn.ensures) refl

pub compare_parts_first-loop-sizes-preserved : goal.compare_parts_first-loop-sizes-preserved
compare_parts_first-loop-sizes-preserved t c =
    pass_next (opened t (goal.at.compare_parts_first-loop-sizes-preserved t c).After-side_at-l) (put_in_place c.in-Some.ensures refl c.open_pair.auto.w) c.loop-sizes.invariant
    c.identical.ensures c.if-identical.false
    (rw (mismatched _ c.if-ne.ensures) at c.in-Err.ensures) c.attempt.auto.w (rw c.in-Stepped.is at c.in_ok-turn.ensures) c.turn.auto.w
