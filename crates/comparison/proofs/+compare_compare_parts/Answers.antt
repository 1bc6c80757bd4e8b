use native.Mathlib.Omega.{arith}
use Prim.Native.Nat.{ℕ, ◌+◌, ◌-◌}
use mathlib.Core.Path.{◌≡◌, refl}
use Rattle.std.proofs.lemmas.Result.{err_from_is_err_and}
use Rattle.lookup.specs.Answers.{code_nonzero}
use Rattle.comparison.proofs.Depths.{no_pair, Opened, side_small}
use Rattle.comparison.proofs.Pairs.{compare_at_none, compare_ended, compare_parted}
use Rattle.comparison.proofs.Parts.{shapes_differ, parts_start, parts_done, parts_stopped, parts_next}
use Rattle.comparison.proofs.+compare_compare_parts.Goals as goal
use Rattle.comparison.proofs.+compare_compare_parts.Goals.{compare-After-side_at-l}

-- what is known where the sides are placed
opened : (t : ℕ) (c : compare-After-side_at-l t)
    → (let a = c.args in
    Opened a.limit a.deeper c.side_at-l.result (c.side_at-l.result + a.limit))
opened t c = record {
  some = c.if-deeper-eq0.false;
  few = c.if-deeper-gt-NESTING.false;
  small = c.if-limit-gt-LARGEST_LIMIT.false;
  left = c.side_at-l.ensures c.if-limit-gt-LARGEST_LIMIT.false c.if-deeper-gt-NESTING.false;
  right = refl;
}

pub compare-returns-then-deeper-eq0 : goal.compare-returns-then-deeper-eq0
compare-returns-then-deeper-eq0 t c = no_pair (λ ls e f. compare_at_none ls _ e f _) (λ p q r. omega arith)

pub compare-overflow_add-r : goal.compare-overflow_add-r
compare-overflow_add-r t c = omega (arith, side_small _ c.args.deeper _ (opened t c).small (opened t c).left)

pub compare-returns-in_err-settle : goal.compare-returns-in_err-settle
compare-returns-in_err-settle t c =
    let p = err_from_is_err_and c.from_residual.result c.from_residual.ensures.1 in
    rw (p.1, p.2) (compare_ended (opened t (goal.at.compare-returns-in_err-settle t c).After-side_at-l) c.in_err-settle.ensures (λ q. absurd (cc)))

pub compare-returns-in-Identical : goal.compare-returns-in-Identical
compare-returns-in-Identical t c =
    compare_ended (opened t (goal.at.compare-returns-in-Identical t c).After-side_at-l) (rw c.in-Identical.is at c.in_ok-settle.ensures) (λ q. absurd (cc))

pub compare-returns-in-Normal : goal.compare-returns-in-Normal
compare-returns-in-Normal t c =
    compare_parted (opened t (goal.at.compare-returns-in-Normal t c).After-side_at-l) (rw c.in-Normal.is at c.in_ok-settle.ensures) c.compare_parts.ensures

pub compare_parts-returns-in_default : goal.compare_parts-returns-in_default
compare_parts-returns-in_default t c = shapes_differ c.in_default.ensures refl

pub compare_parts-loop-part-init : goal.compare_parts-loop-part-init
compare_parts-loop-part-init t c =
    let all : c.in-Some.parts - 0 ≡ c.in-Some.parts = omega arith in
    rw all (parts_start c.in-Some.ensures refl)

pub compare_parts-returns-in_err-compare : goal.compare_parts-returns-in_err-compare
compare_parts-returns-in_err-compare t c =
    let I = c.loop-part.invariant in
    let p = err_from_is_err_and c.from_residual.result c.from_residual.ensures.1 in
    rw (p.1, p.2)
    (parts_stopped I (omega (arith, c.loop-part-test.true)) c.in_err-compare.ensures c.compare.auto.w (λ z. code_nonzero _ z))

pub compare_parts-loop-part-preserved : goal.compare_parts-loop-part-preserved
compare_parts-loop-part-preserved t c =
    let I = c.loop-part.invariant in
    let left : c.in-Some.parts - (c.loop-part._part + 1) ≡ c.in-Some.parts - c.loop-part._part - 1 = omega arith in
    rw left (parts_next I (omega (arith, c.loop-part-test.true)) c.in_ok-compare.ensures c.compare.auto.w refl c.skip-i.ensures c.skip-j.ensures)

pub compare_parts-returns : goal.compare_parts-returns
compare_parts-returns t c = parts_done c.loop-part.invariant (omega (arith, c.loop-part-test.false))
