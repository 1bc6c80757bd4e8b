use mathlib.Core.Path.{refl}
use Rattle.std.proofs.lemmas.Result.{err_from_is_err_and}
use Rattle.sides.proofs.ProgressLaws.{put_in_place}
use Rattle.sides.proofs.Settling.{settled_same, settle_on, settle_ended}
use Rattle.sides.proofs.sides.settle.Goals as goal

pub returns-in_default : goal.returns-in_default
returns-in_default c = settled_same c.in_default.ensures refl

pub returns-in_err-turn : goal.returns-in_err-turn
returns-in_err-turn c =
    let p = err_from_is_err_and c.from_residual.result c.from_residual.ensures.1 in
    rw (p.1, p.2) (settle_ended c.loop-next.invariant (put_in_place c.in-Some.ensures refl c.open_pair.auto.w) c.in_err-turn.ensures _ refl)

pub returns-in-Identical : goal.returns-in-Identical
returns-in-Identical c =
    settle_ended c.loop-next.invariant (put_in_place c.in-Some.ensures refl c.open_pair.auto.w) (rw c.in-Identical.is at c.in_ok-turn.ensures) _ refl

pub returns-in-Normal : goal.returns-in-Normal
returns-in-Normal c =
    settle_ended c.loop-next.invariant (put_in_place c.in-Some.ensures refl c.open_pair.auto.w) (rw c.in-Normal.is at c.in_ok-turn.ensures) _ refl

pub loop-next-preserved : goal.loop-next-preserved
loop-next-preserved c = settle_on c.loop-next.invariant (rw c.in-Stepped.is at c.in_ok-turn.ensures) c.turn.auto.w
