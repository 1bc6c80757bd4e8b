use mathlib.Core.Path.{refl, sym}
use mathlib.Core.Bool.{true≢false}
use Prim.Native.Nat.{◌-◌}
use native.Mathlib.Omega.{arith}
use Rattle.strings.proofs.WalkLaws.{Walked, walk_starts, walk_at, walk_behind, walk_ends, walked_past, walked_abstraction, walked_other}
use Rattle.strings.proofs.is_bound.Goals as goal
use Rattle.strings.proofs.is_bound.Goals.{Joined-parts-have, then-parts-have, else-parts-have+then-x-eq5, else-parts-have+else-x-eq5}

-- where the branches meet
walked : (c : Joined-parts-have)
    → Walked c.args.table.now c.args.s.now c.args.i (c.loop-j.j - 1) c.if-parts-have.have c.if-parts-have.found
walked c =
    let I = walk_behind (omega arith) c.loop-j.invariant.1 in
    let k = c.kids-parts.ensures.0 in
    elim c.if-parts-have.branch [
      | then-parts-have w ↦ walked_past I k w.if-parts-have.true w.have-is w.found-is
      | else-parts-have+then-x-eq5 w ↦ walked_abstraction I k (omega (arith, w.if-parts-have.false)) w.if-x-eq5.true w.have-is w.found-is
      | else-parts-have+else-x-eq5 w ↦ walked_other I k (omega (arith, w.if-parts-have.false)) w.if-x-eq5.false w.have-is w.found-is
    ]

pub loop-j-init : goal.loop-j-init
loop-j-init c = (omega arith, walk_starts)

pub returns-then-found-n : goal.returns-then-found-n
returns-then-found-n c = record { means = λ p. (λ _. omega (arith, c.if-found-n.true, ((walked (goal.at.returns-then-found-n c).Joined-parts-have).is p).1), λ _. refl) }

pub loop-j-preserved : goal.loop-j-preserved
loop-j-preserved c = (omega (arith, c.if-found-n.false), walked (goal.at.loop-j-preserved c).Joined-parts-have)

pub returns : goal.returns
returns c =
    let I = c.loop-j.invariant in
    record { means = λ p. (λ e. absurd (true≢false (sym e)), λ l. absurd (omega (arith, I.0, walk_ends (walk_at (omega arith) I.1) p))) }
