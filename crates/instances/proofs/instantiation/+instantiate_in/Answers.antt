use Prim.Native.Nat.{ℕ}
use mathlib.Core.Path.{refl}
use native.Mathlib.Omega.{arith}
use lib.ListN.{get_or}
use Rattle.aut68.specs.Sizes.{cell_values}
use Rattle.terms.specs.Grafts.{Instantiates}
use Rattle.terms.proofs.WalkLaws.{start, finish}
use Rattle.terms.proofs.Turns.{stop_start, stop_source, stop_full, Ready, turn_branch, turn_cell, stop_high, turn_put, stop_put, stop_domain, stop_body, turn_abstraction}
use Rattle.instances.proofs.instantiation.+instantiate_in.Goals as goal
use Rattle.instances.proofs.instantiation.+instantiate_in.Goals.{Else-at-w, in-One, in-Expression+in_ok-put-in-Expression}

ready : (t : ℕ) (c : Else-at-w t)
    → let A = c.args in
    Ready cell_values (Instantiates A.table.now A.base A.count A.starts.now) A.table.now A.end A.from A.w.now A.to A.cut
    (λ low. A.s.now) c.loop-pending.w (get_or A.s.now c.loop-pending.i 0) c.loop-pending.i c.loop-pending.at c.loop-pending.pending
ready t c =
    record {
      below = c.requires.0;
      inv = c.loop-pending.invariant;
      some = c.loop-pending-test.true;
      room = c.if-at-w.false;
      inside = omega arith;
      read = refl;
    }

pub returns-then-from-s : goal.returns-then-from-s
returns-then-from-s t c = stop_start (omega arith)

pub loop-pending-init : goal.loop-pending-init
loop-pending-init t c = start (omega arith) (omega arith)

pub returns-then-pending-s : goal.returns-then-pending-s
returns-then-pending-s t c = stop_source c.loop-pending.invariant (omega arith)

pub returns-then-at-w : goal.returns-then-at-w
returns-then-at-w t c = stop_full c.loop-pending.invariant c.loop-pending-test.true c.if-at-w.true

pub returns-in_err-domain : goal.returns-in_err-domain
returns-in_err-domain t c =
    rw c.from_residual.ensures (stop_domain (ready t (goal.at.returns-in_err-domain t c).Else-at-w) c.if-k-eq5.true c.in_err-domain.ensures)

pub returns-in_err-body : goal.returns-in_err-body
returns-in_err-body t c =
    rw c.from_residual-in_err-body.ensures
    (stop_body (ready t (goal.at.returns-in_err-body t c).Else-at-w) c.if-k-eq5.true c.in_ok-domain.ensures c.in_err-body.ensures)

pub loop-pending-preserved-then-k-eq5 : goal.loop-pending-preserved-then-k-eq5
loop-pending-preserved-then-k-eq5 t c =
    turn_abstraction (ready t (goal.at.loop-pending-preserved-then-k-eq5 t c).Else-at-w) c.if-k-eq5.true c.in_ok-domain.ensures c.in_ok-body.ensures

pub returns-in_err-put-in-Expression : goal.returns-in_err-put-in-Expression
returns-in_err-put-in-Expression t c =
    rw c.from_residual-in_err-put-in-Expression.ensures
    (stop_put (ready t (goal.at.returns-in_err-put-in-Expression t c).Else-at-w) c.if-k-lt3.true (c.in-Expression.ensures _ _) c.in_err-put-in-Expression.ensures)

pub returns-in-TooHigh : goal.returns-in-TooHigh
returns-in-TooHigh t c = stop_high (ready t (goal.at.returns-in-TooHigh t c).Else-at-w) c.if-k-lt3.true (c.in-TooHigh.ensures _ _)

pub loop-pending-preserved-then-k-lt3 : goal.loop-pending-preserved-then-k-lt3
loop-pending-preserved-then-k-lt3 t c =
    let read = (goal.at.loop-pending-preserved-then-k-lt3 t c).Else-at-w in
    elim c.match-argument_for.branch [
      | in-One w ↦ rw (w.w-is, w.i-is, w.at-is) (turn_cell (ready t read) c.if-k-lt3.true (w.in-One.ensures _ _))
      | in-Expression+in_ok-put-in-Expression w ↦
          rw (w.w-is, w.i-is, w.at-is) (turn_put (ready t read) c.if-k-lt3.true (w.in-Expression.ensures _ _) w.in_ok-put-in-Expression.ensures)
    ]

pub loop-pending-preserved : goal.loop-pending-preserved
loop-pending-preserved t c = rw c.kids.ensures.0 (turn_branch (ready t (goal.at.loop-pending-preserved t c).Else-at-w) c.if-k-lt3.false c.if-k-eq5.false)

pub returns : goal.returns
returns t c = finish c.loop-pending.invariant (omega arith)
