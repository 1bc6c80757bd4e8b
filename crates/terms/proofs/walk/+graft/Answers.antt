use Prim.Native.Nat.{ℕ, ◌-◌, ◌<◌}
use mathlib.Core.Path.{◌≡◌, sym}
use native.Mathlib.Omega.{arith}
use lib.ListN.{length, get_or, take}
use lib.Seq.{get_or-take, length-take-le}
use Rattle.aut68.specs.Sizes.{cell_values}
use Rattle.terms.specs.declared.leaves.Change.{Change}
use Rattle.terms.specs.declared.leaves.Change.TheVariants.{Lift, Substitute}
use Rattle.terms.specs.declared.leaves.Leaf.TheVariants.{Expression}
use Rattle.terms.specs.Grafts.{Stands, PutFor}
use Rattle.terms.proofs.WalkLaws.{start, finish}
use Rattle.terms.proofs.Turns.{stop_start, stop_source, stop_full, Ready, turn_branch, turn_cell, stop_high, turn_put, stop_put, stop_domain, stop_body, turn_abstraction}
use Rattle.terms.proofs.walk.+graft.Invariants.{effort}
use Rattle.terms.proofs.walk.+graft.Goals as goal
use Rattle.terms.proofs.walk.+graft.Goals.{Else-at-w, in-One, in-Expression+in_ok-put-in-Expression}

effort-lifting : (change : Change) (end from j : ℕ) {t : ℕ} → effort change end from ≡ t → PutFor (Expression j) change → end - j < t
effort-lifting (Lift d) end from j e p = absurd p
effort-lifting (Substitute number) end from j e p = omega arith

-- where a cell has been read
ready : (t : ℕ) (c : Else-at-w t)
    → let A = c.args in
    let l = c.loop-pending in
    Ready cell_values (Stands A.table.now A.change) A.table.now A.end A.from A.w.now A.to A.cut (λ low. low)
    l.w (get_or l.w l.i 0) l.i l.at l.pending
ready t c = record {
  below = c.requires.0;
  inv = c.loop-pending.invariant.0;
  some = c.loop-pending-test.true;
  room = c.if-at-w.false;
  inside = omega arith;
  read = sym (get_or-take _ _ _ 0 (inside t c));
}
  where
    inside : (t : ℕ) (c : Else-at-w t) → c.loop-pending.i < c.args.end
    inside t c = omega arith

-- what it may still read
effort-is : (t : ℕ) (c : Else-at-w t) → let A = c.args in effort A.change A.end A.from ≡ t
effort-is t c = c.decreases

low-long : (t : ℕ) (c : Else-at-w t) → let A = c.args in length (take A.end A.w.now) ≡ A.end
low-long t c = c.loop-pending.invariant.1

pub returns-then-from-end : goal.returns-then-from-end
returns-then-from-end t c = let A = c.args in stop_start (omega (arith, length-take-le A.end A.w.now (omega arith)))

pub loop-pending-init : goal.loop-pending-init
loop-pending-init t c =
    let A = c.args in
    let l = length-take-le A.end A.w.now (omega arith) in
    (start (omega arith) (omega arith), l)

pub returns-then-pending-end : goal.returns-then-pending-end
returns-then-pending-end t c = stop_source c.loop-pending.invariant.0 (omega arith)

pub returns-then-at-w : goal.returns-then-at-w
returns-then-at-w t c = stop_full c.loop-pending.invariant.0 c.loop-pending-test.true c.if-at-w.true

pub returns-in_err-domain : goal.returns-in_err-domain
returns-in_err-domain t c =
    rw c.from_residual.ensures (stop_domain (ready t (goal.at.returns-in_err-domain t c).Else-at-w) c.if-k-eq5.true c.in_err-domain.ensures)

pub returns-in_err-body : goal.returns-in_err-body
returns-in_err-body t c =
    rw c.from_residual-in_err-body.ensures
    (stop_body (ready t (goal.at.returns-in_err-body t c).Else-at-w) c.if-k-eq5.true c.in_ok-domain.ensures c.in_err-body.ensures)

pub loop-pending-preserved-then-k-eq5 : goal.loop-pending-preserved-then-k-eq5
loop-pending-preserved-then-k-eq5 t c =
    let read = (goal.at.loop-pending-preserved-then-k-eq5 t c).Else-at-w in
    (turn_abstraction (ready t read) c.if-k-eq5.true c.in_ok-domain.ensures c.in_ok-body.ensures, low-long t read)

pub graft-requires-in-Expression : goal.graft-requires-in-Expression
graft-requires-in-Expression t c =
    (effort-lifting _ _ _ _ (effort-is t (goal.at.graft-requires-in-Expression t c).Else-at-w) c.in-Expression.ensures.put, omega arith)

pub returns-in_err-put-in-Expression : goal.returns-in_err-put-in-Expression
returns-in_err-put-in-Expression t c =
    rw c.from_residual-in_err-put-in-Expression.ensures
    (stop_put (ready t (goal.at.returns-in_err-put-in-Expression t c).Else-at-w) c.if-k-lt3.true (c.in-Expression.ensures.leaf _ _) c.in_err-put-in-Expression.ensures)

pub returns-in-TooHigh : goal.returns-in-TooHigh
returns-in-TooHigh t c = stop_high (ready t (goal.at.returns-in-TooHigh t c).Else-at-w) c.if-k-lt3.true (c.in-TooHigh.ensures.leaf _ _)

pub loop-pending-preserved-then-k-lt3 : goal.loop-pending-preserved-then-k-lt3
loop-pending-preserved-then-k-lt3 t c =
    let read = (goal.at.loop-pending-preserved-then-k-lt3 t c).Else-at-w in
    elim c.match-bound_for.branch [
      | in-One w ↦ rw (w.w-is, w.i-is, w.at-is) (turn_cell (ready t read) c.if-k-lt3.true (w.in-One.ensures.leaf _ _), low-long t read)
      | in-Expression+in_ok-put-in-Expression w ↦
          rw (w.w-is, w.i-is, w.at-is)
          (turn_put (ready t read) c.if-k-lt3.true (w.in-Expression.ensures.leaf _ _) w.in_ok-put-in-Expression.ensures, low-long t read)
    ]

pub loop-pending-preserved : goal.loop-pending-preserved
loop-pending-preserved t c =
    let read = (goal.at.loop-pending-preserved t c).Else-at-w in
    (rw c.kids.ensures.0 (turn_branch (ready t read) c.if-k-lt3.false c.if-k-eq5.false), low-long t read)

pub returns : goal.returns
returns t c = finish c.loop-pending.invariant.0 (omega arith)
