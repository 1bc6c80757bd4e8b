use mathlib.Core.Path.{refl}
use mathlib.Core.Logic.{inl, inr, ⊎_elim}
use native.Mathlib.Omega.{arith}
use Prim.Native.Nat.{◌+◌, ◌<◌}
use lib.ListN.{length}
use Rattle.cells.specs.Forests.{pass_cell, pending_long}
use Rattle.cells.specs.RowLaws.{pending_end}
use Rattle.cells.proofs.rows.skip.Goals as goal
use Rattle.cells.proofs.rows.skip.Goals.{then-i-s-via-then-i-s, then-i-s-via-else-i-s+then-pending-s}

pub loop-pending-init : goal.loop-pending-init
loop-pending-init c = (inl (refl, refl), λ es rest k w a. record { todo = es; counted = k; formed = w; at = a })

pub returns-then-i-s : goal.returns-then-i-s
returns-then-i-s c =
    let I = c.loop-pending.invariant in
    let short : length c.args.s.now < c.loop-pending.i + c.loop-pending.pending = elim c.then-i-s.branch [
      | then-i-s-via-then-i-s w ↦ omega arith
      | then-i-s-via-else-i-s+then-pending-s w ↦ omega arith
    ] in
    record {
      within = λ h. (h, omega arith);
      onward = λ a h. h;
      none = λ z. ⊎_elim (λ k. absurd (omega arith)) (λ k. absurd (omega arith)) I.0;
      past = λ a h. refl;
      ends = λ es rest k w a. absurd (omega (arith, pending_long (I.1 es rest k w a)));
    }

pub loop-pending-preserved : goal.loop-pending-preserved
loop-pending-preserved c =
    let I = c.loop-pending.invariant in (
      inr (⊎_elim (λ k. omega arith) (λ k. omega arith) I.0, omega arith, ⊎_elim (λ k. omega arith) (λ k. omega arith) I.0),
      λ es rest k w a. rw c.kids.ensures.0 (pass_cell (omega arith) (I.1 es rest k w a)),
    )

pub returns : goal.returns
returns c =
    let I = c.loop-pending.invariant in
    record {
      within = λ h. ⊎_elim (λ k. omega arith) (λ k. omega arith) I.0;
      onward = λ a h. ⊎_elim (λ k. absurd (omega arith)) (λ k. k.0) I.0;
      none = λ z. ⊎_elim (λ k. k.0) (λ k. absurd (omega arith)) I.0;
      past = λ a h. ⊎_elim (λ k. absurd (omega arith)) (λ k. absurd (omega arith)) I.0;
      ends = λ es rest k w a.
          pending_end es
          (⊎_elim (λ k. omega arith) (λ k. omega arith) I.0)
          (⊎_elim (λ k. inr k.0) (λ k. inl k.1) I.0)
          (omega arith) a (I.1 es rest k w a);
    }
