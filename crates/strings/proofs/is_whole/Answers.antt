use mathlib.Core.Path.{refl, ap}
use mathlib.Core.List.{List}
use Prim.Native.Nat.{ℕ}
use native.Mathlib.Omega.{arith}
use lib.ListN.{length, get_or}
use Rattle.strings.specs.Levels.{levels_at}
use Rattle.strings.proofs.CellLaws.{reached_start, levels_next}
use Rattle.strings.proofs.NoteLaws.{notes_start, notes_next}
use Rattle.strings.proofs.WholeLaws.{says_type, says_short, says_right, says_wrong, says_last}
use Rattle.strings.proofs.is_whole.Goals as goal
use Rattle.strings.proofs.is_whole.Goals.{else-s-eq1-via-then-s-eq1+else-s-eq0, else-s-eq1-via-else-s-eq1}

pub returns-then-s-eq0 : goal.returns-then-s-eq0
returns-then-s-eq0 c = says_type c.if-s-eq1.true c.if-s-eq0.true

pub loop-pending-init : goal.loop-pending-init
unfolding levels_at
loop-pending-init c = (
  (
    elim c.else-s-eq1.branch [
      | else-s-eq1-via-then-s-eq1+else-s-eq0 w ↦ λ q. w.if-s-eq0.false (ap (λ (l : List ℕ). get_or l 0 0) q)
      | else-s-eq1-via-else-s-eq1 w ↦ λ q. w.if-s-eq1.false (ap length q)
    ],
    omega arith,
    refl,
  ),
  refl,
  notes_start c.fill.ensures,
  λ ls R e. reached_start ls _ _,
)

pub shape_of-w-then-pending-s : goal.shape_of-w-then-pending-s
shape_of-w-then-pending-s c = omega (arith, c.loop-pending.invariant.1, c.fill.ensures.long)

pub returns-then-pending-s : goal.returns-then-pending-s
returns-then-pending-s c =
    let I = c.loop-pending.invariant in
    says_short I.0.0 I.3 (omega (arith, I.0.1))

pub note_parts-requires : goal.note_parts-requires
note_parts-requires c = omega (arith, c.kids-parts.ensures.1)

pub overflow_add-pending : goal.overflow_add-pending
overflow_add-pending c = omega (arith, c.kids-parts.ensures.1)

pub loop-pending-preserved : goal.loop-pending-preserved
loop-pending-preserved c =
    let I = c.loop-pending.invariant in
    let r = c.is_right.ensures in
    let k = c.kids-parts.ensures.0 in
    let P = c.note_parts.ensures in (
      (I.0.0, omega arith, levels_next _ _ _ (omega arith) I.0.2 k),
      omega (arith, I.1, P.long),
      notes_next _ _ _ I.2 (omega arith) k P,
      says_right I.0.0 I.3 (omega arith) I.2 (omega arith) r c.if-not-is_right.false,
    )

pub shape_of-w-then-not-is_right : goal.shape_of-w-then-not-is_right
shape_of-w-then-not-is_right c = omega (arith, c.loop-pending.invariant.1, c.fill.ensures.long)

pub returns-then-not-is_right : goal.returns-then-not-is_right
returns-then-not-is_right c =
    let I = c.loop-pending.invariant in
    says_wrong I.0.0 I.3 (omega arith) I.2 (omega arith) c.is_right.ensures c.if-not-is_right.true

pub shape_of-w : goal.shape_of-w
shape_of-w c = omega (arith, c.loop-pending.invariant.1, c.fill.ensures.long)

pub returns : goal.returns
returns c =
    let I = c.loop-pending.invariant in
    says_last I.0.0 I.3 I.0.1 (omega arith)
