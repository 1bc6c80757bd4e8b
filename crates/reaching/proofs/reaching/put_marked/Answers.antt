use mathlib.Core.Path.{◌≡◌, refl, sym, ◌∙◌}
use Prim.Native.Nat.{◌+◌, ◌-◌, ◌≤◌}
use lib.ListN.{length}
use Rattle.reaching.specs.Primitives.{marked_primitives}
use native.Mathlib.Omega.{arith}
use Rattle.reaching.specs.Writing.{Writes, writes_begin, writes_room, writes_put, writes_skip, writes_end}
use Rattle.reaching.proofs.reaching.put_marked.Goals as goal
use Rattle.reaching.proofs.reaching.put_marked.Goals.{Joined-is_marked_primitive, then-is_marked_primitive+then-n-answer, else-is_marked_primitive, else-is_marked_primitive-via-then-is_marked_primitive+else-n-answer, else-is_marked_primitive-via-else-is_marked_primitive}

-- what a turn leaves
turn : (c : Joined-is_marked_primitive)
    → length (marked_primitives c.args.table.now c.args.w.now 0 c.args.line) ≤ length c.args.answer.now
    → Writes c.args.table.now c.args.w.now c.args.answer.now c.args.line c.loop-v.v c.if-is_marked_primitive.n c.if-is_marked_primitive.answer
turn c fits =
    let I = c.loop-v.invariant.2 fits in
    let e = c.is_marked_primitive.ensures in
    elim c.if-is_marked_primitive.branch [
      | then-is_marked_primitive+then-n-answer w ↦
          rw (w.n-is, w.answer-is) (writes_put _ _ _ _ (omega arith) (omega arith) (sym e ∙ w.if-is_marked_primitive.true) (omega arith) I)
      | else-is_marked_primitive w ↦
          elim w.else-is_marked_primitive.branch [
            | else-is_marked_primitive-via-then-is_marked_primitive+else-n-answer v ↦
                absurd (omega (arith, writes_room _ _ _ _ (omega arith) (omega arith) (sym e ∙ v.if-is_marked_primitive.true) fits I))
            | else-is_marked_primitive-via-else-is_marked_primitive v ↦
                rw (w.n-is, w.answer-is) (writes_skip _ _ _ _ (omega arith) (sym e ∙ v.if-is_marked_primitive.false) I)
          ]
    ]

pub loop-v-init : goal.loop-v-init
loop-v-init c = (omega arith, refl, λ fits. writes_begin _ _ _ _)

pub loop-v-preserved : goal.loop-v-preserved
loop-v-preserved c =
    let e : c.loop-v.v + 1 - 1 ≡ c.loop-v.v = omega arith in
    (omega arith, c.if-is_marked_primitive.auto.answer ∙ c.loop-v.auto.answer, λ fits. rw e (turn (goal.at.loop-v-preserved c).Joined-is_marked_primitive fits))

pub returns-after-is_marked_primitive : goal.returns-after-is_marked_primitive
returns-after-is_marked_primitive c =
    let e : c.loop-v.v ≡ c.args.line = omega arith in
    record {
      written = λ fits. writes_end _ _ _ _ (rw e at (turn (goal.at.returns-after-is_marked_primitive c).Joined-is_marked_primitive fits));
    }

pub shape_of-answer : goal.shape_of-answer
shape_of-answer c = c.loop-v.invariant.1

pub returns : goal.returns
returns c =
    let A = c.args in
    let e : c.loop-v.v - 1 ≡ A.line = omega arith in
    record {
      written = λ fits. writes_end _ _ _ _ (rw e at (c.loop-v.invariant.2 fits));
    }
