use mathlib.Core.Path.{◌≡◌, refl, sym, subst, ap, ◌∙◌}
use mathlib.Core.Bool.{Bool}
use Prim.Native.Nat.{◌+◌}
use native.Mathlib.Omega.{arith}
use Rattle.reaching.specs.Following.{visit_few, follow_begin, follow_turn}
use Rattle.reaching.specs.Posts.{Followable}
use Rattle.reaching.specs.Primitives.{one_if}
use Rattle.reaching.proofs.reaching.mark_reached.Goals as goal
use Rattle.reaching.proofs.reaching.mark_reached.Goals.{Joined-visit, then-visit, else-visit}

counted : (c : Joined-visit) → c.if-visit.count ≡ c.loop-v.count + one_if c.visit.result
unfolding one_if
counted c = elim c.if-visit.branch [
  | then-visit w ↦ w.count-is ∙ ap (λ (b : Bool). c.loop-v.count + one_if b) (sym w.if-visit.true)
  | else-visit w ↦ w.count-is ∙ omega arith ∙ ap (λ (b : Bool). c.loop-v.count + one_if b) (sym w.if-visit.false)
]

pub loop-v-init : goal.loop-v-init
loop-v-init c = (omega arith, omega arith, refl, λ ls can f. f)

pub overflow_add-count : goal.overflow_add-count
overflow_add-count c = omega arith

pub loop-v-preserved : goal.loop-v-preserved
loop-v-preserved c =
    let p = c.visit.ensures in
    let e = counted c in (
      omega arith,
      omega (arith, visit_few p, e),
      p.adds.long ∙ c.loop-v.invariant.2,
      λ ls can f. rw e (follow_turn can (omega arith) c.loop-v.invariant.0 c.loop-v.invariant.2 (c.loop-v.invariant.3 ls can f) p),
    )

pub shape_of-w : goal.shape_of-w
shape_of-w c = c.loop-v.invariant.2 ∙ c.mark.ensures.long

pub returns : goal.returns
returns c =
    let p = c.mark.ensures in
    let A = c.args in
    let z : c.loop-v.v ≡ 0 = omega arith in
    record {
      long = c.loop-v.invariant.2 ∙ p.long;
      few = omega arith;
      followed = λ ls can e.
          rw z at (c.loop-v.invariant.3 ls (subst (Followable ls A.table.now A.terms.now A.line) (sym p.long) can) (follow_begin can refl e p));
    }
