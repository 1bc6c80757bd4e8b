use mathlib.Core.Path.{◌≡◌, refl, sym, ◌∙◌}
use Prim.Native.Nat.{◌+◌, ◌<◌}
use native.Mathlib.Omega.{arith}
use lib.ListN.{length}
use Rattle.entries.specs.CollectedLaws.{adds_start, adds_turn, adds_same}
use Rattle.entries.proofs.collecting.collect.Goals as goal
use Rattle.entries.proofs.collecting.collect.Goals.{then-names_line, else-names_line}

pub loop-i-init : goal.loop-i-init
loop-i-init c =
    let p = c.requires in
    (omega arith, p.0, p.1, p.2, (refl, omega arith, adds_start c.args.from))

pub loop-i-preserved : goal.loop-i-preserved
loop-i-preserved c =
    let I = c.loop-i.invariant in
    let a = c.args in
    let i = c.loop-i.i in
    let inside : a.from + i < length a.w.now = omega arith in (
      omega arith,
      I.1,
      I.2,
      I.3,
      elim c.if-names_line.branch [
        | then-names_line h ↦ rw (h.w-is, h.count-is) (
          h.add-count.auto.w ∙ I.4.0,
          omega (arith, h.add-count.ensures.few),
          adds_turn a.w.now a.from i inside I.4.2 (omega arith) (omega arith) (sym h.if-names_line.true ∙ c.names_line.ensures) h.add-count.ensures,
        )
        | else-names_line h ↦ rw (h.w-is, h.count-is) (
          I.4.0,
          omega arith,
          adds_same a.w.now a.from i inside I.4.2 (omega arith) (omega arith) (sym h.if-names_line.false ∙ c.names_line.ensures),
        )
      ],
    )

pub returns : goal.returns
returns c =
    let e : c.loop-i.i ≡ c.args.size = omega arith in
    rw e at c.loop-i.invariant.4.2
