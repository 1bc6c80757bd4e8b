use mathlib.Core.Path.{◌≡◌, sym, ◌∙◌}
use lib.ListN.{length}
use borrow.Author.Tests.{eqb-true}
use native.Mathlib.Omega.{arith}
use Rattle.symbols.proofs.SameLaws.{same_start, same_four_more, same_four_stop, same_four_last, same_last, lengths_differ}
use Rattle.symbols.proofs.same_bytes.Goals as goal

pub returns-then-a-b : goal.returns-then-a-b
returns-then-a-b c = sym (lengths_differ _ _ c.if-a-b.true)

pub returns-then-is_empty : goal.returns-then-is_empty
returns-then-is_empty c =
    let none : length c.args.a.now ≡ 0 = eqb-true _ 0 (sym c.is_empty.ensures ∙ c.if-is_empty.true) in
    sym (same_last (same_start c.if-a-b.false) (omega arith))

pub returns-then-a-lt4 : goal.returns-then-a-lt4
returns-then-a-lt4 c =
    same_four_last
    (λ j. omega (arith, c.type_inv.a j))
    (λ j. omega (arith, c.type_inv.b j))
    (same_start c.if-a-b.false)
    (omega arith)
    (omega arith)
    c.four_at.ensures.0
    c.four_at-then-a-lt4.ensures.0

pub loop-i-init : goal.loop-i-init
loop-i-init c = (same_start c.if-a-b.false, omega arith)

pub returns-then-four : goal.returns-then-four
returns-then-four c =
    sym (same_four_stop c.loop-i.invariant.0 (λ e. c.if-four.true (c.four.ensures.0 ∙ e ∙ sym c.four-in-loop-i.ensures.0)))

pub loop-i-preserved : goal.loop-i-preserved
loop-i-preserved c =
    let same = same_four_more
    c.loop-i.invariant.0
    (λ j. omega (arith, c.type_inv.a j))
    (λ j. omega (arith, c.type_inv.b j))
    (sym c.four.ensures.0 ∙ c.if-four.false ∙ c.four-in-loop-i.ensures.0) in
    (same, omega arith)

pub returns : goal.returns
returns c =
    same_four_last
    (λ j. omega (arith, c.type_inv.a j))
    (λ j. omega (arith, c.type_inv.b j))
    c.loop-i.invariant.0
    (omega arith)
    (omega arith)
    c.four-2.ensures.0
    c.four-3.ensures.0
