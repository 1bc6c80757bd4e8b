use mathlib.Core.Path.{refl, sym}
use native.Mathlib.Omega.{arith}
use Rattle.symbols.proofs.SameLaws.{same_start, same_more, same_stop, same_last, lengths_differ}
use Rattle.symbols.proofs.same_word.Goals as goal

pub returns-then-word-fixed : goal.returns-then-word-fixed
returns-then-word-fixed c = sym (lengths_differ _ _ c.if-word-fixed.true)

pub loop-i-init : goal.loop-i-init
loop-i-init c = same_start c.if-word-fixed.false

pub returns-then-word-i : goal.returns-then-word-i
returns-then-word-i c = sym (same_stop c.loop-i.invariant c.if-word-i.true)

pub loop-i-preserved : goal.loop-i-preserved
loop-i-preserved c = same_more c.loop-i.invariant refl c.if-word-i.false

pub returns : goal.returns
returns c = sym (same_last c.loop-i.invariant (omega arith))
