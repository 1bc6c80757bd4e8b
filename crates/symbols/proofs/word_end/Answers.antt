use native.Mathlib.Omega.{arith}
use mathlib.Core.Path.{sym, ◌∙◌}
use Rattle.kinds.specs.declared.Kind.TheVariants.{Name}
use Rattle.kinds.proofs.Tests.{unequal_number, equal_number}
use Rattle.symbols.proofs.WordLaws.{word_start, word_more, word_stop, word_last}
use Rattle.symbols.proofs.word_end.Goals as goal

pub loop-i-init : goal.loop-i-init
loop-i-init c = word_start _ _ _

pub returns-then-ne : goal.returns-then-ne
returns-then-ne c =
    word_stop c.loop-i.invariant (omega arith) (λ t e. unequal_number _ Name (sym c.if-ne.ensures) (c.kind_of.ensures t ∙ e))

pub loop-i-preserved : goal.loop-i-preserved
loop-i-preserved c =
    word_more c.loop-i.invariant (omega arith) (λ t. sym (c.kind_of.ensures t) ∙ equal_number _ Name (sym c.if-ne.ensures))

pub returns : goal.returns
returns c = word_last c.loop-i.invariant (omega arith) (omega arith) (omega arith) (λ l. omega arith)
