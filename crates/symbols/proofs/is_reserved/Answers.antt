use mathlib.Core.Path.{sym, ◌∙◌}
use Rattle.aut68.specs.Bytes.{word_type, word_pn, word_eb}
use Rattle.symbols.proofs.WordLaws.{reserved_type, reserved_pn, reserved_eb}
use Rattle.symbols.proofs.is_reserved.Goals as goal
use Rattle.symbols.proofs.is_reserved.Goals.{then-same_word, else-same_word}

pub returns-then-same_word-2 : goal.returns-then-same_word-2
unfolding word_type word_pn word_eb
returns-then-same_word-2 c =
    elim c.if-same_word.branch [
      | then-same_word w ↦ c.if-same_word-2.true ∙ sym (reserved_type _ (sym c.same_word.ensures ∙ w.if-same_word.true))
      | else-same_word w ↦ c.if-same_word-2.true
          ∙ sym (reserved_pn _ (sym c.same_word.ensures ∙ w.if-same_word.false) (sym w.same_word-else-same_word.ensures ∙ sym w.value-is ∙ c.if-same_word-2.true))
    ]

pub returns-else-same_word-2 : goal.returns-else-same_word-2
unfolding word_type word_pn word_eb
returns-else-same_word-2 c =
    elim c.if-same_word.branch [
      | then-same_word w ↦ absurd (cc (sym w.value-is ∙ c.if-same_word-2.false))
      | else-same_word w ↦ c.same_word-else-same_word-2.ensures
          ∙ sym (reserved_eb _ (sym c.same_word.ensures ∙ w.if-same_word.false) (sym w.same_word-else-same_word.ensures ∙ sym w.value-is ∙ c.if-same_word-2.false))
    ]
