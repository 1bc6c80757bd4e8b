use Rattle.aut68.specs.Bytes.{word_eb, word_pn}
use Rattle.reader.proofs.MiddleLaws.{kind_eb, kind_pn, kind_meaning}
use Rattle.reader.proofs.body.middle_kind.Goals as goal

pub returns-then-same_word : goal.returns-then-same_word
unfolding word_eb word_pn
returns-then-same_word c =
    kind_eb c.requires c.spaces-start.ensures c.word_end-end.ensures c.same_word.ensures c.if-same_word.true

pub returns-then-same_word-2 : goal.returns-then-same_word-2
unfolding word_eb word_pn
returns-then-same_word-2 c =
    kind_pn c.requires c.spaces-start.ensures c.word_end-end.ensures c.same_word.ensures c.if-same_word.false
    c.same_word-2.ensures c.if-same_word-2.true

pub returns : goal.returns
unfolding word_eb word_pn
returns c =
    kind_meaning c.requires c.spaces-start.ensures c.word_end-end.ensures c.same_word.ensures c.if-same_word.false
    c.same_word-2.ensures c.if-same_word-2.false
