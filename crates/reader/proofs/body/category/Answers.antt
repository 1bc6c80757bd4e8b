use Rattle.aut68.specs.Bytes.{word_type}
use Rattle.reader.proofs.MiddleLaws.{category_type, category_expression}
use Rattle.reader.proofs.body.category.Goals as goal

pub returns-then-same_word : goal.returns-then-same_word
unfolding word_type
returns-then-same_word c =
    category_type c.requires.0 c.requires.1 c.spaces-start.ensures c.word_end-end.ensures c.same_word.ensures
    c.if-same_word.true c.put-next.ensures

pub returns : goal.returns
unfolding word_type
returns c =
    category_expression c.requires.0 c.requires.1 c.spaces-start.ensures c.word_end-end.ensures
    c.same_word.ensures c.if-same_word.false c.no_bindings-scope.ensures c.expression.ensures
