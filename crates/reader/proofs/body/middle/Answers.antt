use native.Mathlib.Omega.{arith}
use Rattle.reader.proofs.MiddleLaws.{word_kind, middle_word, middle_expression}
use Rattle.reader.proofs.body.middle.Goals as goal

pub returns-in-Abbreviation : goal.returns-in-Abbreviation
returns-in-Abbreviation c =
    rw c.in-Abbreviation.is (middle_expression c.requires.0 (omega arith) c.no_bindings-scope.ensures c.expression.ensures)

pub returns : goal.returns
returns c =
    middle_word c.requires.0 c.requires.1 (word_kind _ c.in_default.not-Abbreviation) c.spaces-start.ensures c.word_end-end.ensures
