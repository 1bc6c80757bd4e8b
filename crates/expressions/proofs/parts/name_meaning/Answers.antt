use mathlib.Core.Path.{refl}
use Rattle.lookup.specs.Answers.{code_nonzero}
use Rattle.expressions.proofs.NamedLaws.{sought_after_fault, sought_meaning}
use Rattle.expressions.proofs.parts.name_meaning.Goals as goal

pub returns-in-Some : goal.returns-in-Some
returns-in-Some c = rw c.in-Some.is (sought_after_fault (code_nonzero _))

pub returns : goal.returns
returns c = rw c.in_default.is (sought_meaning refl c.title.ensures c.word.ensures c.meaning_of.ensures)
