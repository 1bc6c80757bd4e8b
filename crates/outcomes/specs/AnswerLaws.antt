-- A refusal of the book is passed on by `?`.
use Rattle.std.specs.Prelude.{◌≡◌, Result, Ok, Err}
use Rattle.std.specs.Result.{IsErrAnd}
use Rattle.std.proofs.Common.{ap}
use Rattle.outcomes.specs.declared.Refused as Book
use Rattle.outcomes.specs.declared.answers.Given.{Given}
use Rattle.outcomes.specs.declared.answers.Unanswered.{Unanswered}
use Rattle.outcomes.specs.declared.answers.Unanswered.TheVariants.{Refused}
use Rattle.outcomes.specs.Answers.{IsRefusal}

pub passed_on : (a : Result Given Unanswered) {refused : Book.Refused} → IsErrAnd a (IsRefusal refused) → a ≡ Err (Refused refused)
passed_on (Ok given) h = absurd h
passed_on (Err u) h = ap Err h
