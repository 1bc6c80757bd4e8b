-- A line with a byte that no well-formed line has there, or without its end, is refused as malformed.
use Rattle.std.specs.Prelude.{◌≡◌, ◌⊎◌, false, ℕ, length}
use Rattle.std.proofs.Common.{ap, sym, ◌∙◌}
use Rattle.aut68.specs.Language.{Language}
use Rattle.aut68.specs.Stores.{Limits}
use Rattle.aut68.specs.Bytes.{Bytes}
use Rattle.aut68.specs.Paragraphs.{State}
use Rattle.aut68.specs.Procedure.Answer.{stop, Refusal, code_of, malformed}
use Rattle.aut68.specs.Procedure.Parse.{signed}
use Rattle.aut68.specs.Procedure.CheckLine.{check_line}
use Rattle.aut68.specs.Rules.Grammar.{IsSign}
use Rattle.aut68.specs.Rules.LineBytes.{PieceFault, PieceUnended}
use Rattle.lookup.specs.Answers.{stop_reason}
use Rattle.reading.specs.Stages.{reading_stops}
use Rattle.faults.specs.PieceFaults.{ordinary_malformed}

module _ (language : Language) (bytes : Bytes) (ordinary : (sign : ℕ) → IsSign sign → signed sign bytes ≡ false)
    (st : State) (m : Limits) (b : ℕ) {r : Refusal} {b' : ℕ} (f : check_line language st m bytes b ≡ stop r b') where
  pub fault_malformed : PieceFault language bytes ⊎ PieceUnended language bytes → code_of r ≡ code_of malformed
  unfolding code_of
  fault_malformed h =
      let (rest, e) = (ordinary_malformed language bytes ordinary (length bytes)).1 h in
      ap code_of (stop_reason (sym f ∙ reading_stops language st m bytes b e))
