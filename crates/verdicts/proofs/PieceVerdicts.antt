-- What the procedure says of a piece, ordinary or paragraph line, after pieces that have derivations.
use Rattle.std.specs.Prelude.{◌≡◌, ℕ, List}
use Rattle.std.proofs.Common.{subst}
use Rattle.aut68.specs.Language.{Language}
use Rattle.aut68.specs.Stores.{Limits}
use Rattle.aut68.specs.Bytes.{Bytes}
use Rattle.aut68.specs.Paragraphs.{Opened, State, start}
use Rattle.aut68.specs.Procedure.Answer.{done, stop, Refusal}
use Rattle.aut68.specs.Procedure.CheckPiece.{PassedPiece, check_piece}
use Rattle.aut68.specs.Rules.Grammar.{SignLine, plus, minus}
use Rattle.aut68.specs.Rules.Names.{Unused}
use Rattle.aut68.specs.Rules.Derivation.{Piece, line, Derived}
use Rattle.lookup.specs.Answers.{Decides, space_undecided}
use Rattle.lookup.specs.Identifiers.{taken_used}
use Rattle.lookup.specs.Runs.{next_state}
use Rattle.reading.specs.Signs.{sign_unique}
use Rattle.reading.specs.PieceStages.{PassedBy, opening_passed, closing_passed, line_passed, StoppedBy, opening_stopped, closing_stopped, line_stopped, piece_passed, piece_stopped, opening_piece, closing_piece}
use Rattle.reading.specs.PieceStages.{Unopened, is_malformed, is_taken, too_many, unopened, Unclosed, not_innermost, unclosed, Closes, plus_opens, minus_closes, neither_line}
use Rattle.verdicts.proofs.LineVerdicts.{passed_derivation, decided_wrong}

module _ (language : Language) (st : State) {past : List Bytes} (E : Derived language start past st) (limits : Limits) (bytes : Bytes) (b : ℕ) where
  pub passed_piece : {p : PassedPiece} {b' : ℕ} → check_piece language st limits bytes b ≡ done p b' → Piece language st bytes (next_state st p)
  unfolding next_state
  passed_piece h = go (piece_passed language st limits bytes b h)
    where
      go : {p : PassedPiece} {b' : ℕ} → PassedBy language st limits bytes b p b' → Piece language st bytes (next_state st p)
      go (opening_passed e i) = opening_piece language st bytes b i
      go (closing_passed e f i) = closing_piece language st bytes b i
      go (line_passed e f i) = line (passed_derivation language st E limits bytes b i)

  -- a verdict calls a piece wrong only if it has no derivation
  pub piece_wrong : {r : Refusal} {b' : ℕ} → check_piece language st limits bytes b ≡ stop r b' → Decides r → (next : State) → ¬ Piece language st bytes next
  piece_wrong {r} {b'} h d next x = go (piece_stopped language st limits bytes b h)
    where
      opening : Unopened language st bytes r → (p : Bytes) → SignLine language 43 p bytes → ¬ Unused st p
      opening (is_malformed i unread) p f u = unread p f
      opening (is_taken i g t) p f u = taken_used t (subst (Unused st) (sign_unique language plus f g) u)
      opening (too_many i g) p f u = space_undecided (subst Decides i d)

      closing : Unclosed language st bytes r → (p : Bytes) → SignLine language 45 p bytes → (n : ℕ) (os : List Opened) → ¬ Closes st.place p n os
      closing (Unclosed.is_malformed i unread) p f n os q = unread p f
      closing (not_innermost i g other) p f n os q = other n os (subst (λ z. Closes st.place z n os) (sign_unique language minus f g) q)

      go : StoppedBy language st limits bytes b r b' → ⊥
      go (opening_stopped e i) = let (p, f, u) = plus_opens language st bytes e x in opening (unopened language st bytes b i) p f u
      go (closing_stopped e f i) = let (p, n, os, g, q) = minus_closes language st bytes f x in closing (unclosed language st bytes b i) p g n os q
      go (line_stopped e f i) = let (l, y) = neither_line language st bytes e f x in decided_wrong language st E limits bytes b i d l y
