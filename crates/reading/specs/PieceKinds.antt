-- The kinds of a line, as the first byte behind its spaces decides, and how a piece of each is checked.
use Rattle.std.specs.Prelude.{◌≡◌, Bool, true, false, ℕ}
use Rattle.std.proofs.Math.Path.{refl}
use Rattle.aut68.specs.Language.{Language}
use Rattle.aut68.specs.Stores.{Limits}
use Rattle.aut68.specs.Bytes.{Bytes}
use Rattle.aut68.specs.Paragraphs.{State}
use Rattle.aut68.specs.Procedure.Answer.{◌>>=◌, give}
use Rattle.aut68.specs.Procedure.Parse.{signed}
use Rattle.aut68.specs.Procedure.CheckLine.{check_line}
use Rattle.aut68.specs.Procedure.CheckPiece.{check_opening, check_closing, passed_line, moved_to, check_piece}
use Rattle.aut68.specs.Rules.Grammar.{IsSign, plus, minus}

pub data PieceKind (bytes : Bytes) : Type 0 where
  an_opening : signed 43 bytes ≡ true → PieceKind bytes
  a_closing : signed 43 bytes ≡ false → signed 45 bytes ≡ true → PieceKind bytes
  ordinary : ((s : ℕ) → IsSign s → signed s bytes ≡ false) → PieceKind bytes

pub neither : (bytes : Bytes) → signed 43 bytes ≡ false → signed 45 bytes ≡ false → (s : ℕ) → IsSign s → signed s bytes ≡ false
neither bytes e f _ plus = e
neither bytes e f _ minus = f

pub kind_of : (bytes : Bytes) → PieceKind bytes
kind_of bytes = at (signed 43 bytes) refl (signed 45 bytes) refl
  where
    at : (s : Bool) → signed 43 bytes ≡ s → (t : Bool) → signed 45 bytes ≡ t → PieceKind bytes
    at true e t f = an_opening e
    at false e true f = a_closing e f
    at false e false f = ordinary (neither bytes e f)

module _ (language : Language) (st : State) (m : Limits) (bytes : Bytes) where
  pub opening_checked : signed 43 bytes ≡ true → check_piece language st m bytes ≡ (check_opening language st bytes >>= λ at. give (moved_to at))
  unfolding check_piece
  opening_checked e = rw (e, check_piece) refl

  pub closing_checked : signed 43 bytes ≡ false → signed 45 bytes ≡ true → check_piece language st m bytes ≡ (check_closing language st bytes >>= λ at. give (moved_to at))
  unfolding check_piece
  closing_checked e f = rw (e, f, check_piece) refl

  pub ordinary_checked : ((s : ℕ) → IsSign s → signed s bytes ≡ false) → check_piece language st m bytes ≡ (check_line language st m bytes >>= λ p. give (passed_line p))
  unfolding check_piece
  ordinary_checked n = rw (n 43 plus, n 45 minus, check_piece) refl
