-- Any line of a book: an ordinary one, or one that opens or closes a paragraph.
use Rattle.std.specs.Prelude.{ℕ, true, false, [], ◌∷◌, length, ltb}
use Rattle.aut68.specs.Sizes.{open_limit}
use Rattle.aut68.specs.Stores.{Limits}
use Rattle.aut68.specs.Language.{Language}
use Rattle.aut68.specs.Bytes.{Bytes, same_bytes}
use Rattle.aut68.specs.Paragraphs.{Place, State, opening, closed_to}
use Rattle.aut68.specs.Procedure.Answer.{Act, ◌>>=◌, give, refuse, ensure, aside, duplicate, out_of_space, unbalanced}
use Rattle.aut68.specs.Procedure.Parse.{a_sign_line, signed}
use Rattle.aut68.specs.Procedure.Lookup.{unused}
use Rattle.aut68.specs.Procedure.CheckLine.{Passed, check_line}

-- `+p`: 4 if the name is used in the innermost open paragraph; "more than 32 paragraphs open together is 12, after 4".
unfoldable pub check_opening : Language → State → Bytes → Act ℕ Place
check_opening language st bytes = do
  p ← aside (a_sign_line language 43 bytes)
  _ ← ensure (unused p st) duplicate
  _ ← ensure (ltb (length st.place.opened) open_limit) out_of_space
  give (opening p st.place)

-- the place behind `-p`; "17, a closing not of the innermost open paragraph"
unfoldable pub closing : Bytes → Place → Act ℕ Place
closing p at =
    elim at.opened [
      | [] ↦ refuse unbalanced
      | o ∷ os ↦ elim (same_bytes p o.name) [ true ↦ give (closed_to at os) | false ↦ refuse unbalanced ]
    ]

unfoldable pub check_closing : Language → State → Bytes → Act ℕ Place
check_closing language st bytes = do
  p ← aside (a_sign_line language 45 bytes)
  closing p st.place

-- what passed: an ordinary line, or a paragraph line, behind which the place is another
pub data PassedPiece : Type 0 where
  passed_line : Passed → PassedPiece
  moved_to : Place → PassedPiece

unfoldable pub check_piece : Language → State → Limits → Bytes → Act ℕ PassedPiece
check_piece language st m bytes =
    elim (signed 43 bytes) [
      | true ↦ (check_opening language st bytes >>= λ at. give (moved_to at))
      | false ↦ elim (signed 45 bytes) [
        | true ↦ (check_closing language st bytes >>= λ at. give (moved_to at))
        | false ↦ (check_line language st m bytes >>= λ p. give (passed_line p))
      ]
    ]
