-- A walk over the pieces behind an opening. It finds the paragraphs opened there directly: a paragraph's number is that of the one
-- around it and the openings passed on the way.
use Rattle.std.specs.Prelude.{◌≡◌, Bool, true, false, ◌&&◌, List, [], ◌∷◌, ℕ, suc, ◌-◌, length, eqb}
use Rattle.std.proofs.Math.Option.{Option, none, some}
use Rattle.aut68.specs.Language.{aut68}
use Rattle.aut68.specs.Bytes.{Bytes, same_bytes}
use Rattle.aut68.specs.Paragraphs.{Place}
use Rattle.aut68.specs.Procedure.Answer.{Answer, done, stop}
use Rattle.aut68.specs.Procedure.Parse.{a_sign_line, signed}
use Rattle.aut68.specs.Procedure.Lookup.{paragraph_in}

-- the name read, if one was
unfoldable pub name_read : Answer Bytes Bytes → Bytes
name_read (done p rest) = p
name_read (stop r rest) = []

-- the name of the paragraph that the piece opens
unfoldable pub title_of : Bytes → Bytes
title_of piece = name_read (a_sign_line aut68 43 piece)

-- how many paragraphs are open behind a piece, of those that the walk saw opened
unfoldable pub deep_behind : Bytes → ℕ → ℕ
deep_behind b deep = elim (signed 43 b) [ true ↦ suc deep | false ↦ elim (signed 45 b) [ true ↦ deep - 1 | false ↦ deep ] ]

-- how many paragraphs the book has behind a piece
unfoldable pub count_behind : Bytes → ℕ → ℕ
count_behind b n = elim (signed 43 b) [ true ↦ suc n | false ↦ n ]

-- both behind many
unfoldable pub deep_after : ℕ → List Bytes → ℕ
deep_after deep [] = deep
deep_after deep (b ∷ bs) = deep_after (deep_behind b deep) bs

unfoldable pub count_after : ℕ → List Bytes → ℕ
count_after n [] = n
count_after n (b ∷ bs) = count_after (count_behind b n) bs

-- The piece opens a paragraph with this name, and the walk is in no other.
unfoldable pub opens_here : Bytes → ℕ → Bytes → Bool
opens_here w deep b = signed 43 b && eqb deep 0 && same_bytes w (title_of b)

-- the number of the first paragraph with this name that is opened directly
unfoldable pub child_from : Bytes → ℕ → ℕ → List Bytes → Option ℕ
child_from w deep n [] = none
child_from w deep n (b ∷ bs) = elim (opens_here w deep b) [ true ↦ some (suc n) | false ↦ child_from w (deep_behind b deep) (count_behind b n) bs ]

-- The pieces stand behind the opening of the paragraph q (q is 0: from the start of the book), and lead to the place: `inner` of the
-- paragraphs opened on the way are open there, and a walk finds what is in q.
pub record WalkIs (at : Place) (q inner : ℕ) (pieces : List Bytes) : Type 0 where
  pub deep : deep_after 0 pieces ≡ inner
  pub count : count_after q pieces ≡ length at.paragraphs
  pub child : (w : Bytes) → child_from w 0 q pieces ≡ paragraph_in at w q
