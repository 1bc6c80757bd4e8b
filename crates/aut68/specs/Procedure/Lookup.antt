-- Lines and paragraphs by their names, from the innermost open paragraph outward.
use Rattle.std.specs.Prelude.{ℕ, Bool, true, false, not, ◌&&◌, List, [], ◌∷◌, eqb}
use Rattle.std.proofs.Math.Option.{Option, none, some}
use Rattle.aut68.specs.Bytes.{Bytes, same_bytes}
use Rattle.aut68.specs.Source.{Used, plain, inside}
use Rattle.aut68.specs.Lines.{number_in}
use Rattle.aut68.specs.Paragraphs.{Paragraph, Place, State, numbers_of, current, is_open}

-- what is found first
unfoldable pub seek : (ℕ → Option ℕ) → List ℕ → Option ℕ
seek f [] = none
seek f (q ∷ qs) = elim (f q) [ some v ↦ some v | none ↦ seek f qs ]

-- the number of the first paragraph with the name p, opened in the paragraph q, whose number passes the test
unfoldable pub paragraph_from : (ℕ → Bool) → Bytes → ℕ → List Paragraph → Option ℕ
paragraph_from t p q [] = none
paragraph_from t p q (x ∷ xs) = elim (same_bytes p x.name && eqb q x.around && t x.number) [ true ↦ some x.number | false ↦ paragraph_from t p q xs ]

unfoldable pub paragraph_in : Place → Bytes → ℕ → Option ℕ
paragraph_in at p q = paragraph_from (λ n. true) p q at.paragraphs

unfoldable pub closed_in : Place → Bytes → ℕ → Option ℕ
closed_in at p q = paragraph_from (λ n. not (is_open n at.opened)) p q at.paragraphs

-- the line that a used name means
unfoldable pub number_of : State → Used → Option ℕ
number_of st (plain w) = seek (number_in st.earlier w) (numbers_of st.place.opened)
number_of st (inside p a) = elim (seek (closed_in st.place p) (numbers_of st.place.opened)) [ none ↦ none | some n ↦ number_in st.earlier a n ]

-- No line and no paragraph of the innermost open paragraph has the name.
unfoldable pub unused : Bytes → State → Bool
unused w st =
    elim (number_in st.earlier w (current st.place.opened)) [
      | none ↦ elim (paragraph_in st.place w (current st.place.opened)) [ none ↦ true | some n ↦ false ]
      | some v ↦ false
    ]
