-- The symbols of a line, told by its bytes alone: names and words, `:=`, and other bytes one by one.
use Rattle.std.specs.Prelude.{ℕ, Bool, true, false, ◌&&◌, ◌||◌, List, [], ◌∷◌, eqb}
use Rattle.aut68.specs.Bytes.{Bytes, name_byte, onto}

-- Two bytes next to each other are of one symbol: of a name or a word, or `:=`.
unfoldable pub together : ℕ → Bytes → Bool
together b [] = false
together b (c ∷ cs) = (name_byte b && name_byte c) || (eqb b 58 && eqb c 61)

-- the symbols in a line; byte 32 parts them and is none
unfoldable pub symbols_in : Bytes → List Bytes
symbols_in [] = []
symbols_in (b ∷ bs) =
    elim (eqb b 32) [
      | true ↦ symbols_in bs
      | false ↦ elim (together b bs) [ true ↦ onto b (symbols_in bs) | false ↦ (b ∷ []) ∷ symbols_in bs ]
    ]
