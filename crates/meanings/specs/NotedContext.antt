-- The context of the line that is read, noted in a unit of the working store: the line of each of its variables.
use Rattle.std.specs.Prelude.{◌≡◌, List, ℕ, ◌+◌, ◌*◌, ◌/◌, ◌≤◌, ◌<◌, length, get_or, take}
use Rattle.std.proofs.Common.{ap, ◌∙◌, arith}
use Rattle.aut68.specs.Lines.{Lines}
use Rattle.aut68.specs.Procedure.Resolve.{context_at}
use Rattle.cells.specs.Layout.{context_unit, line_unit, reader_units}
use Rattle.names.specs.HintLaws.{cell_same}

-- how many variables are noted
abbrev pub noted_variables : ℕ
noted_variables = 64

-- where variable i is noted
abbrev pub variable_at : List ℕ → ℕ → ℕ
variable_at w i = context_unit * (length w / reader_units) + i

-- The last variables of the context that ends with line `last` stand in its unit of the store, each at its number, the outermost
-- being 0; as far as the unit has cells.
pub record ContextNoted (ls : Lines) (last : ℕ) (w : List ℕ) : Type 0 where
  pub variable : (i : ℕ) → i < length (context_at ls last) → length (context_at ls last) ≤ i + noted_variables → i < length w / reader_units
      → get_or w (variable_at w i) 0 ≡ get_or (context_at ls last) i 0

-- it stays where the cells of that unit are as they were
pub context_noted_same : {ls : Lines} {last : ℕ} {w w' : List ℕ} (n : ℕ) → line_unit * (length w / reader_units) ≤ n → length w' ≡ length w → take n w' ≡ take n w
    → ContextNoted ls last w → ContextNoted ls last w'
context_noted_same {ls} {last} {w} {w'} n h l e c =
    record {
      variable = λ i a d b.
          let q : length w' / reader_units ≡ length w / reader_units = ap (λ k. k / reader_units) l in
          ap (λ k. get_or w' (context_unit * k + i) 0) q
          ∙ cell_same w w' n (variable_at w i) e (omega arith)
          ∙ c.variable i a d (omega arith);
    }
