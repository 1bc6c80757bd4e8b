-- What the functions on bindings and contexts leave.
use Rattle.std.specs.Prelude.{◌≡◌, Bool, ◌≢◌, List, ℕ, ◌*◌, ◌/◌, ◌≤◌, ◌<◌, length, get_or}
use Rattle.std.proofs.Math.Option.{none, some}
use Rattle.aut68.specs.Bytes.{Bytes}
use Rattle.aut68.specs.Source.{Used}
use Rattle.aut68.specs.Lines.{Lines}
use Rattle.aut68.specs.Procedure.Resolve.{member, place_from, context_at}
use Rattle.aut68.specs.Sizes.{cell_values, nesting}
use Rattle.cells.specs.Cells.{Outside}
use Rattle.cells.specs.declared.scope.Scope.{Scope}
use Rattle.cells.specs.Layout.{context_unit, line_unit, reader_units}
use Rattle.names.specs.Known.{Known}
use Rattle.meanings.specs.Bindings.{bound_names, word_in}
use Rattle.meanings.specs.NotedContext.{variable_at, ContextNoted}

-- r is the number of bindings between a used name, which is not empty, and its innermost binding; `nesting`: it is not bound
pub record BindingFound (s : Bytes) (scope : Scope) (u : Used) (r : ℕ) : Type 0 where
  pub within : r ≤ nesting
  pub bound : scope.bound ≤ nesting → 1 ≤ length (word_in u) → r < nesting → place_from 0 u (bound_names s scope) ≡ some r
  pub free : scope.bound ≤ nesting → 1 ≤ length (word_in u) → nesting ≤ r → place_from 0 u (bound_names s scope) ≡ none

-- is line v in the context that ends with line `last`? By the chain of indicators
pub record OnChain (tb : List ℕ) (last v : ℕ) (r : Bool) : Type 0 where
  pub is : (ls : Lines) (book : Bytes) (lines : ℕ) → Known ls book tb lines → last ≤ lines → 1 ≤ v → r ≡ member v (context_at ls last)

-- the same by what is noted of that context in w
pub record InContext (tb w : List ℕ) (last v : ℕ) (r : Bool) : Type 0 where
  pub is : (ls : Lines) (book : Bytes) (lines : ℕ) → Known ls book tb lines → ContextNoted ls last w → last ≤ lines → 1 ≤ v → r ≡ member v (context_at ls last)

-- line c was noted as variable i of the context, if there is a cell for it
pub record VariablePut (w w' : List ℕ) (i c : ℕ) : Type 0 where
  pub kept : Outside (context_unit * (length w / reader_units)) (line_unit * (length w / reader_units)) w w'
  pub others : (j : ℕ) → j ≢ i → get_or w' (variable_at w j) 0 ≡ get_or w (variable_at w j) 0
  pub put : c < cell_values → i < length w / reader_units → get_or w' (variable_at w i) 0 ≡ c

-- the context that ends with line `last` was noted
pub record ContextPost (tb w w' : List ℕ) (last : ℕ) : Type 0 where
  pub kept : Outside (context_unit * (length w / reader_units)) (line_unit * (length w / reader_units)) w w'
  pub noted : (ls : Lines) (book : Bytes) (lines : ℕ) → Known ls book tb lines → last ≤ lines → ContextNoted ls last w'
