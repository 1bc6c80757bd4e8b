-- The names that a scope binds.
use Rattle.std.specs.Prelude.{List, [], ◌∷◌, ℕ, zero, suc, Option, None, Some, get_or}
use Rattle.aut68.specs.Bytes.{Bytes}
use Rattle.aut68.specs.Source.{Used, plain, inside}
use Rattle.aut68.specs.Lines.{part_of}
use Rattle.aut68.specs.Sizes.{nesting}
use Rattle.cells.specs.declared.scope.Scope.{Scope}

-- the bound names of the first n bindings, innermost first
unfoldable pub names_from : Bytes → List ℕ → List ℕ → ℕ → List Bytes
names_from s starts lens zero = []
names_from s starts lens (suc i) = part_of s (get_or starts i 0) (get_or lens i 0) ∷ names_from s starts lens i

unfoldable pub bound_names : Bytes → Scope → List Bytes
bound_names s scope = names_from s scope.starts scope.lens scope.bound

-- the name itself, without the paragraph's name before it
unfoldable pub word_in : Used → Bytes
word_in (plain w) = w
word_in (inside p a) = a

-- how many bindings stand between a name and its own; `nesting` where it has none
abbrev pub place_in : Option ℕ → ℕ
place_in None = nesting
place_in (Some i) = i
