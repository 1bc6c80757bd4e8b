-- What names mean: what stands for a name that is not bound, and the cell of a meaning.
use Rattle.std.specs.Prelude.{◌≡◌, List, ℕ, ◌+◌, ◌*◌, ◌≤◌, ◌<◌, length, Result, Ok, Err}
use Rattle.aut68.specs.Bytes.{Bytes}
use Rattle.aut68.specs.Paragraphs.{State}
use Rattle.aut68.specs.Procedure.Lookup.{number_of}
use Rattle.aut68.specs.Procedure.Answer.{Answer, Refusal, code_of}
use Rattle.aut68.specs.Procedure.Resolve.{found, refused, Meaning, a_bound, a_variable, a_constant, look_up, meaning, wanted, context_at}
use Rattle.aut68.specs.Procedure.Resolve as Resolve
use Rattle.aut68.specs.Sizes.{cell_factor, line_limit, nesting}
use Rattle.constants.specs.declared.codes.Reason.{Reason}
use Rattle.cells.specs.declared.scope.Scope.{Scope}
use Rattle.kinds.specs.Kinds.{KindsTable}
use Rattle.symbols.specs.Symbols.{used_by}
use Rattle.names.specs.Known.{Known}
use Rattle.notes.specs.Note.{StateNoted}
use Rattle.meanings.specs.Bindings.{bound_names}
use Rattle.meanings.specs.NotedContext.{ContextNoted}
use Rattle.meanings.specs.Posts.{BindingFound}
use Rattle.meanings.specs.declared.meanings.Sought.{Sought}
use Rattle.meanings.specs.declared.meanings.Meaning.{Meaning as Told}

-- what the procedure's lookup tells, of an answer of the code
unfoldable pub told : Sought → Resolve.Sought
told (Sought.Variable v) = Resolve.means (a_variable v)
told (Sought.Constant v) = Resolve.means (a_constant v)
told Sought.NoLine = Resolve.no_line
told (Sought.NotInForce v) = Resolve.not_in_force v

-- the number of its line; 0 where there is none
abbrev pub number_in : Sought → ℕ
number_in (Sought.Variable v) = v
number_in (Sought.Constant v) = v
number_in Sought.NoLine = 0
number_in (Sought.NotInForce v) = v

-- r is what stands for a used name that is not bound, with the indicator of its line
pub record SoughtFound (ks book tb : List ℕ) (lines indicator : ℕ) (w : List ℕ) (title word : Bytes) (r : Sought) : Type 0 where
  pub small : number_in r < line_limit
  pub is : (st : State) → KindsTable ks → Known st.earlier book tb lines → StateNoted st book tb lines w → ContextNoted st.earlier indicator w → indicator ≤ lines → 1 ≤ length word
      → look_up st (context_at st.earlier indicator) (number_of st (used_by title word)) ≡ told r

-- the cell of a name: what it means, without its arguments
unfoldable pub cell_of : Meaning → ℕ
cell_of (a_bound i) = cell_factor * i + 2
cell_of (a_variable v) = cell_factor * v + 1
cell_of (a_constant v) = cell_factor * v + 3

-- the cell of a name's meaning, and how many arguments it takes; 0 of a refusal
abbrev pub cell_in : Result Told Reason → ℕ
cell_in (Ok m) = m.cell
cell_in (Err r) = 0

abbrev pub wanted_in : Result Told Reason → ℕ
wanted_in (Ok m) = m.wanted
wanted_in (Err r) = 0

-- a name's cell and how many arguments it takes; or the refusal's code as fault
pub data Meant (st : State) (context : List ℕ) (fault cell count : ℕ) : Answer (Unit {0}) Meaning → Type 0 where
  means : {m : Meaning} → fault ≡ 0 → cell ≡ cell_of m → count ≡ length (wanted st context m) → Meant st context fault cell count (found m)
  means_nothing : {r : Refusal} → fault ≡ code_of r → Meant st context fault cell count (refused r)

-- the meaning of a used name, with the indicator of its line, wherever b is its binding
pub record MeaningFound (b : ℕ) (ks book tb : List ℕ) (lines indicator : ℕ) (w : List ℕ) (title word : Bytes) (fault cell count : ℕ) : Type 0 where
  pub is : (st : State) → KindsTable ks → Known st.earlier book tb lines → StateNoted st book tb lines w → ContextNoted st.earlier indicator w → indicator ≤ lines
      → (s : Bytes) (scope : Scope) → BindingFound s scope (used_by title word) b → scope.bound ≤ nesting → 1 ≤ length word
      → Meant st (context_at st.earlier indicator) fault cell count (meaning st (context_at st.earlier indicator) (used_by title word) (bound_names s scope) tt)
