-- What the functions that read an expression leave.
use Rattle.std.specs.Prelude.{◌≡◌, ◌≢◌, ◌⊎◌, List, [], ◌++◌, ℕ, ◌+◌, ◌-◌, ◌*◌, ◌/◌, ◌≤◌, ◌<◌, length, drop, Result}
use Rattle.std.proofs.Math.Seq.{slice}
use Rattle.aut68.specs.Language.{aut68}
use Rattle.aut68.specs.Rules.Grammar.{inner}
use Rattle.aut68.specs.Bytes.{Bytes}
use Rattle.aut68.specs.Source.{Used, Src, Srcs, count_srcs}
use Rattle.aut68.specs.Expr.{cells, cellss, levels, levelss}
use Rattle.aut68.specs.Paragraphs.{State}
use Rattle.aut68.specs.Procedure.Parse.{Read, an_expression, named, application, abstraction, arguments}
use Rattle.aut68.specs.Procedure.Answer.{Answer, wrong_arity}
use Rattle.aut68.specs.Procedure.Resolve.{found, refused, Meaning, wanted, left_out, resolve, resolves, meaning, context_at}
use Rattle.aut68.specs.Sizes.{nesting}
use Rattle.constants.specs.declared.codes.Reason.{Reason}
use Rattle.constants.specs.Refusals.{code_in}
use Rattle.cells.specs.Layout.{line_unit, reader_units}
use Rattle.kinds.specs.Kinds.{KindsTable}
use Rattle.cells.specs.declared.scope.Scope.{Scope}
use Rattle.names.specs.Known.{Known}
use Rattle.symbols.specs.Symbols.{used_in, title_in, size_in}
use Rattle.symbols.specs.declared.UsedName.{UsedName}
use Rattle.notes.specs.Note.{note_end, StateNoted}
use Rattle.meanings.specs.Bindings.{bound_names}
use Rattle.meanings.specs.NotedContext.{ContextNoted}
use Rattle.meanings.specs.Posts.{BindingFound}
use Rattle.meanings.specs.Meanings.{cell_of, cell_in, wanted_in, Meant}
use Rattle.meanings.specs.declared.meanings.Meaning.{Meaning as Told}
use Rattle.completion.specs.Posts.{variable_cells}
use Rattle.expressions.specs.Walk.{Walked, ReadTo, SameBelow, Written}

-- the readers of an expression in a scope, of a part of one, and of the three forms
module _ (scope : Scope) where
  abbrev pub expression_in : Read Src
  expression_in = an_expression aut68 (nesting - scope.depth) inner

  abbrev pub part_in : Read Src
  part_in = an_expression aut68 (nesting - 1 - scope.depth) inner

  abbrev pub named_in : Read Src
  named_in = named aut68 part_in

  abbrev pub application_in : Read Src
  application_in = application part_in

  abbrev pub abstraction_in : Read Src
  abstraction_in = abstraction aut68 part_in part_in

-- a walk that goes on at byte `at` and cell `to`, with the first fault of a name so far
abbrev pub go_on : ℕ → ℕ → ℕ → Walked
go_on at to fault = record { code = 0; at = at; to = to; fault = fault; count = 0 }

-- a scope of at most so many nesting levels, of which no more bind a name
pub record Sized (scope : Scope) : Type 0 where
  pub starts : length scope.starts ≡ nesting
  pub lens : length scope.lens ≡ nesting
  pub deep : scope.depth ≤ nesting
  pub few : scope.bound ≤ scope.depth

-- what the names of the line s are looked up in: the table of kinds, the state, which is noted with the line's context below the cell
-- `to`, the line's indicator, the bindings around
pub record Ready (st : State) (ks s book tb : List ℕ) (lines indicator : ℕ) (scope : Scope) (w : List ℕ) (to : ℕ) : Type 0 where
  pub table : KindsTable ks
  pub known : Known st.earlier book tb lines
  pub noted : StateNoted st book tb lines w
  pub below : note_end (length w) ≤ to
  pub context : ContextNoted st.earlier indicator w
  pub above : line_unit * (length w / reader_units) ≤ to
  pub earlier : indicator ≤ lines
  pub short : length s < 4294967296
  pub sized : Sized scope

-- the walk ends at byte `at`, cell `to`, with a refusal of the form
pub record Refusing (code at to : ℕ) (r : Walked) : Type 0 where
  pub code_is : r.code ≡ code
  pub at_is : r.at ≡ at
  pub to_is : r.to ≡ to

-- Whatever was read: nothing is written below the first cell, the walk goes on from there, inside the line, and its next cell is at
-- most one past the store's end.
pub record Onward (s : Bytes) (w w' : List ℕ) (r r' : Walked) : Type 0 where
  pub below : SameBelow r.to w w'
  pub up : r.to ≤ r'.to
  pub from : r.at ≤ r'.at
  pub inside : r'.at ≤ length s
  pub small : r'.to ≤ length w + 1

module _ (st : State) (s : Bytes) (indicator : ℕ) (scope : Scope) (w w' : List ℕ) (to end fault fault' : ℕ) where
  -- the cells of an expression, and of an argument string
  abbrev pub WrittenOne : Src → Type 0
  WrittenOne = Written cells levels (resolve st (context_at st.earlier indicator) (bound_names s scope)) w w' to end (nesting - scope.depth) fault fault'

  abbrev pub WrittenAll : Srcs → Type 0
  WrittenAll = Written cellss levelss (resolves st (context_at st.earlier indicator) (bound_names s scope)) w w' to end (nesting - scope.depth) fault fault'

-- the reader m read an expression from r on, and came to r'
pub record ExpressionRead (m : Read Src) (ks s : Bytes) (scope : Scope) (book tb : List ℕ) (lines indicator : ℕ) (w w' : List ℕ) (r r' : Walked) : Type 0 where
  pub onward : Onward s w w' r r'
  pub read : (st : State) → Ready st ks s book tb lines indicator scope w r.to
      → ReadTo s (WrittenOne st s indicator scope w w' r.to r'.to r.fault r'.fault) r'.code r'.at (m (drop r.at s))

-- the arguments xs, counted from `count` on, with their cells
pub record Counted (st : State) (s : Bytes) (indicator : ℕ) (scope : Scope) (w w' : List ℕ) (to fault count : ℕ) (r' : Walked) (xs : Srcs) : Type 0 where
  pub number : r'.count ≡ count + count_srcs xs
  pub written : WrittenAll st s indicator scope w w' to r'.to fault r'.fault xs

-- the argument string behind `(` was read from r on, up to its `)`; n bounds how many arguments there can be
pub record ArgumentsRead (ks s : Bytes) (scope : Scope) (book tb : List ℕ) (lines indicator : ℕ) (w w' : List ℕ) (r r' : Walked) : Type 0 where
  pub onward : Onward s w w' r r'
  pub read : (st : State) → Ready st ks s book tb lines indicator scope w r.to → (n : ℕ) → length s - r.at < n
      → ReadTo s (Counted st s indicator scope w w' r.to r.fault 0 r') r'.code r'.at
      (arguments (expression_in scope) n (drop r.at s))

-- where a used name is, in numbers: the paragraph's name ahead of the point, of size 0 if there is no point, and the name
pub record UsedPlace : Type 0 where
  pub title : ℕ
  pub size : ℕ
  pub start : ℕ
  pub len : ℕ

abbrev pub place_of : UsedName → UsedPlace
place_of u = record { title = title_in u.paragraph; size = size_in u.paragraph; start = u.name.start; len = u.name.len }

-- the used name at the place u of s
abbrev pub used_of : Bytes → UsedPlace → Used
used_of s u = used_in s u.title u.size u.start u.len

-- what a name means, in numbers: the code of its refusal, or 0; its cell, and how many arguments it takes
pub record NameMeaning : Type 0 where
  pub fault : ℕ
  pub cell : ℕ
  pub wanted : ℕ

abbrev pub meaning_in : Result Told Reason → NameMeaning
meaning_in m = record { fault = code_in m; cell = cell_in m; wanted = wanted_in m }

-- what a name means, wherever b is its binding; the fault from before, if there was one
pub record NameSought (ks s : Bytes) (b : ℕ) (book tb : List ℕ) (lines indicator : ℕ) (w : List ℕ) (fault : ℕ) (u : UsedPlace) (m : NameMeaning) : Type 0 where
  pub kept : fault ≢ 0 → m.fault ≡ fault
  pub meant : fault ≡ 0 → 1 ≤ u.len → u.start + u.len ≤ length s → u.title + u.size ≤ length s
      → (st : State) → KindsTable ks → Known st.earlier book tb lines → StateNoted st book tb lines w → ContextNoted st.earlier indicator w → indicator ≤ lines
      → (scope : Scope) → BindingFound s scope (used_of s u) b → scope.bound ≤ nesting
      → Meant st (context_at st.earlier indicator) m.fault m.cell m.wanted
      (meaning st (context_at st.earlier indicator) (used_of s u) (bound_names s scope) tt)

-- The variables us stand in front of the cells from `first` up to `end` of w, all of them in w' up to end'; d nesting levels are left
-- for them. Where they have no room, or there is no level, end' is past the store's end.
pub record Inserted (w w' : List ℕ) (first end end' d : ℕ) (us : List ℕ) : Type 0 where
  pub fits : end' ≤ length w → (slice first end' w' ≡ variable_cells us ++ slice first end w) × ((us ≡ []) ⊎ (1 ≤ d))
  pub over : length w < end' → (length w < end + length us) ⊎ ((1 ≤ length us) × (d < 1))

-- what was left out is put in; else the fault is 6
pub data Filled (w w' : List ℕ) (first end end' d fault fault' : ℕ) : Answer (Unit {0}) (List ℕ) → Type 0 where
  put_in : {us : List ℕ} → fault' ≡ fault → Inserted w w' first end end' d us → Filled w w' first end end' d fault fault' (found us)
  wrong : fault' ≡ 6 → Filled w w' first end end' d fault fault' (refused wrong_arity)

-- r is the argument string a of a name that means m, its cells from `first` on, with what was left out
pub record Completed (tb : List ℕ) (indicator : ℕ) (w w' : List ℕ) (first depth : ℕ) (a : Walked) (m : NameMeaning) (r : Walked) : Type 0 where
  pub below : SameBelow first w w'
  pub up : a.to ≤ length w + 1 → a.to ≤ r.to
  pub small : a.to ≤ length w + 1 → r.to ≤ length w + 1
  pub code : r.code ≡ a.code
  pub at : r.at ≡ a.at
  pub kept : m.fault ≢ 0 → r.fault ≡ a.fault
  pub filled : a.code ≡ 0 → m.fault ≡ 0 → first ≤ a.to → a.to ≤ length w + 1
      → (st : State) (book : Bytes) (lines : ℕ) → Known st.earlier book tb lines → ContextNoted st.earlier indicator w → indicator ≤ lines
      → (x : Meaning) → m.cell ≡ cell_of x → m.wanted ≡ length (wanted st (context_at st.earlier indicator) x)
      → Filled w w' first a.to r.to (nesting - 1 - depth) a.fault r.fault (left_out a.count (wanted st (context_at st.earlier indicator) x) (context_at st.earlier indicator) tt)
