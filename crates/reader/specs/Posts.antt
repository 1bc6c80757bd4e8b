-- What the functions that read a line leave.
use Rattle.std.specs.Prelude.{◌≡◌, true, false, List, [], ℕ, ◌+◌, ◌*◌, ◌/◌, ◌≤◌, ◌<◌, length, drop, take, Ok, Err, Result as Tried, Some, None, Option as Maybe}
use Rattle.std.proofs.Math.Option.{Option}
use Rattle.std.proofs.Math.Seq.{slice}
use Rattle.aut68.specs.Language.{aut68}
use Rattle.aut68.specs.Rules.Grammar.{ending}
use Rattle.aut68.specs.Bytes.{Bytes, same_bytes, word_pn, word_eb}
use Rattle.aut68.specs.Source.{Used, Src, Middle, variable, primitive, meaning}
use Rattle.aut68.specs.Expr.{cells, levels}
use Rattle.aut68.specs.Paragraphs.{State}
use Rattle.aut68.specs.Lines.{Kind, kind_cells, kind_number, line_cells}
use Rattle.aut68.specs.Lines as Lines
use Rattle.aut68.specs.Procedure.Answer.{Answer, unknown_name, code_of}
use Rattle.aut68.specs.Procedure.Parse.{Placed, a_middle, an_expression, word_ahead}
use Rattle.aut68.specs.Procedure.Resolve.{found, refused, resolve, resolve_middle, context_at}
use Rattle.aut68.specs.Procedure.CheckLine.{Passed, read_line}
use Rattle.aut68.specs.Sizes.{line_limit, smallest_limit, nesting}
use Rattle.constants.specs.declared.codes.Reason.{Reason}
use Rattle.constants.specs.Reasons.{refusal_of}
use Rattle.constants.specs.Refusals.{code_in}
use Rattle.cells.specs.Cells.{At, Outside}
use Rattle.cells.specs.Results.{Result}
use Rattle.cells.specs.Layout.{context_unit, line_unit, reader_units}
use Rattle.kinds.specs.Kinds.{KindsTable}
use Rattle.headings.specs.ReadLine.{after_heading}
use Rattle.names.specs.Known.{Known}
use Rattle.notes.specs.Note.{note_end, StateNoted}
use Rattle.meanings.specs.NotedContext.{ContextNoted}
use Rattle.expressions.specs.Walk as Walk
use Rattle.expressions.specs.Walk.{Walked, fault_in, ReadTo, SameBelow}
use Rattle.expressions.specs.Posts.{Onward}
use Rattle.reader.specs.declared.body.BodyCells.{BodyCells}
use Rattle.reader.specs.declared.body.LineKind.{LineKind}
use Rattle.reader.specs.declared.body.LineKind.TheVariants.{Variable, Primitive, Abbreviation}
use Rattle.reader.specs.declared.lines.Line.{Line}

-- a line's kind in the table
abbrev pub number_of : LineKind → ℕ
number_of Variable = 0
number_of Primitive = 1
number_of Abbreviation = 2

-- a middle's kind, by the word that stands next: 0 `EB`, 1 `PN`, else 2
pub record MiddleKind (ks s : Bytes) (at kind : ℕ) : Type 0 where
  pub small : kind ≤ 2
  pub is_eb : KindsTable ks → kind ≡ 0 → same_bytes (word_ahead (drop at s)) word_eb ≡ true
  pub is_pn : KindsTable ks → kind ≡ 1 → (same_bytes (word_ahead (drop at s)) word_eb ≡ false) × (same_bytes (word_ahead (drop at s)) word_pn ≡ true)
  pub is_meaning : KindsTable ks → kind ≡ 2 → (same_bytes (word_ahead (drop at s)) word_eb ≡ false) × (same_bytes (word_ahead (drop at s)) word_pn ≡ false)

unfoldable pub middle_number : Middle → ℕ
middle_number variable = 0
middle_number primitive = 1
middle_number (meaning e) = 2

-- how deep the middle of a line is nested
unfoldable pub kind_levels : Kind → ℕ
kind_levels Lines.variable = 0
kind_levels Lines.primitive = 0
kind_levels (Lines.abbreviation m) = levels m

-- what the names of the line s are looked up in, outside every binding: what is noted of the state and the line's context lies below the
-- cell `to`
pub record Lookup (st : State) (ks s book tb : List ℕ) (lines indicator : ℕ) (w : List ℕ) (to : ℕ) : Type 0 where
  pub table : KindsTable ks
  pub known : Known st.earlier book tb lines
  pub noted : StateNoted st book tb lines w
  pub below : note_end (length w) ≤ to
  pub context : ContextNoted st.earlier indicator w
  pub above : line_unit * (length w / reader_units) ≤ to
  pub earlier : indicator ≤ lines
  pub short : length s < 4294967296

module _ (st : State) (indicator : ℕ) (w w' : List ℕ) (to end fault fault' : ℕ) where
  -- the cells of a middle, and of a written category
  abbrev pub WrittenMiddle : Middle → Type 0
  WrittenMiddle = Walk.Written kind_cells kind_levels (resolve_middle st (context_at st.earlier indicator)) w w' to end nesting fault fault'

  abbrev pub WrittenCategory : Src → Type 0
  WrittenCategory = Walk.Written cells levels (resolve st (context_at st.earlier indicator) []) w w' to end nesting fault fault'

-- a middle of this kind was read from `at` on, its cells from `to` on
pub record MiddleRead (ks s book tb : List ℕ) (lines indicator : ℕ) (w w' : List ℕ) (at to kind : ℕ) (r' : Walked) : Type 0 where
  pub below : SameBelow to w w'
  pub up : to ≤ r'.to
  pub from : at ≤ r'.at
  pub inside : r'.at ≤ length s
  pub small : r'.to ≤ length w + 1
  pub read : (st : State) → Lookup st ks s book tb lines indicator w to → MiddleKind ks s at kind
      → ReadTo s (λ m. (middle_number m ≡ kind) × WrittenMiddle st indicator w w' to r'.to 0 r'.fault m) r'.code r'.at (a_middle aut68 (drop at s))

-- a written category was read from r on
pub record CategoryRead (ks s book tb : List ℕ) (lines indicator : ℕ) (w w' : List ℕ) (r r' : Walked) : Type 0 where
  pub onward : Onward s w w' r r'
  pub read : (st : State) → Lookup st ks s book tb lines indicator w r.to
      → ReadTo s (WrittenCategory st indicator w w' r.to r'.to r.fault r'.fault) r'.code r'.at (an_expression aut68 nesting ending (drop r.at s))

-- the cells of the line p: the middle's from `to` on below index `middle`, the category's behind them up to `end`
pub record LineWritten (st : State) (indicator : ℕ) (w w' : List ℕ) (to kind middle end fault : ℕ) (before : ℕ) (i : Option Used) (name : Bytes) (p : Placed) : Type 0 where
  pub before_is : p.before ≡ before
  pub indicator_is : p.line.indicator ≡ i
  pub identifier_is : p.line.identifier ≡ name
  pub kind_is : middle_number p.line.middle ≡ kind
  pub between : List ℕ
  pub fault_between : ℕ
  pub middle_written : WrittenMiddle st indicator w between to middle 0 fault_between p.line.middle
  pub below : SameBelow middle between w'
  pub long : length between ≡ length w
  pub category_written : WrittenCategory st indicator between w' middle end fault_between fault p.line.category

-- what was read of a line from byte `at` on, its cells from `to` on, in numbers: the middle's cells end at the count
abbrev pub body_in : Bytes → ℕ → ℕ → Tried BodyCells Reason → Walked
body_in s at to (Ok b) = record { code = 0; at = length s; to = b.category; fault = fault_in b.fault; count = b.middle }
body_in s at to (Err e) = record { code = code_of (refusal_of e); at = at; to = to; fault = 0; count = 0 }

-- `middle:category` and byte 10 were read from `at` on, their cells from `to` on; the middle's end at r'.count
pub record BodyRead (ks s book tb : List ℕ) (lines indicator : ℕ) (w w' : List ℕ) (at to kind : ℕ) (r' : Walked) : Type 0 where
  pub below : SameBelow to w w'
  pub upward : r'.code ≡ 0 → (to ≤ r'.count) × (r'.count ≤ r'.to)
  pub read : (st : State) → Lookup st ks s book tb lines indicator w to → MiddleKind ks s at kind → (i : Option Used) (before : ℕ) (name : Bytes)
      → ReadTo s (LineWritten st indicator w w' to kind r'.count r'.to r'.fault before i name) r'.code r'.at (after_heading aut68 i before name (drop at s))

-- the line of an indicator; `line_limit` where it is no `EB` line
abbrev pub place_in : Maybe ℕ → ℕ
place_in (Some v) = v
place_in None = line_limit

-- r is the indicator's line, 0 if empty; `line_limit` where it is no `EB` line
pub data IndicatorFound (lines r : ℕ) : Answer (Unit {0}) ℕ → Type 0 where
  is_line : {v : ℕ} → r ≡ v → v ≤ lines → IndicatorFound lines r (found v)
  no_line : r ≡ line_limit → IndicatorFound lines r (refused unknown_name)

-- the line p as it was read: where its identifier is, its row's numbers, and its cells in the store from `to` on
pub record LineRead (s : Bytes) (w' : List ℕ) (to : ℕ) (l : Line) (p : Passed) : Type 0 where
  pub first_is : l.first ≡ p.before
  pub len_is : l.len ≡ length p.line.identifier
  pub within : l.first + l.len ≤ length s
  pub identifier_is : slice l.first (l.first + l.len) s ≡ p.line.identifier
  pub indicator_is : l.indicator ≡ p.line.indicator
  pub context_is : l.context ≡ length p.line.context
  pub kind_is : number_of l.kind ≡ kind_number p.line.kind
  pub middle_is : l.middle ≡ length (kind_cells p.line.kind)
  pub size_is : l.size ≡ length (line_cells p.line)
  pub paragraph_is : l.paragraph ≡ p.line.paragraph
  pub after : List ℕ
  pub cells_at : At w' to (line_cells p.line) after

-- the same where the line was read
abbrev pub ReadAs : Bytes → List ℕ → ℕ → Tried Line Reason → Passed → Type 0
ReadAs s w' to (Ok l) p = LineRead s w' to l p
ReadAs s w' to (Err r) p = Unit {0}

-- the same for a store of the reader's units: what is noted of the state, which stays as it was, then the line's context and its cells
pub record LineReadInto (ks s book tb : List ℕ) (lines limit : ℕ) (w w' : List ℕ) (l : Tried Line Reason) : Type 0 where
  pub below : SameBelow (context_unit * limit) w w'
  pub read : (st : State) → KindsTable ks → Known st.earlier book tb lines → length s < 4294967296 → smallest_limit ≤ limit → StateNoted st book tb lines w
      → Result (ReadAs s w' (line_unit * limit) l) (code_in l) tt (read_line aut68 st limit s tt)

-- Only the units of the context and of the cells are written. With them there, the line is read where it passes, and else its first refusal is given;
-- without them it is too large.
pub record LineReadTo (ks s book tb : List ℕ) (lines limit : ℕ) (w w' : List ℕ) (l : Tried Line Reason) : Type 0 where
  pub outside : Outside (context_unit * limit) (reader_units * limit) w w'
  pub no_room : length w < reader_units * limit → (w' ≡ w) × (code_in l ≡ 10)
  pub read : (st : State) → KindsTable ks → Known st.earlier book tb lines → length s < 4294967296 → smallest_limit ≤ limit → reader_units * limit ≤ length w
      → StateNoted st book tb lines (take (reader_units * limit) w)
      → Result (ReadAs s w' (line_unit * limit) l) (code_in l) tt (read_line aut68 st limit s tt)
