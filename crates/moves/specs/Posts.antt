-- What a paragraph line leaves.
use Rattle.std.specs.Prelude.{◌≡◌, Bool, true, false, List, [], ◌∷◌, ℕ, ◌+◌, ◌*◌, ◌/◌, ◌≤◌, length, get_or, drop, Result, Ok, Err}
use Rattle.std.proofs.Math.Seq.{slice}
use Rattle.aut68.specs.Language.{aut68}
use Rattle.aut68.specs.Sizes.{smallest_limit, largest_limit, open_limit}
use Rattle.aut68.specs.Stores.{Limits}
use Rattle.aut68.specs.Bytes.{Bytes, same_bytes, lines}
use Rattle.aut68.specs.Lines.{part_of}
use Rattle.aut68.specs.Paragraphs.{Opened, Place, State, with_place}
use Rattle.aut68.specs.Procedure.Answer.{done, stop, Refusal, code_of}
use Rattle.aut68.specs.Procedure.Parse.{a_sign_line, signed}
use Rattle.aut68.specs.Procedure.CheckPiece.{moved_to, check_piece}
use Rattle.aut68.specs.Rules.Grammar.{IsSign}
use Rattle.cells.specs.Cells.{Outside}
use Rattle.cells.specs.Layout.{reader_units}
use Rattle.constants.specs.declared.codes.Reason.{Reason}
use Rattle.kinds.specs.Kinds.{KindsTable, kind_of}
use Rattle.names.specs.Known.{Known}
use Rattle.notes.specs.Note.{StandsAt, note_end}
use Rattle.moves.specs.declared.Title.{Title}
use Rattle.moves.specs.declared.Open.{Open}

-- ---- open paragraphs

abbrev pub nowhere : Title
nowhere = record { start = 0; len = 0 }

-- the name of each, the outermost first, is the part of the book with that start and that length
pub data Titled (book : Bytes) (titles : List Title) : List Opened → Type 0 where
  no_title : Titled book titles []
  next_title : {o : Opened} {os : List Opened} → part_of book (get_or titles (length os) nowhere).start (get_or titles (length os) nowhere).len ≡ o.name → Titled book titles os → Titled book titles (o ∷ os)

pub record OpenNamed (book : Bytes) (o : Open) (os : List Opened) : Type 0 where
  pub long : length o.titles ≡ open_limit
  pub depth_is : o.depth ≡ length os
  pub titled : Titled book o.titles os

-- one more, whose name is this part of the book
pub record OneOpened (o : Open) (start len : ℕ) (o' : Open) : Type 0 where
  pub named : {book : Bytes} {os : List Opened} (x : Opened) → part_of book start len ≡ x.name → OpenNamed book o os → OpenNamed book o' (x ∷ os)

-- the word is the name of the innermost
unfoldable pub innermost_is : Bytes → List Opened → Bool
innermost_is word [] = false
innermost_is word (x ∷ os) = same_bytes word x.name

pub record InnermostTold (book : Bytes) (o : Open) (word : Bytes) (r : Bool) : Type 0 where
  pub some : r ≡ true → 1 ≤ o.depth
  pub is : (os : List Opened) → OpenNamed book o os → length os ≤ open_limit → 1 ≤ length word → r ≡ innermost_is word os

-- ---- a paragraph line

-- The check stands at byte `at` in the state st, ahead of the piece `bytes`, a paragraph line whose sign has the kind k; it ends at
-- byte `next`.
pub record SignAhead (ks book tb : List ℕ) (n : ℕ) (w : List ℕ) (at next k : ℕ) (o : Open) (st : State) (bytes : Bytes) : Type 0 where
  pub kinds : KindsTable ks
  pub limit : ℕ
  pub large : smallest_limit ≤ limit
  pub small : limit ≤ largest_limit
  pub size : length w ≡ reader_units * limit
  pub known : Known st.earlier book tb n
  pub stands : StandsAt st book tb n w at
  pub named : OpenNamed book o st.place.opened
  pub cut : lines (drop at book) ≡ bytes ∷ lines (drop next book)
  pub bytes_are : bytes ≡ slice at next book
  pub sign : ℕ
  pub is_sign : IsSign sign
  pub kind_is : k ≡ kind_of sign
  pub signs : signed sign bytes ≡ true

-- Its sign is this one, and its name this part of the book.
pub record NameAhead (sign : ℕ) (ks book tb : List ℕ) (n : ℕ) (w : List ℕ) (start len at next k : ℕ) (o : Open) (st : State) (bytes : Bytes) : Type 0 where
  pub ahead : SignAhead ks book tb n w at next k o st bytes
  pub sign_is : ahead.sign ≡ sign
  pub onward : at ≤ next
  pub rest : Bytes
  pub read : a_sign_line aut68 sign bytes ≡ done (part_of book start len) rest

-- the paragraphs that are open behind the line: those before it, where it is refused
abbrev pub open_in : Open → Result Open Reason → Open
open_in o (Ok o') = o'
open_in o (Err r) = o

-- If it passes, the place behind it is noted; if it is refused, the code is that of its refusal.
pub data MovedResult (book tb : List ℕ) (n : ℕ) (w' : List ℕ) (next : ℕ) (st : State) (bytes : Bytes) (code : ℕ) (o' : Open) : Type 0 where
  moved : {place : Place} → ((m : Limits) (c : ℕ) → check_piece aut68 st m bytes c ≡ done (moved_to place) c) → code ≡ 0
      → StandsAt (with_place st place) book tb n w' next → OpenNamed book o' place.opened → MovedResult book tb n w' next st bytes code o'
  refused : {r : Refusal} → ((m : Limits) (c : ℕ) → check_piece aut68 st m bytes c ≡ stop r c) → code ≡ code_of r → MovedResult book tb n w' next st bytes code o'

-- Only the note of the place is another.
pub record MovedPost (ks book tb : List ℕ) (n : ℕ) (w w' : List ℕ) (at next k : ℕ) (o : Open) (code : ℕ) (o' : Open) : Type 0 where
  pub kept : Outside (length w / 2 + 1) (note_end (length w)) w w'
  pub means : (st : State) (bytes : Bytes) → SignAhead ks book tb n w at next k o st bytes → MovedResult book tb n w' next st bytes code o'

-- The same of a line whose name was read.
pub record NamePost (sign : ℕ) (ks book tb : List ℕ) (n : ℕ) (w w' : List ℕ) (start len next : ℕ) (o : Open) (code : ℕ) (o' : Open) : Type 0 where
  pub kept : Outside (length w / 2 + 1) (note_end (length w)) w w'
  pub means : {at k : ℕ} {st : State} {bytes : Bytes} → NameAhead sign ks book tb n w start len at next k o st bytes → MovedResult book tb n w' next st bytes code o'
