-- What is claimed of the lines that a line rests on, and of the call that tells them, as types. The proofs are elsewhere.
use Rattle.std.specs.Prelude.{◌≡◌, ◌↔◌, ◌⊎◌, ℕ, ◌≤◌, ◌<◌, List, [], map, length}
use Rattle.aut68.specs.Language.{Language}
use Rattle.aut68.specs.Stores.{Stores, limits_of}
use Rattle.aut68.specs.Bytes.{Bytes, lines, joined}
use Rattle.aut68.specs.Lines.{Line, Lines}
use Rattle.aut68.specs.Paragraphs.{State, start}
use Rattle.aut68.specs.Index.{names_of}
use Rattle.aut68.specs.Renumbering.{renumber_line}
use Rattle.aut68.specs.Procedure.Calls.{decline_code, no_such_line, answer_too_long}
use Rattle.aut68.specs.Procedure.Run.{run, code_at, recorded_at}
use Rattle.aut68.specs.Rules.Names.{IsLine, Member}
use Rattle.aut68.specs.Rules.Derivation.{Derived, Correct}
use Rattle.aut68.specs.Rules.Following.{NamesLine, Reaches, Ascends, RestsOn, Deleted}
use Rattle.aut68.specs.Admission.{Writes, AdmitsFirst}

-- ---- the index

-- An entry has the lines that the completed line names: ascending, each once, and no other.
unfoldable pub Entries : Type 0
Entries = (l : Line) → Ascends (names_of l) × ((v : ℕ) → Member v (names_of l) ↔ NamesLine l v)

-- ---- all lines deleted that are not reached

-- What stays of the pieces, which mean the lines ls, when all lines not reached from line v are deleted, and the paragraph lines are left
-- standing: a correct book; each line that stays means what it meant, renumbered; and line v rests on what it rested on.
pub record Remains (language : Language) (pieces : List Bytes) (ls : Lines) (v : ℕ) : Type 0 where
  pub rest : List Bytes
  pub deleted : Deleted language (Reaches ls v) 1 pieces rest
  pub correct : Correct language (joined rest)
  pub meanings : State
  pub derived : Derived language start rest meanings
  -- the new number of a line
  pub number : ℕ → ℕ
  pub in_order : (u w : ℕ) → Reaches ls v u → Reaches ls v w → u < w → number u < number w
  pub keeps_meaning : (u : ℕ) (l : Line) → Reaches ls v u → IsLine ls u l → IsLine meanings.earlier (number u) (renumber_line number l)
  pub rests_on_the_same : (list : List ℕ) → RestsOn ls v list → RestsOn meanings.earlier (number v) (map number list)

-- Paper 2: "deleting all lines not reached leaves a book that the rules find correct".
unfoldable pub Deletion : Type 0
Deletion = (language : Language) (pieces : List Bytes) (st : State) (v : ℕ)
    → Derived language start pieces st
    → st.place.opened ≡ []
    → 1 ≤ v
    → v ≤ length st.earlier
    → Remains language pieces st.earlier v

-- ---- the call that tells what a line rests on

-- What it says of line v of the lines ls, and what it leaves of the lent store `old`: exactly one of the two.
pub data Told (ls : Lines) (v : ℕ) (old : List ℕ) (code count : ℕ) (new : List ℕ) : Type 0 where
  -- "13, the line is 0 or above the last"
  no_line : (v ≡ 0) ⊎ (length ls < v) → code ≡ decline_code no_such_line → count ≡ 0 → new ≡ old → Told ls v old code count new
  -- "a list that does not fit gives 12 and none of it is written"
  told : (list : List ℕ) → 1 ≤ v → v ≤ length ls → RestsOn ls v list → Writes list answer_too_long old code count new → Told ls v old code count new

-- What the call promises, of the bytes, the budget N, the limit L, the stores at entry, the line v, the cells of the answer's store at
-- entry, the outcome, the stores and the answer's store at exit. Each field names two wrong programs that it shuts out.
pub record TellsRests (language : Language) (book : Bytes) (N L : ℕ) (s : Stores) (v : ℕ) (old : List ℕ) (code line steps count : ℕ) (s' : Stores) (new : List ℕ) : Type 0 where
  -- The book is admitted first; following names takes no step. Shut out: a program that leaves the line itself out; one that writes a
  -- list before it is known to fit.
  pub admits_first : AdmitsFirst language book N L s code line steps count s' (new ≡ old) (λ ls. (steps ≡ 0) × Told ls v old code count new)
  -- "To be shown: deleting all lines not reached leaves a book that the rules find correct." Shut out, since the list is of the same
  -- lines: a program that forgets a line's indicator; one that forgets what is put in.
  pub deleting : let e = run language book (limits_of N L s) in
      code_at e ≡ 0 → 1 ≤ v → v ≤ length (recorded_at e).recorded → Remains language (lines book) (recorded_at e).recorded v
