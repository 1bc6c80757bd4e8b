-- What the functions that follow names leave.
use Rattle.std.specs.Prelude.{◌≡◌, true, false, List, [], ℕ, ◌+◌, ◌*◌, ◌≤◌, ◌<◌, length, replicate}
use Rattle.aut68.specs.Lines.{Line, Lines}
use Rattle.aut68.specs.Procedure.Run.{over}
use Rattle.aut68.specs.Rules.Names.{IsLine}
use Rattle.aut68.specs.Rules.Following.{NamesLine, Reaches, RestsOn}
use Rattle.lookup.specs.Following.{NamesBefore}
use Rattle.cells.specs.Rows.{Rows, Stored}
use Rattle.marks.specs.Marks.{cell_marks, marked}
use Rattle.reaching.specs.Adding.{AddsMarks}
use Rattle.reaching.specs.RowNames.{row_names}
use Rattle.reaching.specs.Primitives.{is_marked_primitive, marked_primitives, one_if}

-- what is marked when line v is visited
unfoldable pub visited : List ℕ → List ℕ → List ℕ → ℕ → List ℕ
visited tb ts w v = elim (marked w v) [ true ↦ row_names tb ts v | false ↦ [] ]

pub record VisitPost (tb ts : List ℕ) (v : ℕ) (w : List ℕ) (count : ℕ) (w' : List ℕ) : Type 0 where
  pub adds : AddsMarks (visited tb ts w v) w w'
  pub count_is : count ≡ one_if (is_marked_primitive tb w v)

-- table and term store say what the lines are, and there are marks for line `line` and those before it
pub record Followable (ls : Lines) (tb ts : List ℕ) (line size : ℕ) : Type 0 where
  pub rows : Rows ls tb
  pub stored : Stored ls tb ts
  pub before : NamesBefore ls
  pub positive : 1 ≤ line
  pub within : line ≤ length ls
  pub room : line < cell_marks * size

-- names are followed from line `line` down to the lines behind line v, among which are so many marked `PN` lines
pub record Followed (ls : Lines) (tb : List ℕ) (line v : ℕ) (w : List ℕ) (count : ℕ) : Type 0 where
  pub reached : (u : ℕ) → marked w u ≡ true → Reaches ls line u
  pub itself : marked w line ≡ true
  pub onward : (u x : ℕ) (l : Line) → v < u → marked w u ≡ true → IsLine ls u l → NamesLine l x → marked w x ≡ true
  pub count_is : (n : ℕ) → v + n ≡ line → count ≡ length (marked_primitives tb w v n)

pub record ReachedPost (tb ts : List ℕ) (line : ℕ) (w : List ℕ) (count : ℕ) (w' : List ℕ) : Type 0 where
  pub long : length w' ≡ length w
  pub few : count ≤ line
  pub followed : (ls : Lines) → Followable ls tb ts line (length w) → w ≡ replicate (length w) 0 → Followed ls tb line 0 w' count

pub record MarkedPost (tb : List ℕ) (line : ℕ) (w old new : List ℕ) : Type 0 where
  pub written : length (marked_primitives tb w 0 line) ≤ length old → new ≡ over (marked_primitives tb w 0 line) old

-- what line v rests on, so many `PN` lines, is written in the first cells of the answer if it has room for them
pub record Answered (ls : Lines) (v : ℕ) (old : List ℕ) (count : ℕ) (new : List ℕ) : Type 0 where
  pub list : List ℕ
  pub rests_on : RestsOn ls v list
  pub count_is : count ≡ length list
  pub written : length list ≤ length old → new ≡ over list old
  pub untouched : length old < length list → new ≡ old

pub record BeneathPost (tb ts : List ℕ) (line : ℕ) (w old : List ℕ) (count : ℕ) (w' new : List ℕ) : Type 0 where
  pub zeros : w' ≡ replicate (length w) 0
  pub few : count ≤ line
  pub answered : (ls : Lines) → Followable ls tb ts line (length w) → w ≡ replicate (length w) 0 → Answered ls line old count new
