-- What the check of the pieces of a book comes to, from one to the next, and how it ends.
use Rattle.std.specs.Prelude.{◌≡◌, ◌≢◌, List, ℕ, ◌+◌, ◌-◌, ◌*◌, ◌≤◌, ◌<◌, length, drop}
use Rattle.aut68.specs.Language.{aut68}
use Rattle.aut68.specs.Sizes.{line_limit, row_width}
use Rattle.aut68.specs.Stores.{Stores, limits_of}
use Rattle.aut68.specs.Bytes.{Bytes, lines}
use Rattle.aut68.specs.Procedure.Run.{Recorded, state_of, Ending, nothing, check_lines, code_at, line_at, steps_at, table_end, terms_end, index_end}
use Rattle.cells.specs.Links.{unlinked}
use Rattle.moves.specs.Posts.{OpenNamed}
use Rattle.moves.specs.declared.Open.{Open}
use Rattle.records.specs.Reached.{Reached}
use Rattle.records.specs.Indexed.{Indexed}
use Rattle.checking.specs.Progress.{StandsIn}

-- what is recorded when the check has come to the byte `at`, with the open paragraphs o, and that the pieces from there on decide how the
-- book ends
pub record Going (book : Bytes) (N limit : ℕ) (s : Stores) (at n used entries budget : ℕ) (tb ts ix w : List ℕ) (o : Open) : Type 0 where
  pub recorded : Recorded
  pub reached : Reached aut68 book N limit s recorded at n used (unlinked n tb) ts
  pub indexed : Indexed s recorded entries ix
  pub stands : StandsIn limit (state_of recorded) book tb n w at
  pub opened : OpenNamed book o recorded.place.opened
  pub goes : check_lines aut68 (limits_of N limit s) nothing 0 N (lines book) ≡ check_lines aut68 (limits_of N limit s) recorded at budget (lines (drop at book))

-- The lines of the book end so: with code 0 after n lines, else at line n + 1.
pub record LinesPost (e : Ending) (N : ℕ) (tb ts ix : List ℕ) (code n left : ℕ) (tb' ts' ix' : List ℕ) : Type 0 where
  pub code_is : code ≡ code_at e
  pub accepted_line : code ≡ 0 → n ≡ line_at e
  pub refused_line : code ≢ 0 → n + 1 ≡ line_at e
  pub few : n < line_limit
  pub rows_fit : row_width * n ≤ length tb'
  pub steps_are : N - left ≡ steps_at e
  pub table_is : tb' ≡ table_end e tb
  pub terms_are : ts' ≡ terms_end e ts
  pub index_is : ix' ≡ index_end e ix
