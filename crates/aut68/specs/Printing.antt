-- What is claimed of printed pages, and of the call that prints a book, as types. The proofs are elsewhere.
use Rattle.std.specs.Prelude.{◌≡◌, ◌⊎◌, ◌≢◌, ℕ, ◌*◌, ◌%◌, ◌≤◌, take, get_or}
use Rattle.aut68.specs.Language.{Language}
use Rattle.aut68.specs.Sizes.{row_width}
use Rattle.aut68.specs.Stores.{Stores, limits_of}
use Rattle.aut68.specs.Bytes.{Bytes, lines, joined}
use Rattle.aut68.specs.Source.{SourceLine}
use Rattle.aut68.specs.Paragraphs.{start}
use Rattle.aut68.specs.Pages.{without, without_spaces, pages, read_back}
use Rattle.aut68.specs.Symbols.{symbols_in}
use Rattle.aut68.specs.Procedure.Calls.{store_too_small}
use Rattle.aut68.specs.Procedure.Run.{Ending, run, state_of, code_at, line_at, steps_at, recorded_at, table_end, terms_end, work_end, index_end}
use Rattle.aut68.specs.Rules.Grammar.{WellFormed, SignLine, IsSign}
use Rattle.aut68.specs.Rules.Derivation.{Derived}
use Rattle.aut68.specs.Demands.{Accepted}
use Rattle.aut68.specs.Admission.{Writes, AdmitsFirst}

-- ---- a line without its spaces

-- It is read as the same line, ordinary or paragraph line: what its bytes say never hangs on byte 32.
unfoldable pub SameReading : Type 0
SameReading = (language : Language) (bytes : Bytes)
    → ((source : SourceLine) → WellFormed language source bytes → WellFormed language source (without 32 bytes))
    × ((sign : ℕ) (p : Bytes) → IsSign sign → SignLine language sign p bytes → SignLine language sign p (without 32 bytes))

-- Spaces dropped never join two symbols.
unfoldable pub NeverJoined : Type 0
NeverJoined = (language : Language) (bytes : Bytes)
    → ((source : SourceLine) → WellFormed language source bytes → symbols_in (without 32 bytes) ≡ symbols_in bytes)
    × ((sign : ℕ) (p : Bytes) → IsSign sign → SignLine language sign p bytes → symbols_in (without 32 bytes) ≡ symbols_in bytes)

-- ---- the book that is read back

-- Two endings that are alike in the numbers of the outcome and in every cell but the first of each row, where the identifier begins in
-- the book.
pub record SameButPlaces (e e' : Ending) (L : ℕ) (s : Stores) : Type 0 where
  pub code : code_at e' ≡ code_at e
  pub line : line_at e' ≡ line_at e
  pub steps : steps_at e' ≡ steps_at e
  pub table_cells : (i : ℕ) → (i % row_width ≢ 0) ⊎ (row_width * line_at e ≤ i) → get_or (table_end e' s.table) i 0 ≡ get_or (table_end e s.table) i 0
  pub terms_cells : terms_end e' s.terms ≡ terms_end e s.terms
  pub work_cells : work_end L e' s.work ≡ work_end L e s.work
  pub index_cells : index_end e' s.index ≡ index_end e s.index

-- "Columns 7 to 72, read back line by line, give the same shelf cells": of the pages of an accepted book, with the padding dropped, since
-- with it a book can have more than 16,777,215 bytes.
unfoldable pub ReadsBack : Type 0
ReadsBack = (language : Language) (book : Bytes) (N L : ℕ) (s : Stores)
    → let e = run language book (limits_of N L s) in
    Accepted e
    → SameButPlaces e (run language (joined (without_spaces (read_back (pages book)))) (limits_of N L s)) L s

-- With the padding each line has a derivation and means what it meant.
unfoldable pub ReadsBackPadded : Type 0
ReadsBackPadded = (language : Language) (book : Bytes) (N L : ℕ) (s : Stores)
    → let e = run language book (limits_of N L s) in
    Accepted e
    → Derived language start (lines (joined (read_back (pages book)))) (state_of (recorded_at e))

-- ---- the call that prints a book

-- What the call promises, of the bytes, the budget N, the limit L, the stores at entry, the bytes of the page store at entry, the outcome,
-- the stores and the page store at exit. Each field names two wrong programs that it shuts out.
pub record PrintsPages (language : Language) (book : Bytes) (N L : ℕ) (s : Stores) (old : Bytes) (code line steps count : ℕ) (s' : Stores) (new : Bytes) : Type 0 where
  -- The book is admitted first; printing takes no step. "15, page store too small; then, as after a refusal, it is untouched." Shut out:
  -- a program that puts 67 bytes in a row, or the number on every row; one that writes the rows that fit.
  pub admits_first : AdmitsFirst language book N L s code line steps count s' (new ≡ old) (λ _. (steps ≡ 0) × Writes (pages book) store_too_small old code count new)
  -- "Columns 7 to 72, read back line by line, give the same shelf cells." Shut out, since it speaks of what was written: a program that
  -- drops the last row of a long line; one that keeps the spaces and lets them pass the end of the text columns.
  pub reads_back : let e = run language book (limits_of N L s) in
      code ≡ 0 → SameButPlaces e (run language (joined (without_spaces (read_back (take count new)))) (limits_of N L s)) L s
  -- With the padding each line still has a derivation and means what it meant. Shut out: a program that pads the first row of a line of
  -- two; one that prints the lines in another order.
  pub reads_back_padded : let e = run language book (limits_of N L s) in
      code ≡ 0 → Derived language start (lines (joined (read_back (take count new)))) (state_of (recorded_at e))
