-- What the calls on an accepted book have in common, as types: the book is admitted first, and an answer is written whole or not at all.
use Rattle.std.specs.Prelude.{◌≡◌, ◌≢◌, ℕ, ◌≤◌, ◌<◌, List, length}
use Rattle.aut68.specs.Language.{Language}
use Rattle.aut68.specs.Stores.{Stores, Limits, limits_of, Larger}
use Rattle.aut68.specs.Bytes.{Bytes}
use Rattle.aut68.specs.Lines.{Lines}
use Rattle.aut68.specs.Procedure.Calls.{Decline, decline_code}
use Rattle.aut68.specs.Procedure.Run.{run, code_at, line_at, steps_at, recorded_at, over}
use Rattle.aut68.specs.Demands.{Verdict, Checks}

-- A list that a call writes to the front of the lent store `old`, or declines to, if it does not fit: what the call says, and what it
-- leaves there. Exactly one of the two.
pub data Writes (list : List ℕ) (decline : Decline) (old : List ℕ) (code count : ℕ) (new : List ℕ) : Type 0 where
  too_long : length old < length list → code ≡ decline_code decline → count ≡ 0 → new ≡ old → Writes list decline old code count new
  written : length list ≤ length old → code ≡ 0 → count ≡ length list → new ≡ over list old → Writes list decline old code count new

-- What each such call promises, of the bytes, the budget N, the limit L, the stores at entry, its outcome and the stores at exit.
-- `Untouched`: its own stores are as they were. `Answers`: what it says of the lines of an accepted book. Each field names two wrong
-- programs that it shuts out.
pub record AdmitsFirst (language : Language) (book : Bytes) (N L : ℕ) (s : Stores) (code line steps count : ℕ) (s' : Stores) (Untouched : Type 0) (Answers : Lines → Type 0) : Type 0 where
  -- "A call on an accepted book admits it first, on a budget apart": the four stores are left as the check leaves them. Shut out: a
  -- program that leaves marks of its own in the working store; one that trusts the rows it finds in the table.
  pub admission : let e = run language book (limits_of N L s) in Checks language book N L s (code_at e) (line_at e) (steps_at e) s'
  -- "and passes a refusal on". Shut out: a program that answers a refused book with a code of its own; one that writes an answer for the
  -- lines before the refused one.
  pub refused : let e = run language book (limits_of N L s) in
      code_at e ≢ 0 → (code ≡ code_at e) × (line ≡ line_at e) × (steps ≡ steps_at e) × (count ≡ 0) × Untouched
  -- "what it gives after that has line 0, its own steps and the length of the answer it wrote, else 0". Shut out: a program that gives the
  -- number of lines, as the check does; one that refuses a book that its check accepts.
  pub answered : let e = run language book (limits_of N L s) in code_at e ≡ 0 → (line ≡ 0) × Answers (recorded_at e).recorded
  -- "a verdict is kept under larger budgets and size limits": the admission ends alike, so the call tells of the same lines. Shut out: a
  -- program that admits more lines where it has more budget; one that records them otherwise.
  pub limits : let e = run language book (limits_of N L s) in (m' : Limits) → Larger (limits_of N L s) m' → Verdict e → run language book m' ≡ e
