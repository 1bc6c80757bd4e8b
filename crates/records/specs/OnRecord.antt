-- What is recorded gives what the functions on names (`Known`) and on expressions (`Book`) rely on; while a book is checked, from rows that
-- are linked. A call on an accepted book starts from `on_record`.
use Rattle.std.specs.Prelude.{◌≡◌, refl, List, ◌++◌, ℕ, ◌≤◌, length, drop}
use Rattle.std.proofs.Common.{sym, arith}
use Rattle.aut68.specs.Language.{Language}
use Rattle.aut68.specs.Sizes.{largest_limit}
use Rattle.aut68.specs.Stores.{Stores, limits_of}
use Rattle.aut68.specs.Bytes.{Bytes}
use Rattle.aut68.specs.Lines.{Lines, terms_of}
use Rattle.aut68.specs.Paragraphs.{State, start}
use Rattle.aut68.specs.Procedure.Run.{Recorded, Ending, state_of, run, over, recorded_at, table_end, terms_end}
use Rattle.aut68.specs.Rules.Derivation.{Derived}
use Rattle.aut68.specs.Demands.{Verdict}
use Rattle.lookup.specs.DerivedBooks.{right_contexts, distinct_names}
use Rattle.lookup.specs.Runs.{verdict_admitted}
use Rattle.inclusion.specs.Books.{built_right}
use Rattle.inclusion.proofs.Derivations.{derived_built}
use Rattle.cells.specs.Forests.{size_is_length}
use Rattle.cells.specs.Links.{unlinked, rows_linked, stored_linked}
use Rattle.names.specs.Known.{Known}
use Rattle.heads.specs.Book.{Book}
use Rattle.records.specs.Tables.{held_rows, held_stored, held_named}
use Rattle.records.specs.Reached.{Reached, indicators_before, reached_holds}
use Rattle.records.specs.Bounds.{reached_stores}
use Rattle.records.specs.Runs.{run_reached}

pub record OnRecord (language : Language) (book : Bytes) (L : ℕ) (st : State) (tb ts : List ℕ) : Type 0 where
  pub past : List Bytes
  pub derived : Derived language start past st
  pub held : Book st.earlier L tb ts

-- the rows and names of the recorded lines, where the rows are linked
pub reached_known : {language : Language} {book : Bytes} {N L : ℕ} {s : Stores} {k : Recorded} {at n used : ℕ} (tb : List ℕ) {ts : List ℕ} → Reached language book N L s k at n used (unlinked n tb) ts
    → Known k.recorded book tb n
reached_known {n = n} tb h =
    record {
      rows = rows_linked n tb (held_rows (reached_stores h));
      named = held_named (reached_stores h);
      count = sym h.lines_are;
      few = h.few;
      contexts = λ i. right_contexts h.derived _ _ i;
      distinct = (distinct_names h.derived).names;
      behind = λ i. indicators_before h.derived _ _ i;
    }

-- what rows and cells say of the lines hangs on no link
pub book_linked : (n : ℕ) (tb : List ℕ) {ls : Lines} {L : ℕ} {ts : List ℕ} → Book ls L (unlinked n tb) ts → Book ls L tb ts
book_linked n tb B =
    record {
      few = B.few;
      rows = rows_linked n tb B.rows;
      stored = stored_linked n tb B.stored;
      resolved = B.resolved;
      contexts = B.contexts;
      earlier = B.earlier;
      middle_size = B.middle_size;
      category_size = B.category_size;
      limit = B.limit;
    }

module _ {language : Language} {book : Bytes} {N L : ℕ} {s : Stores} {k : Recorded} {at n used : ℕ} {tb ts : List ℕ} (h : Reached language book N L s k at n used tb ts) where
  -- their rows and cells, also where the term store has other cells behind theirs
  pub reached_book : L ≤ largest_limit → (cs rest : List ℕ) → cs ≡ terms_of k.recorded ++ rest → Book k.recorded L tb cs
  reached_book small cs rest e =
      let H = reached_holds h cs rest e in
      record {
        few = (let f = h.few in let q = h.lines_are in omega arith);
        rows = held_rows H;
        stored = held_stored H;
        resolved = (built_right (derived_built h.derived)).resolved_lines;
        contexts = λ i. right_contexts h.derived _ _ i;
        earlier = λ i. indicators_before h.derived _ _ i;
        middle_size = λ i. (h.small i).middle_size;
        category_size = λ {v} {l} i. (let c = (h.small i).category_size in omega (arith, c, size_is_length l.category));
        limit = small;
      }

module _ (language : Language) (book : Bytes) (N L : ℕ) (s : Stores) where
  abbrev ending : Ending
  ending = run language book (limits_of N L s)

  -- of every run with a verdict, accepted or not
  pub on_record : Verdict ending → OnRecord language book L (state_of (recorded_at ending)) (table_end ending s.table) (terms_end ending s.terms)
  unfolding over terms_end
  on_record v =
      let (at, h) = run_reached language book N L s in
      record {
        past = h.past;
        derived = h.derived;
        held = reached_book h (verdict_admitted language book (limits_of N L s) v).at_most _ (drop (length (terms_of (recorded_at ending).recorded)) s.terms) refl;
      }
