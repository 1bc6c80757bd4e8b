-- What a line rests on: the entries of the index, and the lines that may be deleted, as closed theorems in both languages.
use Rattle.std.specs.Prelude.{◌≡◌, refl, ◌≢◌, List, ℕ}
use Rattle.std.proofs.Common.{◌∙◌}
use Rattle.aut68.specs.Language.{Language}
use Rattle.aut68.specs.Stores.{Stores, limits_of}
use Rattle.aut68.specs.Bytes.{Bytes, lines}
use Rattle.aut68.specs.Index.{mentioned_by, names_of}
use Rattle.aut68.specs.Procedure.Run.{Ending, run, state_of, recorded_at}
use Rattle.aut68.specs.Demands.{Determined}
use Rattle.aut68.specs.Resting.{Entries, Deletion, Told, TellsRests}
use Rattle.lookup.specs.Ascending.{ascending_ascends, ascending_member}
use Rattle.orders.proofs.Deleting.{deletion}
use Rattle.theorems.proofs.Admission.{accepted_lines, admits_refused, admits_answered}

-- Paper 2: an entry has the lines that the completed line names, ascending, each once.
pub index_entries : Entries
unfolding Entries names_of
index_entries l = (ascending_ascends (mentioned_by l), λ v. ascending_member (mentioned_by l) v)

-- Paper 2: deleting all lines not reached leaves a book that the rules find correct.
pub unreached_lines_deleted : Deletion
unreached_lines_deleted = deletion

-- ---- the call that tells what a line rests on

module _ (language : Language) (book : Bytes) (N L : ℕ) (s : Stores) where
  abbrev ending : Ending
  ending = run language book (limits_of N L s)

  module _ {code line steps : ℕ} {s' : Stores} (d : Determined ending L s code line steps s') where
    -- a refusal is passed on
    pub tells_refusal : code ≢ 0 → {v : ℕ} {old : List ℕ} {c l n k : ℕ} → c ≡ code → l ≡ line → n ≡ steps → k ≡ 0 → TellsRests language book N L s v old c l n k s' old
    tells_refusal r e f g z =
        record {
          admits_first = admits_refused language book N L s d r e f g z refl;
          deleting = λ a _ _. absurd (r (d.code_is ∙ a));
        }

    -- the lines of an accepted book tell what line v rests on
    pub tells_rests : code ≡ 0 → {v : ℕ} {old : List ℕ} {c k : ℕ} {new : List ℕ} → Told (recorded_at ending).recorded v old c k new → TellsRests language book N L s v old c 0 0 k s' new
    unfolding Deletion
    tells_rests a {v} t =
        record {
          admits_first = admits_answered language book N L s d a (refl, t);
          deleting = λ z from to. (let (n, D, c) = accepted_lines language book N L s z in unreached_lines_deleted language (lines book) (state_of (recorded_at ending)) v D c from to);
        }
