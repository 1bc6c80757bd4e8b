-- Printed pages: a line without its spaces, and the book that is read back, as closed theorems in both languages; and what the call that
-- prints a book promises.
use Rattle.std.specs.Prelude.{◌≡◌, ◌≢◌, ℕ, ◌≤◌, ◌<◌, length, drop}
use Rattle.std.proofs.Math.Path.{refl, ap, subst}
use Rattle.std.proofs.Common.{sym, ◌∙◌, arith}
use Rattle.std.proofs.Math.ListN.{take}
use Rattle.std.proofs.Math.Seq.{take_at}
use Rattle.aut68.specs.Language.{Language}
use Rattle.aut68.specs.Stores.{Stores, limits_of}
use Rattle.aut68.specs.Bytes.{Bytes, lines, joined}
use Rattle.aut68.specs.Paragraphs.{start}
use Rattle.aut68.specs.Pages.{pages, read_back, without_spaces}
use Rattle.aut68.specs.Procedure.Calls.{decline_code, store_too_small}
use Rattle.aut68.specs.Procedure.Run.{Ending, run, state_of, recorded_at, over}
use Rattle.aut68.specs.Rules.Derivation.{Derived}
use Rattle.aut68.specs.Demands.{Accepted, Determined}
use Rattle.aut68.specs.Admission.{too_long, written}
use Rattle.aut68.specs.Printing.{SameReading, NeverJoined, SameButPlaces, ReadsBack, ReadsBackPadded, PrintsPages}
use Rattle.paging.specs.SameReading.{same_reading}
use Rattle.paging.specs.NeverJoined.{never_joined}
use Rattle.paging.specs.PaddedLines.{derived_read_back}
use Rattle.paging.specs.ReadsBack.{reads_back_lem}
use Rattle.theorems.proofs.Admission.{accepted_lines, accepted_code, admits_refused, admits_answered}

-- Paper 4: a line without its spaces is read as the same line, and no two of its symbols are joined.
pub spaces_dropped : SameReading
spaces_dropped = same_reading

pub symbols_not_joined : NeverJoined
symbols_not_joined = never_joined

-- Paper 4: columns 7 to 72, read back line by line, give the same outcome and the same cells ..
pub columns_read_back : ReadsBack
columns_read_back = reads_back_lem

-- .. and with the padding lines of the same meanings.
pub padding_read_back : ReadsBackPadded
unfolding ReadsBackPadded Accepted
padding_read_back language book N L s z = derived_read_back language book _ (accepted_lines language book N L s z).1

-- ---- the call that prints a book

module _ (language : Language) (book : Bytes) (N L : ℕ) (s : Stores) where
  abbrev ending : Ending
  ending = run language book (limits_of N L s)

  module _ {code line steps : ℕ} {s' : Stores} (d : Determined ending L s code line steps s') where
    -- a refusal is passed on
    pub prints_refusal : code ≢ 0 → {old : Bytes} {c l n k : ℕ} → c ≡ code → l ≡ line → n ≡ steps → k ≡ 0 → PrintsPages language book N L s old c l n k s' old
    prints_refusal r e f g z =
        record {
          admits_first = admits_refused language book N L s d r e f g z refl;
          reads_back = λ a. absurd (r (sym e ∙ a));
          reads_back_padded = λ a. absurd (r (sym e ∙ a));
        }

    module _ (accept : code ≡ 0) {old : Bytes} where
      -- the pages do not fit
      pub prints_too_small : length old < length (pages book) → PrintsPages language book N L s old (decline_code store_too_small) 0 0 0 s' old
      unfolding decline_code
      prints_too_small h =
          record {
            admits_first = admits_answered language book N L s d accept (refl, too_long h refl refl refl);
            reads_back = λ a. absurd (omega arith);
            reads_back_padded = λ a. absurd (omega arith);
          }

      -- the pages are written
      pub prints_pages : {count : ℕ} {new : Bytes} → length (pages book) ≤ length old → count ≡ length (pages book) → new ≡ over (pages book) old
          → PrintsPages language book N L s old 0 0 0 count s' new
      unfolding ReadsBack ReadsBackPadded Accepted over
      prints_pages {count} {new} h k w =
          record {
            admits_first = admits_answered language book N L s d accept (refl, written h refl k w);
            reads_back = λ _. subst (λ x. SameButPlaces ending (run language (joined (without_spaces (read_back x))) (limits_of N L s)) L s) (sym front) (columns_read_back language book N L s (accepted_code language book N L s d accept));
            reads_back_padded = λ _. subst (λ x. Derived language start (lines (joined (read_back x))) (state_of (recorded_at ending))) (sym front) (padding_read_back language book N L s (accepted_code language book N L s d accept));
          }
        where
          front : take count new ≡ pages book
          front = ap (λ (x : ℕ). take x new) k ∙ ap (take (length (pages book))) w ∙ take_at (pages book) (drop (length (pages book)) old) (length (pages book)) refl
