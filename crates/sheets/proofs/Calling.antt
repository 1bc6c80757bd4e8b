-- A call: the book is checked, the pairs are compared over its lines, and the working store is cleared again.
use mathlib.Core.Path.{◌≡◌, refl, sym, ap, ◌∙◌, subst}
use mathlib.Core.Logic.{◌⊎◌, ◌≢◌, inl, inr, ⊎_elim}
use mathlib.Core.List.{List}
use Prim.Native.Nat.{ℕ, ◌*◌, ◌≤◌, ◌<◌}
use native.Mathlib.Omega.{arith}
use native.Mathlib.Decide.{dec_lt}
use lib.ListN.{length, drop}
use Rattle.aut68.specs.Language.{aut68}
use Rattle.aut68.specs.Sizes.{work_units}
use Rattle.aut68.specs.Stores.{Stores, stores, limits_of}
use Rattle.aut68.specs.Bytes.{Bytes}
use Rattle.aut68.specs.Procedure.Calls.{decline_code, store_too_small}
use Rattle.aut68.specs.Procedure.Run.{Ending, run, recorded_at}
use Rattle.aut68.specs.Demands.{Determined}
use Rattle.outcomes.specs.declared.answers.AnswerNumbers.{AnswerNumbers}
use Rattle.theorems.proofs.Admission.{accepted_code, last_line, work_cleared, lines_held, admits_refused, admits_answered}
use Rattle.theorems.proofs.Desk.{strings_judged, judged_once}
use Rattle.pairs.specs.declared.Pair.{Pair}
use Rattle.pairs.specs.Sheet.{MarkedAt, MarkedUpTo, counted, too_short, marked, ComparesSheet}
use Rattle.pairs.specs.Posts.{PairsPost}
use Rattle.cells.specs.Posts.{cleared}

-- ---- how many pairs are compared: all of them, or none

module _ {n pairs places : ℕ} (e : (places < pairs → n ≡ 0) × (pairs ≤ places → n ≡ pairs)) where
  short_or_not : (places < pairs) ⊎ (pairs ≤ places)
  short_or_not = split (dec_lt places pairs)
    where
      split : Dec (places < pairs) → (places < pairs) ⊎ (pairs ≤ places)
      split (yes l) = inl l
      split (no m) = inr (omega (arith, m))

  pub compared_fit : (n ≤ pairs) × (n ≤ places)
  compared_fit = ⊎_elim (λ l. let z = e.0 l in (omega arith, omega arith)) (λ l. let z = e.1 l in (omega arith, omega arith)) short_or_not

  -- fewer than all are none
  pub compared_none : n < pairs → (places < pairs) × (n ≡ 0)
  compared_none m = ⊎_elim (λ l. (l, e.0 l)) (λ l. let z = e.1 l in absurd (omega arith)) short_or_not

  pub compared_all : pairs ≤ n → (pairs ≤ places) × (n ≡ pairs)
  compared_all m = ⊎_elim (λ l. let z = e.0 l in absurd (omega arith)) (λ l. (l, e.1 l)) short_or_not

-- where none are, nothing is written
pub none_compared : {tb ts w cells w' : List ℕ} {limit lines n : ℕ} {pairs : List Pair} {sheet sheet' : List AnswerNumbers}
    → PairsPost tb ts w limit lines cells pairs sheet n w' sheet' → n ≡ 0 → (w' ≡ w) × (sheet' ≡ sheet)
none_compared {sheet = sheet} {sheet'} P z = (P.untouched z, subst (λ (i : ℕ). drop i sheet' ≡ drop i sheet) z P.places_kept)

module _ (book : Bytes) (N L : ℕ) (s : Stores) where
  abbrev ending : Ending
  ending = run aut68 book (limits_of N L s)

  -- ---- what is promised of the sheet

  module _ {code line steps : ℕ} {s' : Stores} (d : Determined ending L s code line steps s') {cells : List ℕ} {pairs : List Pair} {old new : List AnswerNumbers} {c l n k : ℕ} where
    -- a refusal is passed on
    sheet_refused : code ≢ 0 → c ≡ code → l ≡ line → n ≡ steps → k ≡ 0 → new ≡ old → ComparesSheet book N L s cells pairs old c l n k s' new
    sheet_refused r e f g z u =
        record {
          admits_first = admits_refused aut68 book N L s d r e f g z u;
          single_calls = λ q. absurd (r (sym e ∙ q));
          own_outcome = λ q. absurd (r (sym e ∙ q));
        }

    -- the sheet is shorter than the list
    sheet_declined : code ≡ 0 → length old < length pairs → c ≡ decline_code store_too_small → l ≡ 0 → n ≡ 0 → k ≡ 0 → new ≡ old → ComparesSheet book N L s cells pairs old c l n k s' new
    unfolding decline_code
    sheet_declined a h e f g z u =
        record {
          admits_first = rw f (admits_answered aut68 book N L s d a (too_short h e g z u));
          single_calls = λ q. absurd (omega arith);
          own_outcome = λ q. absurd (omega arith);
        }

    -- the pairs are judged over the lines of an accepted book
    sheet_marked : code ≡ 0 → length pairs ≤ length old → c ≡ 0 → l ≡ 0 → n ≡ 0 → k ≡ counted (length pairs) → MarkedUpTo (length pairs) (recorded_at ending).recorded L cells pairs new
        → drop (length pairs) new ≡ drop (length pairs) old → ComparesSheet book N L s cells pairs old c l n k s' new
    unfolding MarkedUpTo MarkedAt
    sheet_marked a h e f g z M q =
        record {
          admits_first = rw f (admits_answered aut68 book N L s d a (marked h e g z M q));
          single_calls = λ _ i b p o. rw ((M i b p o).no_line, (M i b p o).nothing_written) (strings_judged book N L s d a (M i b p o).judged);
          own_outcome = λ _ i b p o c' l' n' k' s'' X.
              let m = M i b p o in
              let t = accepted_code aut68 book N L s d a in
              let (y, (y', J)) = X.admits_first.answered t in
              let (u, v) = judged_once (X.read_once t) J m.judged in
              (u, m.no_line ∙ sym y, v, m.nothing_written ∙ sym y');
        }

  -- How the call ends behind the admission, which left the stores s' = (tb, ts, w, ix): the book is refused; or the sheet is shorter than
  -- the list; or the list is empty; or the pairs are compared over the lines of the book, and the working store is cleared behind them.
  pub data Ends (code line steps : ℕ) (tb ts w ix cells : List ℕ) (pairs : List Pair) (sheet : List AnswerNumbers) (c l m k : ℕ) (w₂ : List ℕ) (sheet' : List AnswerNumbers) : Type 0 where
    is_refused : code ≢ 0 → c ≡ code → l ≡ line → m ≡ steps → k ≡ 0 → w₂ ≡ w → sheet' ≡ sheet → Ends code line steps tb ts w ix cells pairs sheet c l m k w₂ sheet'
    is_short : code ≡ 0 → length sheet < length pairs → c ≡ decline_code store_too_small → l ≡ 0 → m ≡ 0 → k ≡ 0 → w₂ ≡ w → sheet' ≡ sheet
        → Ends code line steps tb ts w ix cells pairs sheet c l m k w₂ sheet'
    is_empty : code ≡ 0 → length pairs ≡ 0 → c ≡ 0 → l ≡ 0 → m ≡ 0 → k ≡ 0 → w₂ ≡ w → sheet' ≡ sheet → Ends code line steps tb ts w ix cells pairs sheet c l m k w₂ sheet'
    is_compared : (w₁ : List ℕ) (n : ℕ) → code ≡ 0 → length pairs ≤ length sheet → n ≡ length pairs → PairsPost tb ts w L line cells pairs sheet n w₁ sheet' → length w₁ ≡ length w
        → w₂ ≡ cleared (work_units * L) w₁ → c ≡ 0 → l ≡ 0 → m ≡ 0 → k ≡ counted n → Ends code line steps tb ts w ix cells pairs sheet c l m k w₂ sheet'

  none_counted : {n : ℕ} → n ≡ 0 → 0 ≡ counted n
  unfolding counted
  none_counted e = rw e refl

  -- however it ends, the promise is kept
  pub sheet_compared : {code line steps : ℕ} {tb ts w ix cells : List ℕ} {pairs : List Pair} {sheet : List AnswerNumbers} {c l m k : ℕ} {w₂ : List ℕ} {sheet' : List AnswerNumbers}
      → Determined ending L s code line steps (stores tb ts w ix) → Ends code line steps tb ts w ix cells pairs sheet c l m k w₂ sheet'
      → ComparesSheet book N L s cells pairs sheet c l m k (stores tb ts w₂ ix) sheet'
  unfolding MarkedUpTo
  sheet_compared d (is_refused n e f g z q u) = rw q (sheet_refused d n e f g z u)
  sheet_compared d (is_short a h e f g z q u) = rw q (sheet_declined d a h e f g z u)
  sheet_compared d (is_empty a h e f g z q u) =
      rw (q, u) (sheet_marked d a (omega arith) e f g (z ∙ none_counted h) (λ i b. absurd (omega arith)) refl)
  sheet_compared {cells = cells} {pairs} {sheet} {sheet' = sheet'} d (is_compared w₁ n a h all P long q e f g z) =
      rw (q ∙ work_cleared aut68 book N L s d a w₁ long P.rest_kept)
      (sheet_marked d a h e f g (z ∙ ap counted all)
      (subst (λ (i : ℕ). MarkedUpTo i (recorded_at ending).recorded L cells pairs sheet') all (P.means _ (lines_held aut68 book N L s d a) (sym (last_line aut68 book N L s d a))))
      (subst (λ (i : ℕ). drop i sheet' ≡ drop i sheet) all P.places_kept))
