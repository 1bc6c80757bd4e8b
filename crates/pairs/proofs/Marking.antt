-- Strings cut out of the lent cells, and the places of a sheet marked one by one.
use mathlib.Core.Path.{◌≡◌, refl, sym, ap, ◌∙◌, subst}
use mathlib.Core.Logic.{◌⊎◌, ◌≢◌, inl, inr, ⊎_elim}
use mathlib.Core.Bool.{false}
use mathlib.Core.List.{List, [], ◌∷◌, ◌++◌}
use Prim.Native.Nat.{ℕ, zero, suc, ◌+◌, ◌-◌, ◌*◌, ◌≤◌, ◌<◌}
use native.Mathlib.Nat.{eq-or-lt_of_le}
use native.Mathlib.Omega.{arith}
use lib.ListN.{length, take, drop, get_or, set, length-take}
use lib.Seq.{drop_at, drop-drop, drop-set-lt, get_or-set_same, get_or-set_other}
use borrow.Author.Tests.{le-leb, lt-leb}
use Rattle.aut68.specs.Sizes.{work_units}
use Rattle.aut68.specs.Lines.{Lines}
use Rattle.aut68.specs.Rules.Strings.{Whole}
use Rattle.aut68.specs.Desk.{is_not_whole}
use Rattle.cells.specs.Forests.{cells_long}
use Rattle.heads.specs.Book.{Book}
use Rattle.judging.specs.Posts.{JudgedPost}
use Rattle.outcomes.specs.declared.answers.AnswerNumbers.{AnswerNumbers}
use Rattle.pairs.specs.declared.Pair.{Pair}
use Rattle.pairs.specs.Sheet.{string_at, left_of, right_of, Marked, MarkedAt, MarkedUpTo}
use Rattle.pairs.specs.Posts.{NotWhole, PairPost, PairsPost}

-- ---- strings

string_outside : (cells : List ℕ) (a n : ℕ) → length cells < a + n → string_at cells a n ≡ []
unfolding string_at
string_outside cells a n h = rw (lt-leb (a + n) (length cells) h, string_at) refl

-- the part that is lent for it
string_part : (cells : List ℕ) (a n : ℕ) → a + n ≤ length cells → take (a + n - a) (drop a cells) ≡ string_at cells a n
unfolding string_at
string_part cells a n h =
    let e : a + n - a ≡ n = omega arith in
    rw (le-leb (a + n) (length cells) h, string_at) (ap (λ (x : ℕ). take x (drop a cells)) e)

-- no cells are no expression
none_whole : (ls : Lines) (s : List ℕ) → s ≡ [] → ¬ Whole ls s
unfolding Whole
none_whole ls s q (e, r) = absurd (omega (arith, cells_long e, ap length (sym r.cells_are ∙ q)))

-- ---- one pair

module _ {tb ts w : List ℕ} {limit lines : ℕ} {cells : List ℕ} (p : Pair) {r : AnswerNumbers} where
  pub reaches_past : NotWhole r → (length cells < p.left + p.left_length) ⊎ (length cells < p.right + p.right_length) → PairPost tb ts w limit lines cells p r w
  reaches_past (c, l, n, k) out =
      record {
        means = λ ls B e.
            record {
              judged =
                  is_not_whole
                  (λ (u, v). ⊎_elim (λ h. none_whole ls (left_of cells p) (string_outside cells p.left p.left_length h) u) (λ h. none_whole ls (right_of cells p) (string_outside cells p.right p.right_length h) v) out)
                  c n;
              no_line = l;
              nothing_written = k;
            };
        rest_kept = refl;
      }

  -- the two parts that are lent to `judge`
  pub judged_pair : (w' : List ℕ) {c l m k : ℕ} → p.left + p.left_length ≤ length cells → p.right + p.right_length ≤ length cells
      → JudgedPost false tb ts (take (work_units * limit) w) limit lines (take (p.left + p.left_length - p.left) (drop p.left cells)) (take (p.right + p.right_length - p.right) (drop p.right cells)) p.budget c l m k
      → work_units * limit ≤ length w → length w' ≡ length (take (work_units * limit) w)
      → (r.code ≡ c) × (r.line ≡ l) × (r.steps ≡ m) × (r.length ≡ k)
      → PairPost tb ts w limit lines cells p r (w' ++ drop (work_units * limit) w)
  judged_pair w' hl hr J fits long (e, f, g, h) =
      record {
        means = λ ls B z.
            record {
              judged = rw (e, g, ← (string_part cells p.left p.left_length hl), ← (string_part cells p.right p.right_length hr)) (J.means ls B z (omega (arith, length-take (work_units * limit) w)));
              no_line = f ∙ J.no_line;
              nothing_written = h ∙ J.nothing_written;
            };
        rest_kept = drop_at w' (drop (work_units * limit) w) (work_units * limit) (omega (arith, long, length-take (work_units * limit) w));
      }

-- ---- the places of the sheet, from the first on

-- an element that is there, whatever else there were
get_d_any : {A : Type 0} (l : List A) (i : ℕ) (d e : A) → i < length l → get_or l i d ≡ get_or l i e
get_d_any [] i d e h = absurd (omega arith)
get_d_any (x ∷ l) zero d e h = refl
get_d_any (x ∷ l) (suc i) d e h = get_d_any l i d e (omega arith)

module _ (ls : Lines) (limit : ℕ) (cells : List ℕ) (pairs : List Pair) (i : ℕ) (sheet : List AnswerNumbers) (r : AnswerNumbers) where
  -- a store to the place at i leaves the others marked
  mark_kept : (j : ℕ) → j ≢ i → MarkedAt ls limit cells pairs sheet j → MarkedAt ls limit cells pairs (set sheet i r) j
  unfolding MarkedAt
  mark_kept j n M d e = rw (get_or-set_other sheet i j r e n) (M d e)

  -- and marks that one
  mark_made : (d : Pair) → i < length pairs → i < length sheet → Marked ls limit cells (get_or pairs i d) r → MarkedAt ls limit cells pairs (set sheet i r) i
  unfolding MarkedAt
  mark_made d inside l M d' e = rw (get_or-set_same sheet i r e l, get_d_any pairs i d' d inside) M

module _ {tb ts w : List ℕ} {limit lines : ℕ} {cells : List ℕ} {pairs : List Pair} {sheet : List AnswerNumbers} where
  pub unmarked : PairsPost tb ts w limit lines cells pairs sheet 0 w sheet
  unfolding MarkedUpTo
  unmarked = record { means = λ ls B e i l. absurd (omega arith); rest_kept = refl; untouched = λ _. refl; places_kept = refl }

  -- one more place
  pub marks : (i : ℕ) (w' w'' : List ℕ) (sheet' : List AnswerNumbers) (d : Pair) (r : AnswerNumbers) → i < length pairs → i < length sheet'
      → PairsPost tb ts w limit lines cells pairs sheet i w' sheet' → PairPost tb ts w' limit lines cells (get_or pairs i d) r w''
      → PairsPost tb ts w limit lines cells pairs sheet (i + 1) w'' (set sheet' i r)
  unfolding MarkedUpTo
  marks i w' w'' sheet' d r inside l P J =
      record {
        means = λ ls B e j h. at ls B e j (eq-or-lt_of_le (omega (arith, h)));
        rest_kept = J.rest_kept ∙ P.rest_kept;
        untouched = λ e. absurd (omega arith);
        places_kept = drop-set-lt (i + 1) sheet' i r (omega arith) ∙ sym (drop-drop 1 i sheet') ∙ ap (drop 1) P.places_kept ∙ drop-drop 1 i sheet;
      }
    where
      at : (ls : Lines) → Book ls limit tb ts → length ls ≡ lines → (j : ℕ) → (j ≡ i) ⊎ (j < i) → MarkedAt ls limit cells pairs (set sheet' i r) j
      at ls B e j (inr s) = mark_kept ls limit cells pairs i sheet' r j (λ q. absurd (omega arith)) (P.means ls B e j s)
      at ls B e j (inl q) = subst (MarkedAt ls limit cells pairs (set sheet' i r)) (sym q) (mark_made ls limit cells pairs i sheet' r d inside l (J.means ls B e))
