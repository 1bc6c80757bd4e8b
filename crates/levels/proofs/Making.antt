-- What is made becomes what is found, if it is not too large.
use mathlib.Core.Path.{◌≡◌, refl, ap, ◌∙◌}
use mathlib.Core.Bool.{Bool, true, false, false≢true, true≢false}
use mathlib.Core.List.{List}
use mathlib.Core.Logic.{◌≢◌, inl}
use Prim.Native.Nat.{ℕ, ◌≤◌, ◌<◌, ◌+◌, ◌*◌}
use native.Mathlib.Omega.{arith}
use native.Mathlib.Decide.{dec_le}
use lib.Dec.{leb}
use lib.ListN.{length, drop}
use lib.Seq.{sets, take_all}
use borrow.Author.Tests.{le-leb, lt-leb}
use Rattle.aut68.specs.Sizes.{largest_limit, work_units}
use Rattle.aut68.specs.Procedure.Answer.{done, and_then, ensure, code_of, too_large}
use Rattle.aut68.specs.Expr.{Expr, size, cells}
use Rattle.aut68.specs.Procedure.Category.{made}
use Rattle.cells.specs.Results.{Result, passed, refused}
use Rattle.cells.specs.Cells.{move_cells}
use Rattle.cells.specs.Layout.{levels, unit_at, level_unit, result_unit, result_ends}
use Rattle.cells.specs.Forests.{size_is_length}
use Rattle.cells.specs.Stores.{outside_same, at_sets}
use Rattle.cells.specs.CopyLaws.{move_at, move_outside}
use Rattle.terms.specs.Made.{Made, no_room}
use Rattle.terms.specs.MadeLaws.{made_lies, made_answer}
use Rattle.reduction.specs.Frames.{frame_of}
use Rattle.levels.specs.Places.{FoundAt, Held}
use Rattle.levels.specs.FoundPosts.{Finds, Spans, MadePost}
use Rattle.levels.specs.Spots.{level_result, level_inside}

module _ {R : Expr → Type 0} {code rest L budget : ℕ} (e : Expr) where
  pub made_passed : size e ≤ L → code ≡ 0 → rest ≡ budget → R e → Result R code rest (made L e budget)
  unfolding made and_then ensure
  made_passed h z q r = rw q (go (leb (size e) L) (le-leb _ _ h))
    where
      go : (t : Bool) → t ≡ true → Result R code budget (and_then (λ _ s. done e s) (ensure t too_large budget))
      go true x = passed z r
      go false x = absurd (false≢true x)

  pub made_refused : L < size e → code ≡ 10 → rest ≡ budget → Result R code rest (made L e budget)
  unfolding made and_then ensure code_of
  made_refused h z q = rw q (go (leb (size e) L) (lt-leb _ _ h))
    where
      go : (t : Bool) → t ≡ false → Result R code budget (and_then (λ _ s. done e s) (ensure t too_large budget))
      go true x = absurd (true≢false x)
      go false x = refused z

-- ---- how many cells an expression has

pub spans_none : {code extent whole : ℕ} → code ≢ 0 → extent ≡ 0 → Spans code extent whole
spans_none n e = record { is = λ z. absurd (n z); within = omega arith }

pub spans_all : {code extent whole : ℕ} → extent ≡ whole → Spans code extent whole
spans_all e = record { is = λ z. e; within = omega arith }

-- ---- what is made in a level's unit

pub made_found : {limit level n : ℕ} {w w' : List ℕ} (e : Expr) → level < levels → work_units * limit ≤ length w → limit ≤ largest_limit → n ≤ limit
    → Made limit e n (unit_at limit (level_unit level)) w w' → FoundAt w' limit level n e
made_found {limit} {level} {n} {w} e l room small h m =
    let q : n ≡ size e = made_answer m (omega arith) h in
    record { sized = q; lies = record { small = omega arith; behind = _; at = made_lies m (omega (arith, level_inside limit l)) (omega arith) } }

-- ---- what is made in the result unit

pub made_held : {limit n : ℕ} {w w' : List ℕ} (e : Expr) → work_units * limit ≤ length w → limit ≤ largest_limit → Made limit e n (unit_at limit result_unit) w w' → Held w' limit n e
unfolding no_room
made_held {limit} {n} {w} {w'} e room small m = record {
  fits = m.fits;
  large = λ h. omega (arith, m.large h);
  behind = drop (unit_at limit result_unit + length (cells e)) w;
  at = λ h.
      let k : length (cells e) ≤ limit = omega (arith, size_is_length e) in
      let q : w' ≡ sets w (unit_at limit result_unit) (cells e) = m.cells_are ∙ ap (sets w (unit_at limit result_unit)) (take_all limit (cells e) k) in
      rw q (at_sets w (cells e) (unit_at limit result_unit) (omega (arith, result_ends limit)));
}

module _ {w : List ℕ} {limit budget level n whole code rest : ℕ} where
  pub made_too_large : {size extent : ℕ} → (limit ≤ largest_limit → limit < n) → code ≡ 10 → extent ≡ 0 → rest ≡ budget → MadePost w limit budget level n whole w code size extent rest
  made_too_large h z x q = record {
    frame = λ _. outside_same;
    spans = spans_none (λ y. omega arith) x;
    means = λ {e} small room x. made_refused e (larger e (h small) x (dec_le (size e) limit)) z q;
  }
    where
      larger : (e : Expr) → limit < n → Held w limit n e → Dec (size e ≤ limit) → limit < size e
      larger e g x (yes k) = absurd (omega (arith, x.fits k))
      larger e g x (no k) = omega arith

  pub made_moved : {from to : ℕ} {w' : List ℕ} → n ≤ limit → level < levels → (limit ≤ largest_limit → from ≡ unit_at limit result_unit)
      → (limit ≤ largest_limit → to ≡ unit_at limit (level_unit level)) → code ≡ 0 → rest ≡ budget → w' ≡ move_cells w from n to
      → MadePost w limit budget level n whole w' code n whole rest
  made_moved {from} {to} {w'} h l f t z q r = record {
    frame = λ small. rw r (frame_of (move_outside w from n to) (omega (arith, t small)));
    spans = spans_all refl;
    means = λ {e} small room x. there small room e x (dec_le (size e) limit);
  }
    where
      there : limit ≤ largest_limit → work_units * limit ≤ length w → (e : Expr) → Held w limit n e → Dec (size e ≤ limit) → Finds w' limit level code n rest (made limit e budget)
      there small room e x (no k) = absurd (omega (arith, x.large (omega arith)))
      there small room e x (yes k) =
          let y : n ≡ length (cells e) = x.fits k ∙ size_is_length e in
          let c : w' ≡ move_cells w (unit_at limit result_unit) (length (cells e)) (unit_at limit (level_unit level)) =
          r ∙ ap (λ (i : ℕ). move_cells w i n to) (f small) ∙ ap (λ (i : ℕ). move_cells w (unit_at limit result_unit) i to) y
          ∙ ap (move_cells w (unit_at limit result_unit) (length (cells e))) (t small)
          in
          made_passed e k z q (record {
            sized = x.fits k;
            lies = record {
              small = k;
              behind = drop (unit_at limit (level_unit level) + length (cells e)) w;
              at = rw c (move_at w (unit_at limit result_unit) (unit_at limit (level_unit level)) (x.at k) (omega (arith, result_ends limit))
                  (omega (arith, level_inside limit l, size_is_length e)) (inl (omega (arith, level_result limit l))));
            };
          })
