-- Laws: a source put into a target, over the number of values of the target's cells.
use Rattle.std.specs.Prelude.{◌≡◌, Bool, ◌&&◌, List, [], ◌∷◌, ◌++◌, ℕ, suc, ◌+◌, ◌<◌, ◌≤◌, min, ltb, length, get_or, take, drop, set}
use Rattle.std.specs.Prelude.{slice_index_or}
use Rattle.std.proofs.Math.Path.{refl}
use Rattle.std.proofs.Common.{sym, ap, ap₂, ◌∙◌, add-one, length-set, take-suc, drop-cons, length-take-le, take-append-drop, get_or-take}
use Rattle.std.proofs.Math.Bool.{true, false}
use Rattle.std.proofs.Math.Option.{none, some}
use native.Mathlib.Omega.{arith}
use Rattle.std.proofs.Math.Dec.{leb}
use Rattle.std.proofs.Math.Seq.{append_snoc, take-append_seam, take-length}
use Rattle.std.proofs.lemmas.List.{set_at, same_lists}
use borrow.Author.Tests.{leb-true, le-leb, le-ltb, lt-ltb}
use Rattle.aut68.specs.Widths.{fits_width, conversion, declined, written, Converts}
use Rattle.aut68.specs.Procedure.Calls.{Decline, store_too_small, cell_too_large, decline_code}
use Rattle.aut68.specs.Procedure.Run.{over}
use Rattle.constants.specs.declared.codes.Cause.TheVariants.{StoreTooSmall}
use Rattle.outcomes.specs.declared.answers.Unanswered.{Unanswered}
use Rattle.outcomes.specs.declared.answers.Unanswered.TheVariants.{Declined}

-- ---- a loop that copies

over_at : (s old : List ℕ) (n : ℕ) → length s ≡ n → over s old ≡ s ++ drop n old
unfolding over
over_at s old n e = ap (λ (k : ℕ). s ++ drop k old) e

-- the first i cells of the source are in the target
pub record Copying (source old : List ℕ) (i : ℕ) (new : List ℕ) : Type 0 where
  pub passed : i ≤ length source
  pub long : length new ≡ length old
  pub is : new ≡ over (take i source) old

pub converted_none : (source old : List ℕ) → Copying source old 0 old
unfolding over
converted_none source old = record { passed = omega arith; long = refl; is = refl }

module _ {source old : List ℕ} {i : ℕ} {new : List ℕ} (w : Copying source old i new) where
  -- a turn, whatever the widths
  pub converted_more : i < length source → length source ≤ length old → {x : ℕ} → x ≡ get_or source i 0 → Copying source old (i + 1) (set new i x)
  converted_more h k {x} q = record {
    passed = omega arith;
    long = length-set new i x ∙ w.long;
    is =
        let p = length-take-le i source w.passed in
        ap (λ (l : List ℕ). set l i x) (w.is ∙ over_at (take i source) old i p ∙ ap (λ (l : List ℕ). take i source ++ l) (drop-cons old i 0 (omega arith)))
        ∙ set_at (take i source) (get_or old i 0) (drop (suc i) old) x i p
        ∙ sym (append_snoc (take i source) x (drop (suc i) old))
        ∙ ap (λ (y : ℕ). take i source ++ (y ∷ []) ++ drop (suc i) old) q
        ∙ ap (λ (l : List ℕ). l ++ drop (suc i) old) (sym (take-suc source i 0 h))
        ∙ sym (over_at (take (suc i) source) old (suc i) (length-take-le (suc i) source (omega arith)))
        ∙ ap (λ (n : ℕ). over (take n source) old) (sym (add-one i));
  }

  -- its end
  pub converted_all : length source ≤ i → new ≡ over source old
  converted_all g =
      let e : i ≡ length source = omega arith in
      w.is ∙ ap (λ (n : ℕ). over (take n source) old) e ∙ ap (λ (s : List ℕ). over s old) (take-length source)

-- the first n cells of the target are what became of those of the source
abbrev pub EachConverted : {S T : Type 0} → (S → T → Type 0) → List S → List T → ℕ → Type 0
EachConverted {S} {T} post source new n = (k : ℕ) (d : S) (e : T) → k < n → post (slice_index_or source k d) (slice_index_or new k e)

pub converted_whole : (source old : List ℕ) {new : List ℕ} → length source ≤ length old → length new ≡ length old
    → ((k d e : ℕ) → k < length source → get_or new k e ≡ get_or source k d) → drop (length source) new ≡ drop (length source) old → new ≡ over source old
unfolding over
converted_whole source old {new} h l e b =
    sym (take-append-drop (length source) new)
    ∙ ap₂ ◌++◌
    (same_lists (take (length source) new) source (length-take-le (length source) new (omega arith)) λ k d g.
    let i : k < length source = omega (arith, length-take-le (length source) new (omega arith)) in
    get_or-take (length source) new k d i ∙ e k d d i)
    b

-- ---- which outcome

-- the most cells that a target with so many takes: an answer tells its length in 32 bits
abbrev pub most_cells : ℕ → ℕ
most_cells room = min room 4294967295

-- the answer where there is no room
abbrev pub IsTooSmall : Unanswered → Type 0
IsTooSmall u = u ≡ Declined StoreTooSmall 0

module _ (values : ℕ) (source old : List ℕ) where
  too_small : most_cells (length old) < length source → conversion values source old ≡ some store_too_small
  unfolding conversion
  too_small h = go (leb (length source) (length old)) refl
    where
      go : (t : Bool) → leb (length source) (length old) ≡ t → conversion values source old ≡ some store_too_small
      go false e = rw (e, conversion)
      go true e = rw (e, le-ltb (length source) 4294967296 (omega (arith, leb-true (length source) (length old) e)), conversion)

  module _ (room : length source ≤ most_cells (length old)) where
    enough : (leb (length source) (length old) && ltb (length source) 4294967296) ≡ true
    enough = ap₂ ◌&&◌ (le-leb (length source) (length old) (omega arith)) (lt-ltb (length source) 4294967296 (omega arith))

    too_large_lem : fits_width values source ≡ false → conversion values source old ≡ some cell_too_large
    unfolding conversion
    too_large_lem f = rw (enough, f, conversion)

    fitting : fits_width values source ≡ true → conversion values source old ≡ none
    unfolding conversion
    fitting f = rw (enough, f, conversion)

-- what was written, put into another store, is the source
pub there_and_back : (source old : List ℕ) → length source ≤ 4294967295 → (width : ℕ) (store : List ℕ) → fits_width width source ≡ true
    → length source ≤ length store
    → (conversion width (take (length source) (over source old)) store ≡ none) × (over (take (length source) (over source old)) store ≡ over source store)
unfolding over
there_and_back source old h width store f l =
    rw (take-append_seam source (drop (length source) old)) (fitting width source store (omega arith) f, refl)

-- ---- the promise

module _ (values : ℕ) (source old : List ℕ) where
  not_written : {d : Decline} → conversion values source old ≡ some d → (decline_code d ≡ 0 → ⊥) → Converts values source old (decline_code d) 0 0 0 old
  not_written c z = record {
    converted = rw c (declined refl refl refl);
    no_line = (refl, refl);
    back = λ e. absurd (z e);
  }

  pub converts_too_small : most_cells (length old) < length source → Converts values source old (decline_code store_too_small) 0 0 0 old
  unfolding decline_code
  converts_too_small h = not_written (too_small values source old h) λ e. omega arith

  module _ (room : length source ≤ most_cells (length old)) where
    pub converts_too_large : fits_width values source ≡ false → Converts values source old (decline_code cell_too_large) 0 0 0 old
    unfolding decline_code
    converts_too_large f = not_written (too_large_lem values source old room f) λ e. omega arith

    pub converts_written : fits_width values source ≡ true → {new : List ℕ} → new ≡ over source old → Converts values source old 0 0 0 (length source) new
    converts_written f e =
        rw e
        record {
          converted = rw (fitting values source old room f) (written refl refl refl);
          no_line = (refl, refl);
          back = λ _. there_and_back source old (omega arith);
        }
