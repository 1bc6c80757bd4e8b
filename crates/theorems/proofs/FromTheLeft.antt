-- What a piece gets by its bytes and by its names, in a run: it is one that the run gets to, and the first fault from the left decides.
use Rattle.std.specs.Prelude.{◌≡◌, ◌⊎◌, ℕ, zero, suc, ◌≤◌, ◌<◌, get_or}
use Rattle.std.proofs.Math.Path.{refl, ap}
use Rattle.std.proofs.Common.{sym, ◌∙◌, subst, take_at}
use Rattle.std.proofs.Math.Logic.{inl, inr}
use mathlib.Core.List.{List, [], ◌∷◌, ◌++◌}
use native.Mathlib.Omega.{arith}
use Rattle.std.proofs.Math.Decide.{dec_lt}
use Rattle.std.proofs.Math.ListN.{length, take, length-append, get_or-append}
use Rattle.std.proofs.lemmas.List.{get_or_at}
use Rattle.std.proofs.Math.Seq.{take-append-le}
use Rattle.aut68.specs.Language.{Language}
use Rattle.aut68.specs.Stores.{Limits}
use Rattle.aut68.specs.Bytes.{Bytes, lines}
use Rattle.aut68.specs.Paragraphs.{State, start}
use Rattle.aut68.specs.Procedure.Answer.{code_of, too_large, unbalanced}
use Rattle.aut68.specs.Procedure.Run.{Ending, turned_away, accepted, refused_at, state_of, code_at, recorded_at, nothing, run}
use Rattle.aut68.specs.Rules.Derivation.{Derived, no_more}
use Rattle.aut68.specs.Demands.{WrongCode, Wrong, Accepted, Admitted, GetsTo, ByItsBytes, ByItsNames, FromTheLeft}
use Rattle.lookup.specs.Answers.{code_nonzero, accepted_undecided}
use Rattle.lookup.specs.Runs.{Passes, passes_at, LinesEnd, all_pass, left_open, one_stops, Early, unfit, too_long, early_undecided, early_refused, run_admitted, run_starts, lines_end}
use Rattle.reading.specs.Readings.{book_unique}
use Rattle.verdicts.proofs.BookVerdicts.{passes_derived, passed_before, passed_within, passed_derived}
use Rattle.theorems.proofs.LineBytes.{refused_by_bytes, passed_by_bytes}
use Rattle.theorems.proofs.LineNames.{refused_by_names, passed_by_names}

module _ (language : Language) (book : Bytes) (m : Limits) where
  -- what is said of piece j + 1, with these bytes, behind these pieces
  abbrev Said : ℕ → List Bytes → Bytes → ℕ → ℕ → Type 0
  Said j front bytes code passed = ByItsBytes language j bytes code passed × ((st : State) → Derived language start front st → ByItsNames language j st bytes code passed)

  -- of a piece that passed
  passed_said : {pieces : List Bytes} {all : State} {c : ℕ} → Passes language m start m.budget pieces all c → (j : ℕ) → j < length pieces → (code passed : ℕ) → j < passed
      → Said j (take j pieces) (get_or pieces j []) code passed
  passed_said {pieces} x j h code passed l =
      let at = passes_at language m x j h in
      let bytes = get_or pieces j [] in
      let D = passes_derived language m no_more at.front in (
        passed_by_bytes language bytes at.before m at.left at.passes j code passed l,
        λ st E. subst (λ s. ByItsNames language j s bytes code passed) (book_unique language D E)
            (passed_by_names language at.before bytes D m at.left at.passes j code passed l),
      )

  module _ (j : ℕ) (within : j < length (lines book)) where
    ended : {e : Ending} (x : LinesEnd language m start m.budget (lines book) e) → j ≤ passed_before language book m x
        → Said j (take j (lines book)) (get_or (lines book) j []) (code_at e) (passed_before language book m x)
    unfolding code_at passed_before
    ended (all_pass x e) h = passed_said x j within _ _ within
    ended (left_open x e) h = passed_said x j within _ _ within
    ended (one_stops {k = rec} {r} {c} past bytes rest q x f) h = at (dec_lt j (length past))
      where
        front : take j (lines book) ≡ take j past
        front = ap (take j) q ∙ take-append-le j past (bytes ∷ rest) h

        at : Dec (j < length past) → Said j (take j (lines book)) (get_or (lines book) j []) (code_of r) (length past)
        at (yes l) =
            let same : get_or (lines book) j [] ≡ get_or past j [] = ap (λ y. get_or y j []) q ∙ get_or-append past (bytes ∷ rest) [] j l in
            subst (λ y. Said j (take j (lines book)) y (code_of r) (length past)) (sym same)
            (subst (λ y. Said j y (get_or past j []) (code_of r) (length past)) (sym front) (passed_said x j l _ _ l))
        at (no l) =
            let o : j ≡ length past = omega arith in
            let same : get_or (lines book) j [] ≡ bytes = ap (λ y. get_or y j []) q ∙ get_or_at past bytes rest [] j (sym o) in
            let all : take j (lines book) ≡ past = ap (take j) q ∙ take_at past (bytes ∷ rest) j (sym o) in
            let D = passes_derived language m no_more x in
            let it : Said j past bytes (code_of r) j = (
              refused_by_bytes language bytes D m c f j,
              λ st E. subst (λ s. ByItsNames language j s bytes (code_of r) j) (book_unique language D E) (refused_by_names language (state_of rec) bytes D m c f j),
            ) in
            subst (λ y. Said j (take j (lines book)) y (code_of r) (length past)) (sym same)
            (subst (λ y. Said j y bytes (code_of r) (length past)) (sym all) (subst (λ i. Said j past bytes (code_of r) i) o it))

  -- a piece reported so is one that the run got to
  reported : {e : Ending} → Admitted language book m → (x : LinesEnd language m start m.budget (lines book) e) → WrongCode (code_at e) ⊎ (code_at e ≡ code_of too_large)
      → GetsTo language book m (passed_before language book m x) (passed_before language book m x) ⊎ ((code_at e ≡ code_of unbalanced) × (passed_before language book m x ≡ length (lines book)))
  unfolding code_at passed_before code_of
  reported a (all_pass x e) (inl c) = absurd (accepted_undecided c)
  reported a (all_pass x e) (inr c) = absurd (omega arith)
  reported a (left_open x e) c = inr (refl, refl)
  reported a (one_stops past bytes rest q x f) c =
      let o = length-append past (bytes ∷ rest) in
      let z : length (lines book) ≡ length (past ++ bytes ∷ rest) = ap length q in
      inl (record { admitted = a; within = omega arith; before = omega arith })

  -- ---- how far a run goes

  -- an ending ahead of the lines
  AheadOfLines : Ending → Type 0
  AheadOfLines (turned_away r) = Unit {0}
  AheadOfLines (accepted steps k) = ⊥
  AheadOfLines (refused_at r zero steps k) = Unit {0}
  AheadOfLines (refused_at r (suc line) steps k) = ⊥

  early_ahead : {e : Ending} → Early language e → AheadOfLines e
  unfolding AheadOfLines
  early_ahead (unfit q) = tt
  early_ahead too_long = tt

  lines_behind : {e : Ending} → LinesEnd language m start m.budget (lines book) e → ¬ AheadOfLines e
  unfolding AheadOfLines
  lines_behind (all_pass x e) h = h
  lines_behind (left_open x e) h = h
  lines_behind (one_stops past bytes rest q x f) h = h

  -- So many pieces passed, which make what is recorded, and the first fault from the left decides.
  pub record Went (e : Ending) : Type 0 where
    pub passed : ℕ
    pub within : passed ≤ length (lines book)
    pub derived : Derived language start (take passed (lines book)) (state_of (recorded_at e))
    pub all_passed : code_at e ≡ 0 → passed ≡ length (lines book)
    pub from_the_left : FromTheLeft language book m passed (code_at e)

  all_passed_lem : {e : Ending} (x : LinesEnd language m start m.budget (lines book) e) → code_at e ≡ 0 → passed_before language book m x ≡ length (lines book)
  unfolding code_at passed_before
  all_passed_lem (all_pass x e) z = refl
  all_passed_lem (left_open x e) z = refl
  all_passed_lem (one_stops {r = r} past bytes rest q x f) z = absurd (code_nonzero r z)

  lines_went : {e : Ending} → Admitted language book m → LinesEnd language m start m.budget (lines book) e → Went e
  lines_went a x =
      record {
        passed = passed_before language book m x;
        within = passed_within language book m x;
        derived = passed_derived language book m x;
        all_passed = all_passed_lem x;
        from_the_left =
            record {
              got_to = reported a x;
              by_its_bytes = λ j h. (ended j h.within x h.before).0;
              by_its_names = λ j st h. (ended j h.within x h.before).1 st;
            };
      }

  early_went : {e : Ending} → ¬ Admitted language book m → Early language e → Went e
  unfolding recorded_at nothing start code_at code_of Accepted Wrong
  early_went {e} n x =
      record {
        passed = 0;
        within = omega arith;
        derived = nothing_derived x;
        all_passed = λ z. absurd (early_refused language x z);
        from_the_left = record { got_to = λ c. absurd (not_early x c); by_its_bytes = λ j h. absurd (n h.admitted); by_its_names = λ j st h. absurd (n h.admitted) };
      }
    where
      nothing_derived : {e : Ending} → Early language e → Derived language start [] (state_of (recorded_at e))
      nothing_derived (unfit q) = no_more
      nothing_derived too_long = no_more

      not_early : {e : Ending} → Early language e → WrongCode (code_at e) ⊎ (code_at e ≡ code_of too_large) → ⊥
      not_early x (inl c) = early_undecided language x c
      not_early (unfit (inl i)) (inr c) = let z = ap code_of i in omega arith
      not_early (unfit (inr i)) (inr c) = let z = ap code_of i in omega arith
      not_early too_long (inr c) = omega arith

  pub run_went : Went (run language book m)
  unfolding nothing start
  run_went = at (run_starts language book m)
    where
      ends : Admitted language book m → LinesEnd language m start m.budget (lines book) (run language book m)
      ends a = rw (run_admitted language book m a) (lines_end language m (lines book) nothing 0 m.budget)

      at : Early language (run language book m) ⊎ Admitted language book m → Went (run language book m)
      at (inl x) = early_went (λ a. lines_behind (ends a) (early_ahead x)) x
      at (inr a) = lines_went a (ends a)
