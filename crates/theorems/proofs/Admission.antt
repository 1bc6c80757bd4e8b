-- What a call on a book has of its admission: the lines of an accepted book, a refusal passed on, and an answer.
use Rattle.std.specs.Prelude.{◌≡◌, ◌⊎◌, ◌≢◌, ℕ, ◌*◌, ◌≤◌, length, take}
use Rattle.std.proofs.Math.Path.{refl, ap, subst}
use Rattle.std.proofs.Common.{sym, ◌∙◌, inr, ⊎_elim, arith, length-take, take_all, le-leb}
use Rattle.std.proofs.Math.Logic.{inl}
use mathlib.Core.List.{List, [], ◌++◌}
use Rattle.std.proofs.Math.ListN.{drop, replicate, take-append-drop}
use Rattle.std.proofs.lemmas.List.{length-replicate}
use Rattle.std.proofs.Math.Seq.{take_at}
use Rattle.aut68.specs.Language.{Language}
use Rattle.aut68.specs.Sizes.{book_limit, work_units}
use Rattle.aut68.specs.Stores.{Stores, stores, limits_of}
use Rattle.aut68.specs.Bytes.{Bytes, lines}
use Rattle.aut68.specs.Lines.{Lines}
use Rattle.aut68.specs.Paragraphs.{State, start}
use Rattle.aut68.specs.Procedure.Answer.{Refusal, code_of}
use Rattle.aut68.specs.Procedure.Run.{Ending, turned_away, accepted, refused_at, run, state_of, code_at, line_at, steps_at, recorded_at, over, work_end}
use Rattle.aut68.specs.Rules.Derivation.{Derived}
use Rattle.aut68.specs.Demands.{Accepted, Verdict, Soundness, Determined, Checks}
use Rattle.aut68.specs.Admission.{AdmitsFirst}
use Rattle.lookup.specs.Answers.{code_nonzero}
use Rattle.lookup.specs.Runs.{verdict_admitted}
use Rattle.reading.specs.Readings.{book_unique}
use Rattle.orders.proofs.Limits.{same_ending_lem}
use Rattle.cells.specs.Posts.{cleared}
use Rattle.heads.specs.Book.{Book}
use Rattle.records.specs.OnRecord.{on_record}
use Rattle.theorems.specs.Demands.{accepted_is_correct}
use Rattle.theorems.proofs.FromTheLeft.{run_went}
use Rattle.theorems.proofs.Checks.{accepted_line_lem, checks}

-- The code of an ending is 0 or a refusal's.
pub ending_code : (e : Ending) → (code_at e ≡ 0) ⊎ ((r : Refusal) × (code_at e ≡ code_of r))
unfolding code_at
ending_code (turned_away r) = inr (r, refl)
ending_code (accepted steps k) = inl refl
ending_code (refused_at r line steps k) = inr (r, refl)

module _ (language : Language) (book : Bytes) (N L : ℕ) (s : Stores) where
  abbrev ending : Ending
  ending = run language book (limits_of N L s)

  -- the lines of an accepted book: as many as are reported, each piece has a derivation, and no paragraph is left open
  pub accepted_lines : code_at ending ≡ 0
      → (line_at ending ≡ length (recorded_at ending).recorded) × Derived language start (lines book) (state_of (recorded_at ending)) × ((recorded_at ending).place.opened ≡ [])
  unfolding Soundness Accepted
  accepted_lines z =
      let w = run_went language book (limits_of N L s) in
      let c = (accepted_is_correct language book (limits_of N L s) z).0 in
      let D : Derived language start (lines book) (state_of (recorded_at ending)) =
      subst (λ x. Derived language start x (state_of (recorded_at ending))) (take_all w.passed (lines book) (omega (arith, w.all_passed z))) w.derived
      in
      (accepted_line_lem language book N L s z, D, ap (λ (x : State). x.place.opened) (book_unique language D c.derived) ∙ c.all_closed)

  module _ {code line steps : ℕ} {s' : Stores} (d : Determined ending L s code line steps s') where
    promise : Checks language book N L s (code_at ending) (line_at ending) (steps_at ending) s'
    promise = checks language book N L s (record { code_is = refl; line_is = refl; steps_are = refl; table_is = d.table_is; terms_are = d.terms_are; work_is = d.work_is; index_is = d.index_is })

    -- ---- a refusal

    -- a code that is passed on where it is a refusal's
    pub refusal_code : {x : ℕ} → code ≢ 0 → ((r : Refusal) → code ≡ code_of r → x ≡ code) → x ≡ code
    refusal_code n h = ⊎_elim (λ z. absurd (n (d.code_is ∙ z))) (λ (r, q). h r (d.code_is ∙ q)) (ending_code ending)

    pub admits_refused : {c l n k : ℕ} {Untouched : Type 0} {Answers : Lines → Type 0} → code ≢ 0 → c ≡ code → l ≡ line → n ≡ steps → k ≡ 0 → Untouched
        → AdmitsFirst language book N L s c l n k s' Untouched Answers
    admits_refused r e f g z u =
        record {
          admission = promise;
          refused = λ _. (e ∙ d.code_is, f ∙ d.line_is, g ∙ d.steps_are, z, u);
          answered = λ a. absurd (r (d.code_is ∙ a));
          limits = same_ending_lem language book (limits_of N L s);
        }

    -- ---- an accepted book

    module _ (accept : code ≡ 0) where
      pub accepted_code : code_at ending ≡ 0
      accepted_code = sym d.code_is ∙ accept

      pub verdict : Verdict ending
      unfolding Verdict Accepted
      verdict = inl accepted_code

      -- the reported line is the last one
      pub last_line : line ≡ length (recorded_at ending).recorded
      last_line = d.line_is ∙ (accepted_lines accepted_code).0

      pub accepted_short : length book ≤ book_limit
      accepted_short = (verdict_admitted language book (limits_of N L s) verdict).short

      pub admits_answered : {c n k : ℕ} {Untouched : Type 0} {Answers : Lines → Type 0} → Answers (recorded_at ending).recorded → AdmitsFirst language book N L s c 0 n k s' Untouched Answers
      admits_answered a =
          record {
            admission = promise;
            refused = λ r. absurd (r accepted_code);
            answered = λ _. (refl, a);
            limits = same_ending_lem language book (limits_of N L s);
          }

  -- ---- the working store of an accepted book

  module _ {code line steps : ℕ} {tb ts w ix : List ℕ} (d : Determined ending L s code line steps (stores tb ts w ix)) (accept : code ≡ 0) where
    -- its first cells are zeros
    work_zeros : w ≡ over (replicate (work_units * L) 0) s.work
    unfolding work_end code_at
    work_zeros = d.work_is ∙ of ending (accepted_code d accept)
      where
        of : (e : Ending) → code_at e ≡ 0 → work_end L e s.work ≡ over (replicate (work_units * L) 0) s.work
        of (turned_away r) z = absurd (code_nonzero r z)
        of (accepted n k) z = refl
        of (refused_at r l n k) z = refl

    pub front_zeros : take (work_units * L) w ≡ replicate (work_units * L) 0
    unfolding over
    front_zeros = ap (take (work_units * L)) work_zeros ∙ take_at (replicate (work_units * L) 0) (drop (length (replicate (work_units * L) 0)) s.work) (work_units * L) (length-replicate (work_units * L) 0)

    pub front_long : length (take (work_units * L) w) ≡ work_units * L
    front_long = ap length front_zeros ∙ length-replicate (work_units * L) 0

    -- it has them
    pub work_fits : work_units * L ≤ length w
    work_fits = omega (arith, front_long, length-take (work_units * L) w)

    -- and cleared behind a call's own work it is as it was
    pub work_cleared : (w' : List ℕ) → length w' ≡ length w → drop (work_units * L) w' ≡ drop (work_units * L) w → cleared (work_units * L) w' ≡ w
    unfolding cleared over
    work_cleared w' e q =
        let n = work_units * L in
        rw (le-leb n (length w') (omega (arith, e, work_fits)), cleared)
        (ap (λ (k : ℕ). replicate n 0 ++ drop k w') (length-replicate n 0) ∙ ap (λ (l : List ℕ). replicate n 0 ++ l) q ∙ ap (λ (l : List ℕ). l ++ drop n w) (sym front_zeros) ∙ take-append-drop n w)

    -- the rows and cells of the lines are in the stores
    pub lines_held : Book (recorded_at ending).recorded L tb ts
    lines_held = held_as (sym d.table_is) (sym d.terms_are) (on_record language book N L s (verdict d accept)).held
      where
        held_as : {ls : Lines} {tb tb' ts ts' : List ℕ} → tb ≡ tb' → ts ≡ ts' → Book ls L tb ts → Book ls L tb' ts'
        held_as e f h = rw (← e, ← f) h
