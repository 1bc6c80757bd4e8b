-- The pages of an accepted book, read back without spaces, are accepted alike.
use Rattle.std.specs.Prelude.{◌≡◌, ◌⊎◌, get_or}
use Rattle.std.proofs.Math.Path.{refl, ap, subst₂}
use Rattle.std.proofs.Common.{sym, ◌∙◌, subst, inl, inr, arith, length-append}
use Prim.Native.Nat.{ℕ, ◌+◌, ◌≤◌}
use mathlib.Core.List.{List, [], ◌∷◌}
use Rattle.std.proofs.Math.ListN.{length}
use Rattle.aut68.specs.Language.{Language}
use Rattle.aut68.specs.Stores.{Limits, Stores, limits_of}
use Rattle.aut68.specs.Bytes.{Bytes, lines, joined}
use Rattle.aut68.specs.Lines.{Lines, table_of, terms_of}
use Rattle.aut68.specs.Index.{index_of}
use Rattle.aut68.specs.Paragraphs.{Opened, State, start, with_line, with_place}
use Rattle.aut68.specs.Procedure.Answer.{Answer, done, stop, Refusal, unbalanced}
use Rattle.aut68.specs.Procedure.CheckPiece.{PassedPiece, check_piece}
use Rattle.aut68.specs.Procedure.Run.{Recorded, state_of, Ending, accepted, code_at, line_at, steps_at, recorded_at, over, table_end, terms_end, work_end, index_end, nothing, one_more, elsewhere, after_piece, at_end, check_lines, run}
use Rattle.aut68.specs.Demands.{Accepted, Verdict, Admitted}
use Rattle.aut68.specs.Pages.{without, pages, read_back, without_spaces}
use Rattle.aut68.specs.Printing.{SameReading, SameButPlaces, ReadsBack}
use Rattle.lookup.specs.Answers.{code_nonzero}
use Rattle.lookup.specs.Lists.{Each}
use Rattle.lookup.specs.Runs.{Passes, none_passes, one_passes, LinesEnd, all_pass, left_open, one_stops, Early, early_refused, run_admitted, run_ends, verdict_admitted}
use Rattle.reading.specs.Pieces.{lines_joined}
use Rattle.paging.specs.Without.{without_length}
use Rattle.paging.specs.SameReading.{same_reading}
use Rattle.paging.specs.PaddedLines.{HasForm, as_line, as_sign, cut_again, spaces_dropped_back}
use Rattle.paging.specs.SameChecks.{SamePiece, same_line, same_place, passes_without}
use Rattle.paging.specs.Places.{tables_agree}

form_without : (language : Language) (l : Bytes) → HasForm language l → HasForm language (without 32 l)
unfolding SameReading
form_without language l (as_line {s} w) = as_line ((same_reading language l).0 s w)
form_without language l (as_sign {sign} {p} i f) = as_sign i ((same_reading language l).1 sign p i f)

-- ---- the lines of an accepted book are well formed

module _ (language : Language) (m : Limits) where
  passes_forms : {st all : State} {b c : ℕ} {pieces : List Bytes} → Passes language m st b pieces all c → Each (HasForm language) pieces
  passes_forms none_passes = tt
  passes_forms (one_passes {st} {b = b} {bytes = bytes} e h) = ((passes_without language st m bytes b e).form, passes_forms h)

  accepted_forms : (book : Bytes) → Accepted (run language book m) → Each (HasForm language) (lines book)
  unfolding Accepted code_at
  accepted_forms book a = at (run_ends language book m) a
    where
      ends : {e : Ending} → LinesEnd language m start m.budget (lines book) e → Accepted e → Each (HasForm language) (lines book)
      ends (all_pass h o) a = passes_forms h
      ends (left_open h o) a = absurd (code_nonzero unbalanced a)
      ends (one_stops {r = r} past bytes rest s h f) a = absurd (code_nonzero r a)

      at : Early language (run language book m) ⊎ LinesEnd language m start m.budget (lines book) (run language book m) → Accepted (run language book m) → Each (HasForm language) (lines book)
      at (inl h) a = absurd (early_refused language h a)
      at (inr h) a = ends h a

-- ---- endings alike

-- the same state is recorded, and a place in the book for each line
record SameLines (k k' : Recorded) : Type 0 where
  alike : state_of k' ≡ state_of k
  placed : length k.firsts ≡ length k.recorded
  placed_too : length k'.firsts ≡ length k.recorded

-- both accepted, with the same steps and lines
data SameEnding : Ending → Ending → Type 0 where
  same_ending : {steps : ℕ} {k k' : Recorded} → SameLines k k' → SameEnding (accepted steps k) (accepted steps k')

-- one piece more
same_snoc : {k k' : Recorded} (at at' : ℕ) {p q : PassedPiece} → SamePiece p q → SameLines k k' → SameLines (after_piece k at p) (after_piece k' at' q)
unfolding after_piece one_more elsewhere
same_snoc {k} {k'} at at' (same_line {p = p} n) h =
    let e = h.placed in
    let f = h.placed_too in
    record {
      alike = ap (λ (st : State). with_line st p.line) h.alike;
      placed = omega (arith, e, length-append k.firsts ((at + p.before) ∷ []), length-append k.recorded (p.line ∷ []));
      placed_too = omega (arith, f, length-append k'.firsts ((at' + n) ∷ []), length-append k.recorded (p.line ∷ []));
    }
same_snoc at at' (same_place {at = place}) h = record { alike = ap (λ (st : State). with_place st place) h.alike; placed = h.placed; placed_too = h.placed_too }

module _ (language : Language) (m : Limits) where
  lines_pass : (k : Recorded) (at b : ℕ) (bytes : Bytes) (more : List Bytes) {p : PassedPiece} {b' : ℕ} → check_piece language (state_of k) m bytes b ≡ done p b'
      → check_lines language m k at b (bytes ∷ more) ≡ check_lines language m (after_piece k at p) (at + length bytes) b' more
  unfolding check_lines
  lines_pass k at b bytes more e = rw (e, check_lines) refl

  lines_stop : (k : Recorded) (at b : ℕ) (bytes : Bytes) (more : List Bytes) {r : Refusal} {b' : ℕ} → check_piece language (state_of k) m bytes b ≡ stop r b'
      → ¬ Accepted (check_lines language m k at b (bytes ∷ more))
  unfolding check_lines Accepted code_at
  lines_stop k at b bytes more {r} e a = code_nonzero r (rw (e, check_lines) at a)

  -- at the end
  end_alike : (k k' : Recorded) (b : ℕ) (os os' : List Opened) → os' ≡ os → SameLines k k' → Accepted (at_end language m k b os) → SameEnding (at_end language m k b os) (at_end language m k' b os')
  unfolding at_end Accepted code_at
  end_alike k k' b [] os' e h a = rw (e, at_end) (same_ending h)
  end_alike k k' b (o ∷ os) os' e h a = absurd (code_nonzero unbalanced a)

  -- Lines that are accepted are accepted without their spaces.
  lines_alike : (pieces : List Bytes) (k k' : Recorded) (at at' b : ℕ) → SameLines k k' → Accepted (check_lines language m k at b pieces)
      → SameEnding (check_lines language m k at b pieces) (check_lines language m k' at' b (without_spaces pieces))
  unfolding check_lines
  lines_alike [] k k' at at' b h a = end_alike k k' b k.place.opened k'.place.opened (ap (λ (st : State). st.place.opened) h.alike) h a
  lines_alike (bytes ∷ more) k k' at at' b h a = go (check_piece language (state_of k) m bytes b) refl (lines_alike more)
    where
      go : (x : Answer ℕ PassedPiece) → check_piece language (state_of k) m bytes b ≡ x
          → ((k k' : Recorded) (at at' b : ℕ) → SameLines k k' → Accepted (check_lines language m k at b more)
          → SameEnding (check_lines language m k at b more) (check_lines language m k' at' b (without_spaces more)))
          → SameEnding (check_lines language m k at b (bytes ∷ more)) (check_lines language m k' at' b (without 32 bytes ∷ without_spaces more))
      go (stop r b') e again = absurd (lines_stop k at b bytes more e a)
      go (done p b') e again =
          let x = passes_without language (state_of k) m bytes b e in
          let q = lines_pass k at b bytes more e in
          let q' = lines_pass k' at' b (without 32 bytes) (without_spaces more) (ap (λ (st : State). check_piece language st m (without 32 bytes) b) h.alike ∙ x.passes) in
          subst₂ SameEnding (sym q) (sym q')
          (again (after_piece k at p) (after_piece k' at' x.piece) (at + length bytes) (at' + length (without 32 bytes)) b' (same_snoc at at' x.same h) (subst Accepted q a))

-- such endings leave the same cells, places apart
same_but_places : {e e' : Ending} (L : ℕ) (s : Stores) → SameEnding e e' → SameButPlaces e e' L s
unfolding code_at line_at steps_at recorded_at table_end terms_end work_end index_end
same_but_places L s (same_ending {k = k} {k' = k'} h) =
    let e : k'.recorded ≡ k.recorded = ap (λ (st : State). st.earlier) h.alike in
    record {
      code = refl;
      line = ap (λ (x : Lines). length x) e;
      steps = refl;
      table_cells = λ i n.
          ap (λ (x : Lines). get_or (over (table_of k'.firsts x) s.table) i 0) e
          ∙ tables_agree k'.firsts k.firsts k.recorded s.table h.placed_too h.placed i n;
      terms_cells = ap (λ (x : Lines). over (terms_of x) s.terms) e;
      work_cells = refl;
      index_cells = ap (λ (x : Lines). over (index_of x) s.index) e;
    }

-- ---- the book that is read back

without_shorter : (ls : List Bytes) → length (joined (without_spaces ls)) ≤ length (joined ls)
unfolding joined
without_shorter [] = omega arith
without_shorter (l ∷ ls) =
    let h = without_length 32 l in
    let k = without_shorter ls in
    omega (arith, h, k, length-append (without 32 l) (joined (without_spaces ls)), length-append l (joined ls))

module _ (language : Language) (book : Bytes) (m : Limits) (a : Accepted (run language book m)) where
  -- the book read back
  back : Bytes
  back = joined (without_spaces (read_back (pages book)))

  forms : Each (HasForm language) (lines book)
  forms = accepted_forms language m book a

  admitted : Admitted language book m
  unfolding Verdict
  admitted = verdict_admitted language book m (inl a)

  back_lines : lines back ≡ without_spaces (lines book)
  unfolding back
  back_lines =
      ap (λ (x : List Bytes). lines (joined x)) (spaces_dropped_back language book forms)
      ∙ cut_again language (without 32) (form_without language) (lines book) forms

  back_admitted : Admitted language back m
  unfolding back
  back_admitted =
      let e = ap (λ (x : List Bytes). length (joined x)) (spaces_dropped_back language book forms) in
      let h = without_shorter (lines book) in
      let q = ap (λ (x : Bytes). length x) (lines_joined book) in
      let k = admitted.short in
      record { at_least = admitted.at_least; at_most = admitted.at_most; enough = admitted.enough; short = omega (arith, e, h, q, k) }

  back_alike : SameEnding (run language book m) (run language back m)
  unfolding nothing
  back_alike =
      let e = run_admitted language book m admitted in
      let e' = run_admitted language back m back_admitted ∙ ap (check_lines language m nothing 0 m.budget) back_lines in
      subst₂ SameEnding (sym e) (sym e')
      (lines_alike language m (lines book) nothing nothing 0 0 m.budget (record { alike = refl; placed = refl; placed_too = refl }) (subst Accepted e a))

-- the pages of an accepted book, read back without spaces, leave the same cells
pub reads_back_lem : ReadsBack
unfolding ReadsBack back
reads_back_lem language book N L s a = same_but_places L s (back_alike language book (limits_of N L s) a)
