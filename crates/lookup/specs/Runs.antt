-- How a run goes: what is looked at ahead of the lines, and how the lines end.
use Rattle.std.specs.Prelude.{◌≡◌, ◌≢◌, ◌⊎◌, Bool, ℕ, zero, suc, ◌+◌, ◌-◌, ◌*◌, ◌<◌, length, get_or, take}
use Rattle.std.proofs.Math.Path.{refl}
use Rattle.std.proofs.Common.{ap, sym, ◌∙◌, subst, arith}
use Rattle.std.proofs.Math.Logic.{inl, inr}
use Rattle.std.proofs.Math.Bool.{true, false, false≢true}
use mathlib.Core.List.{List, [], ◌∷◌, ◌++◌, cons≢nil}
use Rattle.std.proofs.Math.Dec.{leb}
use borrow.Author.Tests.{le-leb, leb-true}
use Rattle.aut68.specs.Language.{Language}
use Rattle.aut68.specs.Sizes.{smallest_limit, largest_limit, work_units, book_limit}
use Rattle.aut68.specs.Stores.{Limits}
use Rattle.aut68.specs.Bytes.{Bytes, lines}
use Rattle.aut68.specs.Paragraphs.{Opened, State, start, with_line, with_place}
use Rattle.aut68.specs.Procedure.Answer.{Answer, done, stop, Refusal, is_verdict, work_too_small, limit_out_of_range, out_of_space, unbalanced}
use Rattle.aut68.specs.Procedure.CheckPiece.{PassedPiece, passed_line, moved_to, check_piece}
use Rattle.aut68.specs.Procedure.Run.{Recorded, Ending, turned_away, accepted, refused_at, code_at, state_of, one_more, elsewhere, after_piece, at_end, check_lines, nothing, run}
use Rattle.aut68.specs.Demands.{Accepted, Wrong, Verdict, Admitted}
use Rattle.lookup.specs.Answers.{Decides, wrong_decides, space_undecided, code_nonzero}

-- ---- verdicts

pub verdict_decides : (r : Refusal) (line steps : ℕ) (k : Recorded) → Verdict (refused_at r line steps k) → Decides r
unfolding Verdict Accepted Wrong code_at
verdict_decides r line steps k (inl e) = absurd (code_nonzero r e)
verdict_decides r line steps k (inr h) = wrong_decides r h

-- ---- the lines

-- the state behind a piece that passed
unfoldable pub next_state : State → PassedPiece → State
next_state st (passed_line p) = with_line st p.line
next_state st (moved_to at) = with_place st at

pub after_state : (k : Recorded) (at : ℕ) (p : PassedPiece) → state_of (after_piece k at p) ≡ next_state (state_of k) p
unfolding after_piece one_more elsewhere next_state
after_state k at (passed_line p) = refl
after_state k at (moved_to place) = refl

module _ (language : Language) where
  module _ (m : Limits) where
    -- The pieces pass one after another, from the state st and with the budget b: the state is then `all`, with c left.
    pub data Passes : State → ℕ → List Bytes → State → ℕ → Type 0 where
      none_passes : {st : State} {b : ℕ} → Passes st b [] st b
      one_passes : {st all : State} {b b' c : ℕ} {bytes : Bytes} {more : List Bytes} {p : PassedPiece}
          → check_piece language st m bytes b ≡ done p b' → Passes (next_state st p) b' more all c → Passes st b (bytes ∷ more) all c

    -- piece k + 1 passes in the state that the pieces before it make
    pub record PassesAt (st : State) (b : ℕ) (pieces : List Bytes) (k : ℕ) : Type 0 where
      pub before : State
      pub left : ℕ
      pub front : Passes st b (take k pieces) before left
      pub passed : PassedPiece
      pub left_then : ℕ
      pub passes : check_piece language before m (get_or pieces k []) left ≡ done passed left_then

    pub passes_at : {st all : State} {b c : ℕ} {pieces : List Bytes} → Passes st b pieces all c → (k : ℕ) → k < length pieces → PassesAt st b pieces k
    passes_at none_passes k h = absurd (omega arith)
    passes_at (one_passes {st} {b = b} {b'} {p = p} e more) zero h = record { before = st; left = b; front = none_passes; passed = p; left_then = b'; passes = e }
    passes_at (one_passes e more) (suc k) h =
        let x = passes_at more k (omega arith) in
        record { before = x.before; left = x.left; front = one_passes e x.front; passed = x.passed; left_then = x.left_then; passes = x.passes }

    -- How the pieces end: all pass, and no paragraph is open; all pass, and one is; or some pass, and the next is refused.
    pub data LinesEnd (st : State) (b : ℕ) (pieces : List Bytes) : Ending → Type 0 where
      all_pass : {k : Recorded} {c : ℕ} → Passes st b pieces (state_of k) c → k.place.opened ≡ [] → LinesEnd st b pieces (accepted (m.budget - c) k)
      left_open : {k : Recorded} {c : ℕ} → Passes st b pieces (state_of k) c → k.place.opened ≢ []
          → LinesEnd st b pieces (refused_at unbalanced (suc (length k.recorded)) (m.budget - c) k)
      one_stops : {k : Recorded} {r : Refusal} {c c' : ℕ} (past : List Bytes) (bytes : Bytes) (rest : List Bytes)
          → pieces ≡ past ++ bytes ∷ rest → Passes st b past (state_of k) c → check_piece language (state_of k) m bytes c ≡ stop r c'
          → LinesEnd st b pieces (refused_at r (suc (length k.recorded)) (m.budget - c') k)

    end_ends : (k : Recorded) (b : ℕ) (os : List Opened) → k.place.opened ≡ os → LinesEnd (state_of k) b [] (at_end language m k b os)
    unfolding at_end
    end_ends k b [] e = all_pass none_passes e
    end_ends k b (o ∷ os) e = left_open none_passes (λ q. cons≢nil (sym e ∙ q))

    pub lines_end : (pieces : List Bytes) (k : Recorded) (at b : ℕ) → LinesEnd (state_of k) b pieces (check_lines language m k at b pieces)
    unfolding check_lines
    lines_end [] k at b = end_ends k b k.place.opened refl
    lines_end (bytes ∷ more) k at b = go (lines_end more) (check_piece language (state_of k) m bytes b) refl
      where
        onto : {p : PassedPiece} {b' : ℕ} {e : Ending} → check_piece language (state_of k) m bytes b ≡ done p b' → LinesEnd (next_state (state_of k) p) b' more e
            → LinesEnd (state_of k) b (bytes ∷ more) e
        onto q (all_pass h e) = all_pass (one_passes q h) e
        onto q (left_open h e) = left_open (one_passes q h) e
        onto q (one_stops past x rest s h f) = one_stops (bytes ∷ past) x rest (ap (◌∷◌ bytes) s) (one_passes q h) f

        go : ((k : Recorded) (at b : ℕ) → LinesEnd (state_of k) b more (check_lines language m k at b more))
            → (x : Answer ℕ PassedPiece) → check_piece language (state_of k) m bytes b ≡ x
            → LinesEnd (state_of k) b (bytes ∷ more) (elim x [
              | done p b' ↦ check_lines language m (after_piece k at p) (at + length bytes) b' more
              | stop r b' ↦ refused_at r (suc (length k.recorded)) (m.budget - b') k
            ])
        go f (done p b') q =
            onto q (subst (λ z. LinesEnd z b' more (check_lines language m (after_piece k at p) (at + length bytes) b' more)) (after_state k at p) (f (after_piece k at p) (at + length bytes) b'))
        go f (stop r b') q = one_stops [] bytes more refl none_passes q

  -- ---- ahead of the lines

  -- a call that is refused before the first line
  pub data Early : Ending → Type 0 where
    unfit : {r : Refusal} → (r ≡ limit_out_of_range) ⊎ (r ≡ work_too_small) → Early (turned_away r)
    too_long : Early (refused_at out_of_space 0 0 nothing)

  pub early_undecided : {e : Ending} → Early e → ¬ Wrong e
  unfolding Wrong code_at is_verdict
  early_undecided (unfit (inl q)) w = false≢true (subst Decides q (wrong_decides _ w))
  early_undecided (unfit (inr q)) w = false≢true (subst Decides q (wrong_decides _ w))
  early_undecided too_long w = space_undecided (wrong_decides out_of_space w)

  pub early_refused : {e : Ending} → Early e → ¬ Accepted e
  unfolding Accepted code_at
  early_refused (unfit {r} q) h = code_nonzero r h
  early_refused too_long h = code_nonzero out_of_space h

  module _ (book : Bytes) (m : Limits) where
    pub run_admitted : Admitted language book m → run language book m ≡ check_lines language m nothing 0 m.budget (lines book)
    unfolding run
    run_admitted a =
        rw (
          le-leb smallest_limit m.limit a.at_least,
          le-leb m.limit largest_limit a.at_most,
          le-leb (work_units * m.limit) m.work a.enough,
          le-leb (length book) book_limit
              a.short,
          run,
        )
        refl

    pub run_starts : Early (run language book m) ⊎ Admitted language book m
    unfolding run
    run_starts = at (leb smallest_limit m.limit) (leb m.limit largest_limit) (leb (work_units * m.limit) m.work) (leb (length book) book_limit) refl refl refl refl
      where
        at : (s t u v : Bool) → leb smallest_limit m.limit ≡ s → leb m.limit largest_limit ≡ t → leb (work_units * m.limit) m.work ≡ u → leb (length book) book_limit ≡ v
            → Early (run language book m) ⊎ Admitted language book m
        at false t u v p q r x = inl (rw (p, run) (unfit (inl refl)))
        at true false u v p q r x = inl (rw (p, q, run) (unfit (inl refl)))
        at true true false v p q r x = inl (rw (p, q, r, run) (unfit (inr refl)))
        at true true true false p q r x = inl (rw (p, q, r, x, run) too_long)
        at true true true true p q r x = inr (record { at_least = leb-true _ _ p; at_most = leb-true _ _ q; enough = leb-true _ _ r; short = leb-true _ _ x })

    pub run_ends : Early (run language book m) ⊎ LinesEnd m start m.budget (lines book) (run language book m)
    unfolding nothing start
    run_ends = at run_starts
      where
        at : Early (run language book m) ⊎ Admitted language book m → Early (run language book m) ⊎ LinesEnd m start m.budget (lines book) (run language book m)
        at (inl e) = inl e
        at (inr a) = inr (rw (run_admitted a) (lines_end m (lines book) nothing 0 m.budget))

    -- a run with a verdict has looked at the lines
    pub verdict_admitted : Verdict (run language book m) → Admitted language book m
    unfolding Verdict
    verdict_admitted v = at run_starts v
      where
        at : Early (run language book m) ⊎ Admitted language book m → Accepted (run language book m) ⊎ Wrong (run language book m) → Admitted language book m
        at (inl e) (inl v) = absurd (early_refused e v)
        at (inl e) (inr v) = absurd (early_undecided e v)
        at (inr a) v = a
