-- The line limit as a parameter: what is said before line n is said under every larger line limit.
use Rattle.std.proofs.Math.Path.{◌≡◌, refl}
use Rattle.std.proofs.Common.{ap}
use Rattle.std.specs.Prelude.{Bool, ◌&&◌}
use Rattle.std.proofs.Math.Bool.{true, false}
use mathlib.Core.List.{List, [], ◌∷◌}
use Prim.Native.Nat.{ℕ, suc, ◌+◌, ◌-◌, ◌*◌, ◌≤◌, ◌<◌}
use native.Mathlib.Omega.{arith}
use Rattle.std.proofs.Math.Dec.{leb}
use Rattle.std.proofs.Math.ListN.{length, length-append}
use borrow.Author.Tests.{lt-ltb}
use Rattle.aut68.specs.Language.{Language}
use Rattle.aut68.specs.Sizes.{smallest_limit, largest_limit, work_units, book_limit}
use Rattle.aut68.specs.Stores.{Limits, before_line}
use Rattle.aut68.specs.Bytes.{Bytes, lines}
use Rattle.aut68.specs.Lines.{Line, Lines}
use Rattle.aut68.specs.Paragraphs.{Opened, State}
use Rattle.aut68.specs.Procedure.Answer.{Answer, done, stop, and_then, ◌>>=◌, give, ensure, aside, out_of_space}
use Rattle.aut68.specs.Procedure.CheckLine.{read_line, room, store, check_categories, check_line}
use Rattle.aut68.specs.Procedure.CheckPiece.{PassedPiece, passed_line, moved_to, check_piece}
use Rattle.aut68.specs.Procedure.Run.{Recorded, state_of, Ending, refused_at, one_more, elsewhere, after_piece, at_end, check_lines, nothing, run}
use Rattle.aut68.specs.Demands.{Verdict}
use Rattle.lookup.specs.Runs.{verdict_admitted}
use Rattle.reading.specs.PieceKinds.{PieceKind, an_opening, a_closing, ordinary, kind_of, opening_checked, closing_checked, ordinary_checked}
use Rattle.orders.proofs.Limits.{same_ending_lem}

module _ (n : ℕ) (m : Limits) (le : n ≤ m.lines) where
  -- ---- fewer lines than n

  room_same : (ls : Lines) (l : Line) → suc (length ls) < n → room ls m l ≡ room ls (before_line n m) l
  unfolding room
  room_same ls l h =
      let k : suc (length ls) < m.lines = omega arith in
      rw (lt-ltb (suc (length ls)) n h, lt-ltb (suc (length ls)) m.lines k)

  module _ (language : Language) where
    line_same : (st : State) (bytes : Bytes) (b : ℕ) → suc (length st.earlier) < n → check_line language st m bytes b ≡ check_line language st (before_line n m) bytes b
    unfolding check_line store
    line_same st bytes b h = λ i.
        (aside (read_line language st m.limit bytes tt) >>= λ p.
        ensure (room_same st.earlier p.line h i) out_of_space >>= λ _.
        check_categories language st.earlier m.limit p.line >>= λ _.
        give p) b

    piece_same : (st : State) (bytes : Bytes) (b : ℕ) → suc (length st.earlier) < n → check_piece language st m bytes b ≡ check_piece language st (before_line n m) bytes b
    piece_same st bytes b h = at (kind_of bytes)
      where
        at : PieceKind bytes → check_piece language st m bytes b ≡ check_piece language st (before_line n m) bytes b
        at (an_opening e) = rw (opening_checked language st m bytes e, opening_checked language st (before_line n m) bytes e)
        at (a_closing e f) = rw (closing_checked language st m bytes e f, closing_checked language st (before_line n m) bytes e f)
        at (ordinary o) = rw (ordinary_checked language st m bytes o, ordinary_checked language st (before_line n m) bytes o) (ap (and_then (λ p. give (passed_line p))) (line_same st bytes b h))

    end_same : (k : Recorded) (b : ℕ) (os : List Opened) → at_end language m k b os ≡ at_end language (before_line n m) k b os
    unfolding at_end
    end_same k b [] = refl
    end_same k b (o ∷ os) = refl

    -- behind a piece, of those that are left, no more lines than pieces
    after_within : (k : Recorded) (at : ℕ) (p : PassedPiece) (more : ℕ) → length k.recorded + suc more < n → length (after_piece k at p).recorded + more < n
    unfolding after_piece one_more elsewhere
    after_within k at (passed_line p) more h = omega (arith, length-append k.recorded (p.line ∷ []))
    after_within k at (moved_to place) more h = omega arith

    lines_same : (pieces : List Bytes) (k : Recorded) (at b : ℕ) → length k.recorded + length pieces < n
        → check_lines language m k at b pieces ≡ check_lines language (before_line n m) k at b pieces
    unfolding check_lines
    lines_same [] k at b h = end_same k b k.place.opened
    lines_same (bytes ∷ more) k at b h =
        rw (piece_same (state_of k) bytes b (omega arith), check_lines) (go (lines_same more) (check_piece language (state_of k) (before_line n m) bytes b))
      where
        go : ((k : Recorded) (at b : ℕ) → length k.recorded + length more < n → check_lines language m k at b more ≡ check_lines language (before_line n m) k at b more)
            → (x : Answer ℕ PassedPiece)
            → ◌≡◌ {A = Ending} (elim x as (λ _. Ending) [
              | done p b' ↦ check_lines language m (after_piece k at p) (at + length bytes) b' more
              | stop r b' ↦ refused_at r (suc (length k.recorded)) (m.budget - b') k
            ])
            (elim x as (λ _. Ending) [
              | done p b' ↦ check_lines language (before_line n m) (after_piece k at p) (at + length bytes) b' more
              | stop r b' ↦ refused_at r (suc (length k.recorded)) (m.budget - b') k
            ])
        go f (done p b') = f (after_piece k at p) (at + length bytes) b' (after_within k at p (length more) h)
        go f (stop r b') = refl

    pub few_same : (book : Bytes) → length (lines book) < n → run language book m ≡ run language book (before_line n m)
    unfolding run nothing
    few_same book h = at (leb smallest_limit m.limit && leb m.limit largest_limit) (leb (work_units * m.limit) m.work) (leb (length book) book_limit) refl refl refl
      where
        at : (t u v : Bool) → (leb smallest_limit m.limit && leb m.limit largest_limit) ≡ t → leb (work_units * m.limit) m.work ≡ u → leb (length book) book_limit ≡ v
            → run language book m ≡ run language book (before_line n m)
        at false u v p q r = rw (p, run)
        at true false v p q r = rw (p, q, run)
        at true true false p q r = rw (p, q, r, run)
        at true true true p q r = rw (p, q, r, run) (lines_same (lines book) nothing 0 m.budget (omega arith))

    -- ---- a verdict

    pub verdict_same : (book : Bytes) → Verdict (run language book (before_line n m)) → run language book m ≡ run language book (before_line n m)
    verdict_same book v =
        let a = verdict_admitted language book (before_line n m) v in
        same_ending_lem language book (before_line n m) m
        (record {
          budget = omega arith;
          limit = omega arith;
          permitted = a.at_most;
          enough = a.enough;
          same_table = refl;
          same_terms = refl;
          same_index = refl;
          lines = le;
        }) v
