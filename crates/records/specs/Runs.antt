-- What a run leaves in table and term store: they hold the lines that are recorded at its end.
use Rattle.std.specs.Prelude.{◌≡◌, ◌⊎◌, ℕ, suc, ◌+◌, ◌-◌, drop}
use Rattle.std.proofs.Math.Path.{refl, sym, ap}
use Rattle.std.proofs.Common.{◌∙◌, inl, inr, arith, take_at, drop_at}
use mathlib.Core.List.{List, [], ◌∷◌, ◌++◌, append_assoc}
use Rattle.std.proofs.Math.ListN.{length, length-append}
use Rattle.std.proofs.Math.Seq.{slice}
use Rattle.aut68.specs.Language.{Language}
use Rattle.aut68.specs.Stores.{Stores, limits_of}
use Rattle.aut68.specs.Bytes.{Bytes, lines, joined}
use Rattle.aut68.specs.Lines.{table_of, terms_of, rows_from}
use Rattle.aut68.specs.Paragraphs.{Opened}
use Rattle.aut68.specs.Procedure.Answer.{Answer, done, stop}
use Rattle.aut68.specs.Procedure.CheckPiece.{PassedPiece, check_piece}
use Rattle.aut68.specs.Procedure.Run.{Recorded, Ending, state_of, refused_at, nothing, after_piece, over, recorded_at, table_end, terms_end, at_end, check_lines, run}
use Rattle.lookup.specs.DerivedBooks.{right_contexts}
use Rattle.aut68.specs.Demands.{Admitted}
use Rattle.lookup.specs.Runs.{Early, unfit, too_long, run_starts, run_admitted}
use Rattle.reading.specs.Pieces.{Pieces, pieces_behind, lines_joined, lines_pieces, lines_of_pieces}
use Rattle.reading.specs.PieceStages.{PassedBy, opening_passed, closing_passed, line_passed, piece_passed, opening_piece, closing_piece}
use Rattle.records.specs.ReadLines.{passed_read}
use Rattle.records.specs.Reached.{Reached, reached_nothing, reached_elsewhere, reached_more, room_is}

module _ (language : Language) (book : Bytes) (N L : ℕ) (s : Stores) where
  -- table and term store at an ending hold the lines recorded there
  abbrev pub ReachedAt : Ending → Type 0
  ReachedAt e =
      (at : ℕ) × Reached language book N L s (recorded_at e) at (length (recorded_at e).recorded) (length (terms_of (recorded_at e).recorded)) (table_end e s.table) (terms_end e s.terms)

  -- the stores are determined by what is recorded
  settled : {k : Recorded} {at n used : ℕ} {tb ts : List ℕ} → Reached language book N L s k at n used tb ts
      → Reached language book N L s k at (length k.recorded) (length (terms_of k.recorded)) (over (table_of k.firsts k.recorded) s.table) (over (terms_of k.recorded) s.terms)
  settled h = rw (sym h.lines_are, sym h.used_is, sym h.table_is, sym h.terms_are) h

  -- the bytes behind the first ones
  piece_at : (at : ℕ) (front bytes rest : Bytes) → at ≡ length front → slice at (at + length bytes) (front ++ (bytes ++ rest)) ≡ bytes
  piece_at at front bytes rest e =
      ap (λ (x : Bytes). slice at (at + length bytes) x) (sym (append_assoc front bytes rest))
      ∙ ap (drop at) (take_at (front ++ bytes) rest (at + length bytes) (omega (arith, length-append front bytes)))
      ∙ drop_at front bytes at (sym e)

  -- a piece that passed
  one_reached : (bytes : Bytes) (more : List Bytes) (front : Bytes) (at : ℕ) → at ≡ length front → book ≡ front ++ joined (bytes ∷ more)
      → lines (drop at book) ≡ bytes ∷ lines (drop (at + length bytes) book)
      → {k : Recorded} {n used : ℕ} {tb ts : List ℕ} → Reached language book N L s k at n used tb ts → (b : ℕ) {p : PassedPiece} {b' : ℕ} → check_piece language (state_of k) (limits_of N L s) bytes b ≡ done p b'
      → (n' used' : ℕ) × (tb' ts' : List ℕ) × Reached language book N L s (after_piece k at p) (at + length bytes) n' used' tb' ts'
  unfolding joined after_piece
  one_reached bytes more front at e q cut {k} h b x = go (piece_passed language (state_of k) (limits_of N L s) bytes b x)
    where
      long : length book ≡ length front + (length bytes + length (joined more))
      long = ap length q ∙ length-append front (bytes ++ joined more) ∙ ap (λ (x : ℕ). length front + x) (length-append bytes (joined more))

      go : {p : PassedPiece} {b' : ℕ} → PassedBy language (state_of k) (limits_of N L s) bytes b p b'
          → (n' used' : ℕ) × (tb' ts' : List ℕ) × Reached language book N L s (after_piece k at p) (at + length bytes) n' used' tb' ts'
      go (opening_passed t i) = (_, _, _, _, reached_elsewhere h (at + length bytes) bytes cut _ (opening_piece language (state_of k) bytes b i))
      go (closing_passed t u i) = (_, _, _, _, reached_elsewhere h (at + length bytes) bytes cut _ (closing_piece language (state_of k) bytes b i))
      go (line_passed {p} {b'} t u i) =
          let (r, room) = passed_read language (state_of k) (limits_of N L s) bytes b (right_contexts h.derived) i in
          let is : bytes ≡ slice at (at + length bytes) book = sym (ap (λ (y : Bytes). slice at (at + length bytes) y) q ∙ piece_at at front bytes (joined more) e) in
          let z = long in (
            _,
            _,
            _,
            _,
            reached_more h (at + length bytes) bytes cut p (omega arith) (omega arith) is r (room_is k.recorded (limits_of N L s) p.line room) b b' i,
          )

  end_reached : {k : Recorded} {at n used : ℕ} {tb ts : List ℕ} → Reached language book N L s k at n used tb ts → (b : ℕ) (os : List Opened) → ReachedAt (at_end language (limits_of N L s) k b os)
  unfolding at_end recorded_at table_end terms_end
  end_reached {at = at} h b [] = (at, settled h)
  end_reached {at = at} h b (o ∷ os) = (at, settled h)

  lines_reached : (pieces : List Bytes) → Pieces pieces → (front : Bytes) (at : ℕ) → at ≡ length front → book ≡ front ++ joined pieces
      → (k : Recorded) (n used : ℕ) (tb ts : List ℕ) → Reached language book N L s k at n used tb ts → (b : ℕ) → ReachedAt (check_lines language (limits_of N L s) k at b pieces)
  unfolding check_lines joined recorded_at table_end terms_end
  lines_reached [] P front at e q k n used tb ts h b = end_reached h b k.place.opened
  lines_reached (bytes ∷ more) P front at e q k n used tb ts h b = go (lines_reached more (pieces_behind P)) (check_piece language (state_of k) (limits_of N L s) bytes b) refl
    where
      behind : book ≡ front ++ bytes ++ joined more
      behind = q ∙ sym (append_assoc front bytes (joined more))

      cut : lines (drop at book) ≡ bytes ∷ lines (drop (at + length bytes) book)
      cut =
          ap lines (ap (drop at) q ∙ drop_at front (bytes ++ joined more) at (sym e))
          ∙ lines_of_pieces P
          ∙ ap (◌∷◌ bytes)
          (sym (ap lines (ap (drop (at + length bytes)) behind ∙ drop_at (front ++ bytes) (joined more) (at + length bytes) (omega (arith, length-append front bytes)))
          ∙ lines_of_pieces (pieces_behind P)))

      go : ((front : Bytes) (at : ℕ) → at ≡ length front → book ≡ front ++ joined more → (k : Recorded) (n used : ℕ) (tb ts : List ℕ) → Reached language book N L s k at n used tb ts → (b : ℕ)
          → ReachedAt (check_lines language (limits_of N L s) k at b more))
          → (x : Answer ℕ PassedPiece) → check_piece language (state_of k) (limits_of N L s) bytes b ≡ x
          → ReachedAt (elim x [
            | done p b' ↦ check_lines language (limits_of N L s) (after_piece k at p) (at + length bytes) b' more
            | stop r b' ↦ refused_at r (suc (length k.recorded)) (N - b') k
          ])
      go ih (done p b') x =
          let (n', used', tb', ts', next) = one_reached bytes more front at e q cut h b x in
          ih (front ++ bytes) (at + length bytes) (omega (arith, length-append front bytes)) behind _ n' used' tb' ts' next b'
      go ih (stop r b') x = (at, settled h)

  pub run_reached : ReachedAt (run language book (limits_of N L s))
  unfolding recorded_at table_end terms_end nothing over table_of terms_of rows_from
  run_reached = go (run_starts language book (limits_of N L s))
    where
      early : {e : Ending} → Early language e → ReachedAt e
      early (unfit q) = (0, reached_nothing language book N L s)
      early too_long = (0, reached_nothing language book N L s)

      go : Early language (run language book (limits_of N L s)) ⊎ Admitted language book (limits_of N L s) → ReachedAt (run language book (limits_of N L s))
      go (inl e) = early e
      go (inr a) =
          rw (run_admitted language book (limits_of N L s) a)
          (lines_reached (lines book) (lines_pieces book) [] 0 refl (sym (lines_joined book)) _ _ _ _ _ (reached_nothing language book N L s) N)
