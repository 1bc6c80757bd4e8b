-- Larger limits in lines and books: what a check gives or refuses by a verdict it does with any larger budget and limit, in both languages.
use Rattle.std.specs.Prelude.{◌≡◌, Bool, length}
use Rattle.std.proofs.Math.Path.{refl, ap}
use Rattle.std.proofs.Common.{sym, ◌∙◌, subst}
use Rattle.std.proofs.Math.Bool.{true, false}
use mathlib.Core.List.{List, [], ◌∷◌}
use Prim.Native.Nat.{ℕ, suc, ◌+◌, ◌-◌, ◌≤◌}
use native.Mathlib.Omega.{arith}
use Rattle.aut68.specs.Language.{Language}
use Rattle.aut68.specs.Sizes.{smallest_limit}
use Rattle.aut68.specs.Stores.{Stores, Limits, Larger}
use Rattle.aut68.specs.Bytes.{Bytes, same_bytes, lines}
use Rattle.aut68.specs.Paragraphs.{Opened, State}
use Rattle.aut68.specs.Procedure.Answer.{Answer, stop, aside, done, out_of_space, duplicate, unbalanced}
use Rattle.aut68.specs.Procedure.CheckLine.{read_line, store, check_line}
use Rattle.aut68.specs.Procedure.CheckPiece.{PassedPiece, check_opening, closing, check_closing, check_piece}
use Rattle.aut68.specs.Procedure.Run.{Recorded, state_of, Ending, accepted, refused_at, code_at, line_at, steps_at, table_end, terms_end, index_end, at_end, check_lines, nothing, run}
use Rattle.aut68.specs.Demands.{Verdict, SameResult, Admitted}
use Rattle.lookup.specs.Runs.{run_admitted, verdict_admitted, verdict_decides}
use Rattle.lookup.specs.Answers.{Decides, Kept, Grows, grows_give, grows_refuse, grows_then, grows_ensure, grows_test, grows_aside}
use Rattle.lookup.specs.Answers.{space_undecided, stays_same, stays_then, stays_size}
use Rattle.reading.specs.PieceKinds.{PieceKind, an_opening, a_closing, ordinary, kind_of, opening_checked, closing_checked, ordinary_checked}
use Rattle.lookup.specs.Tests.{larger_within, larger_middle_within, larger_room}
use Rattle.orders.specs.Growing.{grows_categories}

module _ (language : Language) (st : State) where
  grows_read : {L L' : ℕ} → L ≤ L' → (bytes : Bytes) → Grows (aside (read_line language st L bytes tt)) (aside (read_line language st L' bytes tt))
  unfolding read_line
  grows_read hL bytes =
      grows_aside
      (stays_then stays_same λ r _.
      stays_then stays_same λ v _.
      stays_then stays_same λ _ _.
      stays_then stays_same λ k _.
      stays_then stays_same λ c _.
      stays_then (stays_size _ _ _ (larger_middle_within hL k)) λ _ _.
      stays_then (stays_size _ _ _ (larger_within hL c)) λ _ _.
      stays_same)

  -- a line, the table, the shelf and the index being as long
  grows_line : (m m' : Limits) → Larger m m' → (bytes : Bytes) → Grows (check_line language st m bytes) (check_line language st m' bytes)
  unfolding check_line store
  grows_line m m' h bytes =
      grows_then (grows_read h.limit bytes) λ p.
      grows_then (grows_test out_of_space space_undecided _ _ (larger_room h st.earlier p.line)) λ _.
      grows_then (grows_categories language st.earlier h.limit p.line) λ _.
      grows_give

  -- ---- paragraph lines, in which no limit plays a part

  grows_opening : (bytes : Bytes) → Grows (check_opening language st bytes) (check_opening language st bytes)
  unfolding check_opening
  grows_opening bytes = grows_then (grows_aside stays_same) λ p. grows_then (grows_ensure _ duplicate) λ _. grows_then (grows_ensure _ out_of_space) λ _. grows_give

  grows_close : (p : Bytes) → Grows (closing p st.place) (closing p st.place)
  unfolding closing
  grows_close p = at st.place.opened refl
    where
      named : (o : Opened) (os : List Opened) → st.place.opened ≡ o ∷ os → (t : Bool) → same_bytes p o.name ≡ t → Grows (closing p st.place) (closing p st.place)
      named o os e true q = rw (e, q, closing) grows_give
      named o os e false q = rw (e, q, closing) grows_refuse

      at : (os : List Opened) → st.place.opened ≡ os → Grows (closing p st.place) (closing p st.place)
      at [] e = rw (e, closing) grows_refuse
      at (o ∷ os) e = named o os e (same_bytes p o.name) refl

  grows_closing : (bytes : Bytes) → Grows (check_closing language st bytes) (check_closing language st bytes)
  unfolding check_closing
  grows_closing bytes = grows_then (grows_aside stays_same) grows_close

  -- a line of either kind
  grows_piece : (m m' : Limits) → Larger m m' → (bytes : Bytes) → Grows (check_piece language st m bytes) (check_piece language st m' bytes)
  grows_piece m m' h bytes = at (kind_of bytes)
    where
      at : PieceKind bytes → Grows (check_piece language st m bytes) (check_piece language st m' bytes)
      at (an_opening e) = rw (opening_checked language st m bytes e, opening_checked language st m' bytes e) (grows_then (grows_opening bytes) (λ _. grows_give))
      at (a_closing e f) = rw (closing_checked language st m bytes e f, closing_checked language st m' bytes e f) (grows_then (grows_closing bytes) (λ _. grows_give))
      at (ordinary n) = rw (ordinary_checked language st m bytes n, ordinary_checked language st m' bytes n) (grows_then (grows_line m m' h bytes) (λ _. grows_give))

-- ---- books

-- equal endings give equal results
pub same_result : {e e' : Ending} (s : Stores) → e' ≡ e → SameResult e e' s
same_result s q =
    record {
      code = ap code_at q;
      line = ap line_at q;
      steps = ap steps_at q;
      table_cells = ap (λ x. table_end x s.table) q;
      terms_cells = ap (λ x. terms_end x s.terms) q;
      index_cells = ap (λ x. index_end x s.index) q;
    }

module _ (language : Language) where
  module _ {m m' : Limits} (h : Larger m m') (d : ℕ) (more : m'.budget ≡ m.budget + d) where
    end_same : (os : List Opened) (k : Recorded) (b c : ℕ) → m'.budget - c ≡ m.budget - b → at_end language m' k c os ≡ at_end language m k b os
    unfolding at_end
    end_same [] k b c q = ap (λ n. accepted n k) q
    end_same (o ∷ os) k b c q = ap (λ n. refused_at unbalanced (suc (length k.recorded)) n k) q

    lines_same : (pieces : List Bytes) (k : Recorded) (at b c : ℕ) → c ≡ b + d
        → Verdict (check_lines language m k at b pieces)
        → check_lines language m' k at c pieces ≡ check_lines language m k at b pieces
    unfolding check_lines
    lines_same [] k at b c e v = end_same k.place.opened k b c (omega arith)
    lines_same (bytes ∷ rest) k at b c e v =
        go (check_piece language (state_of k) m bytes b) refl ((grows_piece language (state_of k) m m' h bytes).kept b c d e) v
        (lines_same rest)
      where
        go : (x : Answer ℕ PassedPiece) → check_piece language (state_of k) m bytes b ≡ x
            → Kept d x (check_piece language (state_of k) m' bytes c)
            → Verdict (check_lines language m k at b (bytes ∷ rest))
            → ((k : Recorded) (at b c : ℕ) → c ≡ b + d → Verdict (check_lines language m k at b rest) → check_lines language m' k at c rest ≡ check_lines language m k at b rest)
            → check_lines language m' k at c (bytes ∷ rest) ≡ check_lines language m k at b (bytes ∷ rest)
        go (done p b') q h v ih = rw (q, h, check_lines) (ih _ _ b' (b' + d) refl (rw (q, check_lines) at v))
        go (stop r b') q h v ih =
            let w : Decides r = verdict_decides r _ _ _ (rw (q, check_lines) at v) in
            let n : m'.budget - (b' + d) ≡ m.budget - b' = omega arith in
            rw (q, h w, check_lines) (ap (λ n. refused_at r (suc (length k.recorded)) n k) n)

  -- a verdict is the same ending under larger limits
  pub same_ending_lem : (book : Bytes) (m m' : Limits) → Larger m m' → Verdict (run language book m) → run language book m' ≡ run language book m
  same_ending_lem book m m' h v =
      let a = verdict_admitted language book m v in
      let l : smallest_limit ≤ m'.limit = (let p = a.at_least in let q = h.limit in omega arith) in
      let a' : Admitted language book m' = record { at_least = l; at_most = h.permitted; enough = h.enough; short = a.short } in
      let e = run_admitted language book m a in
      let k : m'.budget ≡ m.budget + (m'.budget - m.budget) = (let n = h.budget in omega arith) in
      run_admitted language book m' a'
      ∙ lines_same h (m'.budget - m.budget) k (lines book) nothing 0 m.budget m'.budget k (subst Verdict e v)
      ∙ sym e
