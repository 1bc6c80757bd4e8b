-- How a book ends: refused ahead of its lines, or as its lines do.
use mathlib.Core.Path.{◌≡◌, refl, sym, ap, ◌∙◌}
use mathlib.Core.Logic.{◌≢◌}
use mathlib.Core.Bool.{Bool, true, false}
use mathlib.Core.List.{List, ◌++◌}
use Prim.Native.Nat.{ℕ, ◌+◌, ◌-◌, ◌*◌, ◌≤◌, ◌<◌}
use native.Mathlib.Omega.{arith}
use lib.ListN.{length, drop, replicate, length-append, length-drop, length-replicate}
use lib.Seq.{drop_at}
use lib.Dec.{eqb}
use borrow.Author.Tests.{le-leb, lt-leb, eqb-true, eqb-false}
use Rattle.aut68.specs.Language.{Language}
use Rattle.aut68.specs.Sizes.{smallest_limit, largest_limit, work_units, book_limit}
use Rattle.aut68.specs.Stores.{Stores, stores, Limits, limits_of}
use Rattle.aut68.specs.Bytes.{Bytes, lines}
use Rattle.aut68.specs.Lines.{table_of, rows_from, terms_of}
use Rattle.aut68.specs.Index.{index_of}
use Rattle.aut68.specs.Procedure.Answer.{Refusal, code_of, work_too_small, limit_out_of_range, out_of_space}
use Rattle.aut68.specs.Procedure.Run.{Recorded, state_of, Ending, turned_away, refused_at, nothing, check_lines, run, over, code_at, line_at, steps_at, recorded_at, table_end, terms_end, work_end, index_end}
use Rattle.aut68.specs.Demands.{Determined}
use Rattle.lookup.specs.Runs.{LinesEnd, all_pass, left_open, one_stops, lines_end, run_admitted}
use Rattle.cells.specs.Posts.{cleared}
use Rattle.books.specs.Loop.{LinesPost}

module _ (language : Language) (book : Bytes) (N L : ℕ) (s : Stores) where
  abbrev limits : Limits
  limits = limits_of N L s

  abbrev result : Ending
  result = run language book limits

  abbrev of_lines : Ending
  of_lines = check_lines language limits nothing 0 N (lines book)

  -- an ending at which nothing is recorded
  ends : {e : Ending} {w' : List ℕ} → result ≡ e → recorded_at e ≡ nothing → w' ≡ work_end L e s.work
      → Determined result L s (code_at e) (line_at e) (steps_at e) (stores s.table s.terms w' s.index)
  unfolding table_end terms_end index_end nothing over table_of terms_of rows_from index_of
  ends {e} q n h =
      record {
        code_is = sym (ap code_at q);
        line_is = sym (ap line_at q);
        steps_are = sym (ap steps_at q);
        table_is = sym (ap (λ x. table_end x s.table) q ∙ ap (λ (k : Recorded). over (table_of k.firsts k.recorded) s.table) n);
        terms_are = sym (ap (λ x. terms_end x s.terms) q ∙ ap (λ (k : Recorded). over (terms_of k.recorded) s.terms) n);
        work_is = h ∙ sym (ap (λ x. work_end L x s.work) q);
        index_is = sym (ap (λ x. index_end x s.index) q ∙ ap (λ (k : Recorded). over (index_of k.recorded) s.index) n);
      }

  -- refused ahead of the lines
  abbrev EndsEarly : Refusal → List ℕ → Type 0
  EndsEarly r w' = Determined result L s (code_of r) 0 0 (stores s.table s.terms w' s.index)

  away : {r : Refusal} → result ≡ turned_away r → EndsEarly r s.work
  unfolding code_at line_at steps_at recorded_at work_end
  away {r} q = ends {e = turned_away r} q refl refl

  pub low_limit : L < smallest_limit → EndsEarly limit_out_of_range s.work
  unfolding run
  low_limit h = away (rw (lt-leb smallest_limit L h, run) refl)

  pub high_limit : largest_limit < L → smallest_limit ≤ L → EndsEarly limit_out_of_range s.work
  unfolding run
  high_limit h k = away (rw (le-leb smallest_limit L k, lt-leb L largest_limit h, run) refl)

  module _ (low : smallest_limit ≤ L) (high : L ≤ largest_limit) where
    pub little_work : length s.work < work_units * L → EndsEarly work_too_small s.work
    unfolding run
    little_work h = away (rw (le-leb smallest_limit L low, le-leb L largest_limit high, lt-leb (work_units * L) (length s.work) h, run) refl)

    module _ (enough : work_units * L ≤ length s.work) where
      abbrev zeros : List ℕ
      zeros = replicate (work_units * L) 0

      cleared_over : (x : List ℕ) → length x ≡ length s.work → drop (work_units * L) x ≡ drop (work_units * L) s.work → cleared (work_units * L) x ≡ over zeros s.work
      unfolding cleared over
      cleared_over x l d =
          rw (le-leb (work_units * L) (length x) (omega arith), cleared)
          (ap (λ (k : ℕ). zeros ++ drop k x) (length-replicate (work_units * L) 0)
          ∙ ap (λ (y : List ℕ). zeros ++ y) d
          ∙ sym (ap (λ (k : ℕ). zeros ++ drop k s.work) (length-replicate (work_units * L) 0)))

      pub long_book : {w' : List ℕ} → book_limit < length book → w' ≡ cleared (work_units * L) s.work → EndsEarly out_of_space w'
      unfolding run code_at line_at steps_at recorded_at work_end
      long_book h e =
          ends {e = refused_at out_of_space 0 0 nothing}
          (rw (le-leb smallest_limit L low, le-leb L largest_limit high, le-leb (work_units * L) (length s.work) enough, lt-leb (length book) book_limit h, run) refl) refl
          (e ∙ cleared_over s.work refl refl)

      -- where the lines were looked at the working store ends as zeros
      lines_clear : {e : Ending} → LinesEnd language limits (state_of nothing) N (lines book) e → work_end L e s.work ≡ over zeros s.work
      unfolding work_end
      lines_clear (all_pass x o) = refl
      lines_clear (left_open x o) = refl
      lines_clear (one_stops past bytes rest q x f) = refl

      -- the lines were checked, with the units of the working store lent
      pub ended : {code n rest line steps : ℕ} {tb' ts' w' ix' : List ℕ} (front : List ℕ) → length book ≤ book_limit
          → LinesPost of_lines N s.table s.terms s.index code n rest tb' ts' ix'
          → (code ≡ 0 → line ≡ n) → (code ≢ 0 → line ≡ n + 1) → steps ≡ N - rest
          → length front ≡ work_units * L → w' ≡ cleared (work_units * L) (front ++ drop (work_units * L) s.work)
          → Determined result L s code line steps (stores tb' ts' w' ix')
      unfolding nothing
      ended {code} {line = line} front short post zero more taken long work =
          let q : result ≡ of_lines = run_admitted language book limits (record { at_least = low; at_most = high; enough = enough; short = short }) in
          let tail : List ℕ = drop (work_units * L) s.work in
          record {
            code_is = post.code_is ∙ sym (ap code_at q);
            line_is = line_is_lem (eqb code 0) refl ∙ sym (ap line_at q);
            steps_are = taken ∙ post.steps_are ∙ sym (ap steps_at q);
            table_is = post.table_is ∙ sym (ap (λ x. table_end x s.table) q);
            terms_are = post.terms_are ∙ sym (ap (λ x. terms_end x s.terms) q);
            index_is = post.index_is ∙ sym (ap (λ x. index_end x s.index) q);
            work_is =
                work
                ∙ cleared_over (front ++ tail) (omega (arith, long, length-append front tail, length-drop (work_units * L) s.work)) (drop_at front tail (work_units * L) long)
                ∙ sym (ap (λ x. work_end L x s.work) q ∙ lines_clear (lines_end language limits (lines book) nothing 0 N));
          }
        where
          line_is_lem : (t : Bool) → eqb code 0 ≡ t → line ≡ line_at of_lines
          line_is_lem true z = zero (eqb-true code 0 z) ∙ post.accepted_line (eqb-true code 0 z)
          line_is_lem false z = more (eqb-false code 0 z) ∙ post.refused_line (eqb-false code 0 z)
