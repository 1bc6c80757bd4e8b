-- What a line rests on, told from the stores that the admission left.
use mathlib.Core.Path.{◌≡◌, refl, sym, ap, ◌∙◌}
use mathlib.Core.Logic.{◌⊎◌, inl, inr}
use mathlib.Core.List.{List, ◌++◌}
use Prim.Native.Nat.{ℕ, ◌*◌, ◌≤◌, ◌<◌}
use native.Mathlib.Omega.{arith}
use lib.ListN.{length, take, drop, replicate, take-append-drop}
use Rattle.aut68.specs.Language.{aut68}
use Rattle.aut68.specs.Sizes.{work_units}
use Rattle.aut68.specs.Stores.{Stores, stores, limits_of}
use Rattle.aut68.specs.Bytes.{Bytes}
use Rattle.aut68.specs.Procedure.Calls.{decline_code, no_such_line, answer_too_long}
use Rattle.aut68.specs.Procedure.Run.{Ending, run, recorded_at}
use Rattle.aut68.specs.Demands.{Determined}
use Rattle.aut68.specs.Admission.{too_long, written}
use Rattle.aut68.specs.Resting.{no_line, told, TellsRests}
use Rattle.lookup.specs.Following.{named_before}
use Rattle.lookup.specs.Runs.{verdict_admitted}
use Rattle.records.specs.OnRecord.{on_record}
use Rattle.reaching.specs.Posts.{Answered, BeneathPost}
use Rattle.theorems.proofs.Admission.{verdict, last_line, front_zeros, front_long, lines_held}
use Rattle.theorems.proofs.Resting.{tells_rests}

module _ (book : Bytes) (N L : ℕ) (s : Stores) {code line steps : ℕ} {tb ts w ix : List ℕ}
    (d : Determined (run aut68 book (limits_of N L s)) L s code line steps (stores tb ts w ix)) (accept : code ≡ 0) where
  abbrev ending : Ending
  ending = run aut68 book (limits_of N L s)

  -- the reported line is the last one
  here : line ≡ length (recorded_at ending).recorded
  here = last_line aut68 book N L s d accept

  -- there is no such line
  pub tells_no_line : {v : ℕ} {old : List ℕ} → (v ≡ 0) ⊎ (line < v) → TellsRests aut68 book N L s v old (decline_code no_such_line) 0 0 0 (stores tb ts w ix) old
  tells_no_line {v} {old} h = tells_rests aut68 book N L s d accept (no_line (at h) refl refl refl)
    where
      at : (v ≡ 0) ⊎ (line < v) → (v ≡ 0) ⊎ (length (recorded_at ending).recorded < v)
      at (inl z) = inl z
      at (inr l) = inr (omega (arith, here))

  module _ {v count : ℕ} {old w' new : List ℕ} (first : 1 ≤ v) (last : v ≤ line) (post : BeneathPost tb ts v (take (work_units * L) w) old count w' new) where
    -- the marks are gone
    work_same : w' ++ drop (work_units * L) w ≡ w
    work_same =
        ap (λ (x : List ℕ). x ++ drop (work_units * L) w) (post.zeros ∙ ap (λ (n : ℕ). replicate n 0) (front_long aut68 book N L s d accept))
        ∙ ap (λ (x : List ℕ). x ++ drop (work_units * L) w) (sym (front_zeros aut68 book N L s d accept))
        ∙ take-append-drop (work_units * L) w

    answer_is : Answered (recorded_at ending).recorded v old count new
    answer_is =
        let v = verdict aut68 book N L s d accept in
        let a = (verdict_admitted aut68 book (limits_of N L s) v).at_least in
        let held = lines_held aut68 book N L s d accept in
        let few = held.few in
        let e = here in
        let long = front_long aut68 book N L s d accept in
        post.answered (recorded_at ending).recorded
        (record {
          rows = held.rows;
          stored = held.stored;
          before = named_before (on_record aut68 book N L s v).derived;
          positive = first;
          within = omega arith;
          room = omega (arith, long);
        })
        (front_zeros aut68 book N L s d accept ∙ ap (λ (n : ℕ). replicate n 0) (sym long))

    -- with the stores as the admission left them
    stores_same : stores tb ts (w' ++ drop (work_units * L) w) ix ≡ stores tb ts w ix
    stores_same = ap (λ (x : List ℕ). stores tb ts x ix) work_same

    pub tells_too_long : length old < count → TellsRests aut68 book N L s v old (decline_code answer_too_long) 0 0 0 (stores tb ts (w' ++ drop (work_units * L) w) ix) new
    tells_too_long h =
        let t = answer_is in
        let e = t.count_is in
        rw stores_same
        (tells_rests aut68 book N L s d accept (told t.list first (omega (arith, here)) t.rests_on (too_long (omega arith) refl refl (t.untouched (omega arith)))))

    pub tells_list : count ≤ length old → {k : ℕ} → k ≡ count → TellsRests aut68 book N L s v old 0 0 0 k (stores tb ts (w' ++ drop (work_units * L) w) ix) new
    tells_list h q =
        let t = answer_is in
        let e = t.count_is in
        rw stores_same
        (tells_rests aut68 book N L s d accept (told t.list first (omega (arith, here)) t.rests_on (written (omega arith) refl (q ∙ e) (t.written (omega arith)))))
