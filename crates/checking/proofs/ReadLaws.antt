-- A line that is read: what the procedure goes on with.
use mathlib.Core.Path.{◌≡◌, refl, sym, ◌∙◌}
use mathlib.Core.Logic.{◌≢◌}
use mathlib.Core.Bool.{true, false}
use Prim.Native.Nat.{ℕ}
use Rattle.aut68.specs.Language.{Language}
use Rattle.aut68.specs.Stores.{Limits}
use Rattle.aut68.specs.Bytes.{Bytes}
use Rattle.aut68.specs.Paragraphs.{State}
use Rattle.aut68.specs.Procedure.Answer.{Answer, done, stop, give, aside, and_then, ensure, Refusal, code_of, out_of_space}
use Rattle.aut68.specs.Procedure.Resolve.{found}
use Rattle.aut68.specs.Procedure.Resolve as Resolve
use Rattle.aut68.specs.Procedure.CheckLine.{Passed, read_line, room, store, check_categories, check_line}
use Rattle.lookup.specs.Answers.{code_nonzero}
use Rattle.cells.specs.Results.{Result, passed, refused}

-- ---- what a result says

module _ {S A : Type 0} {R : A → Type 0} {code : ℕ} {rest : S} where
  pub result_done : {m : Answer S A} → code ≡ 0 → Result R code rest m → (a : A) × (m ≡ done a rest) × R a
  result_done z (passed {a} e h) = (a, refl, h)
  result_done z (refused {r} e) = absurd (code_nonzero r (sym e ∙ z))

  pub result_stop : {m : Answer S A} → code ≢ 0 → Result R code rest m → (r : Refusal) × (m ≡ stop r rest) × (code ≡ code_of r)
  result_stop n (passed e h) = absurd (n e)
  result_stop n (refused {r} e) = (r, refl, e)

-- ---- what the procedure goes on with

module _ (language : Language) (st : State) (m : Limits) (bytes : Bytes) (b : ℕ) where
  -- refused by the reading
  pub not_read : {r : Refusal} → read_line language st m.limit bytes tt ≡ Resolve.refused r → check_line language st m bytes b ≡ stop r b
  unfolding check_line aside and_then
  not_read e = rw e refl

  -- refused for want of room
  pub no_room : {p : Passed} → read_line language st m.limit bytes tt ≡ found p → room st.earlier m p.line ≡ false → check_line language st m bytes b ≡ stop out_of_space b
  unfolding check_line store aside and_then ensure
  no_room e f = rw (e, f) refl

  -- decided by the categories
  pub by_categories : {p : Passed} → read_line language st m.limit bytes tt ≡ found p → room st.earlier m p.line ≡ true
      → check_line language st m bytes b ≡ and_then (λ _. give p) (check_categories language st.earlier m.limit p.line b)
  unfolding check_line store aside and_then ensure
  by_categories e f = rw (e, f) refl
