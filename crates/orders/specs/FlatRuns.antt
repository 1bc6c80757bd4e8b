-- How a run goes through pieces none of which begins with a sign.
use Rattle.std.specs.Prelude.{◌≡◌, false, List, [], ◌∷◌, ◌++◌}
use Rattle.std.proofs.Math.Path.{ap}
use Rattle.std.proofs.Common.{sym, subst}
use Prim.Native.Nat.{ℕ, suc, ◌+◌}
use native.Mathlib.Omega.{arith}
use Rattle.std.proofs.Math.ListN.{length, length-append}
use Rattle.aut68.specs.Language.{Language}
use Rattle.aut68.specs.Stores.{Limits}
use Rattle.aut68.specs.Bytes.{Bytes}
use Rattle.aut68.specs.Paragraphs.{State}
use Rattle.aut68.specs.Rules.Grammar.{IsSign}
use Rattle.aut68.specs.Rules.Names.{Member, here, there}
use Rattle.aut68.specs.Procedure.Answer.{Act, done, stop, Refusal}
use Rattle.aut68.specs.Procedure.Parse.{signed}
use Rattle.aut68.specs.Procedure.CheckLine.{Passed, check_line}
use Rattle.aut68.specs.Procedure.CheckPiece.{PassedPiece, passed_line, check_piece}
use Rattle.lookup.specs.Answers.{stop≢done, done_value, after, stopped}
use Rattle.lookup.specs.Runs.{next_state, Passes, none_passes, one_passes}
use Rattle.reading.specs.PieceKinds.{ordinary_checked}

-- the bytes do not begin with a sign
abbrev pub NoSign : Bytes → Type 0
NoSign bytes = (s : ℕ) → IsSign s → signed s bytes ≡ false

module _ (language : Language) (m : Limits) where
  -- what passes is a line
  ordinary_passed : (st : State) (bytes : Bytes) (b : ℕ) {p : PassedPiece} {b' : ℕ} → NoSign bytes → check_piece language st m bytes b ≡ done p b' → (q : Passed) × (p ≡ passed_line q)
  ordinary_passed st bytes b {p} {b'} n h =
      after _ _ (subst (λ (f : Act ℕ PassedPiece). f b ≡ done p b') (ordinary_checked language st m bytes n) h) λ q c e₁ h₁. (q, sym (done_value h₁))

  -- what is refused is refused as a line
  pub ordinary_stopped : (st : State) (bytes : Bytes) (b : ℕ) {r : Refusal} {b' : ℕ} → NoSign bytes → check_piece language st m bytes b ≡ stop r b' → check_line language st m bytes b ≡ stop r b'
  ordinary_stopped st bytes b {r} {b'} n h =
      stopped _ _ (subst (λ (f : Act ℕ PassedPiece). f b ≡ stop r b') (ordinary_checked language st m bytes n) h) (λ e. e) (λ q c e₁ h₁. absurd (stop≢done (sym h₁)))

  -- as many lines as pieces
  pub flat_passes : {st all : State} {b c : ℕ} {pieces : List Bytes} → ((x : Bytes) → Member x pieces → NoSign x) → Passes language m st b pieces all c
      → length all.earlier ≡ length st.earlier + length pieces
  unfolding next_state
  flat_passes n none_passes = omega arith
  flat_passes n (one_passes {st} {all} {b} {bytes = bytes} {more} {p} e h) = at (ordinary_passed st bytes b (n bytes here) e) (flat_passes (λ x i. n x (there i)) h)
    where
      at : (q : Passed) × (p ≡ passed_line q) → length all.earlier ≡ length (next_state st p).earlier + length more → length all.earlier ≡ length st.earlier + suc (length more)
      at (q, x) k =
          let i : length (next_state st p).earlier ≡ length (st.earlier ++ (q.line ∷ [])) = ap (λ z. length (next_state st z).earlier) x in
          let j = length-append st.earlier (q.line ∷ []) in
          omega arith
