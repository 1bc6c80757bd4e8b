-- What a function's code and budget say of the procedure's answer.
use Rattle.std.specs.Prelude.{◌≡◌, ◌≢◌, ℕ}
use Rattle.std.proofs.Common.{sym, ◌∙◌}
use Rattle.aut68.specs.Procedure.Answer.{Answer, done, stop, and_then, Act, Refusal, code_of}
use Rattle.lookup.specs.Answers.{code_nonzero}

-- Code 0 where the procedure goes on with a value, of which R holds; else the code of its refusal. What is left (of the budget) is
-- the procedure's in both cases.
pub data Result {S A : Type 0} (R : A → Type 0) (code : ℕ) (rest : S) : Answer S A → Type 0 where
  passed : {a : A} → code ≡ 0 → R a → Result R code rest (done a rest)
  refused : {r : Refusal} → code ≡ code_of r → Result R code rest (stop r rest)

module _ {S A B : Type 0} {R : A → Type 0} {Q : B → Type 0} {code : ℕ} {rest : S} (f : A → Act S B) where
  -- what comes after a refusal is that refusal
  pub then_refused : {m : Answer S A} → code ≢ 0 → Result R code rest m → Result Q code rest (and_then f m)
  unfolding and_then
  then_refused n (passed e h) = absurd (n e)
  then_refused n (refused e) = refused e

  -- what comes after a value goes on from it
  pub then_passed : {m : Answer S A} {code' : ℕ} {rest' : S} → code ≡ 0 → Result R code rest m
      → ((a : A) → R a → Result Q code' rest' (f a rest)) → Result Q code' rest' (and_then f m)
  unfolding and_then
  then_passed z (passed {a} e h) g = g a h
  then_passed z (refused {r} e) g = absurd (code_nonzero r (sym e ∙ z))

-- less may be said of the value
pub result_map : {S A : Type 0} {R Q : A → Type 0} {code : ℕ} {rest : S} {m : Answer S A} → ((a : A) → R a → Q a) → Result R code rest m → Result Q code rest m
result_map f (passed {a} e h) = passed e (f a h)
result_map f (refused e) = refused e
