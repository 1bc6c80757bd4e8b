-- Answers: what may be said of them, and the line of a name at hand.
use Rattle.std.specs.Prelude.{◌≡◌, refl, ℕ}
use Rattle.aut68.specs.Procedure.Answer.{Act, Answer, done, and_then}
use Rattle.aut68.specs.Lines.{Line, Lines}
use Rattle.aut68.specs.Rules.Names.{IsLine}
use Rattle.aut68.specs.Procedure.Category.{the_line}
use Rattle.calculus.specs.Actions.{the_line_lem}
use Rattle.cells.specs.Results.{Result, passed, refused}

-- what follows from the value's being the answer may be said of it too
pub result_and : {A : Type 0} {R Q : A → Type 0} {code rest : ℕ} {m : Answer ℕ A} → Result R code rest m → ((a : A) → m ≡ done a rest → Q a)
    → Result (λ a. R a × Q a) code rest m
result_and (passed {a} e h) q = passed e (h, q a refl)
result_and (refused e) q = refused e

-- with the line of a name at hand
pub at_line : {B : Type 0} {Q : B → Type 0} {code rest : ℕ} {ls : Lines} {v : ℕ} {l : Line} (f : Line → Act ℕ B) (b : ℕ) → IsLine ls v l
    → Result Q code rest (f l b) → Result Q code rest (and_then f (the_line ls v b))
unfolding and_then
at_line f b i h = rw (the_line_lem i b) h
