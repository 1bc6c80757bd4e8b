-- What is claimed of the two comparisons of AUT-68, as types: of any two expressions, correct or not, over the lines of a book.
use Rattle.std.specs.Prelude.{◌≡◌, ◌⊎◌, ◌≢◌, List, ℕ, ◌-◌, ◌≤◌}
use Rattle.aut68.specs.Language.{aut68}
use Rattle.aut68.specs.Bytes.{Bytes}
use Rattle.aut68.specs.Expr.{Expr}
use Rattle.aut68.specs.Lines.{Lines}
use Rattle.aut68.specs.Paragraphs.{State, start}
use Rattle.aut68.specs.Rules.Steps.{Equal}
use Rattle.aut68.specs.Rules.Derivation.{Derived}
use Rattle.aut68.specs.Procedure.Answer.{done, stop, code_in, rest_in, code_of, mismatch, too_large, out_of_budget}
use Rattle.aut68.specs.Procedure.Compare.{Comparison, compare}
use Rattle.aut68.specs.Procedure.PartsFirst.{parts_first}

-- A comparison under each limit. What it calls equal has a common expression, what it calls different has none; it ends in no other
-- way than these, 10 and 11.
pub record FindsEquality (ls : Lines) (compares : ℕ → Comparison) : Type 0 where
  pub equal : (L N b : ℕ) (l r : Expr) → compares L l r N ≡ done tt b → Equal ls l r
  pub different : (L N b : ℕ) (l r : Expr) → compares L l r N ≡ stop mismatch b → ¬ Equal ls l r
  pub codes : (L N : ℕ) (l r : Expr)
      → (code_in (compares L l r N) ≡ 0) ⊎ ((code_in (compares L l r N) ≡ code_of mismatch) ⊎ ((code_in (compares L l r N) ≡ code_of too_large) ⊎ (code_in (compares L l r N) ≡ code_of out_of_budget)))

-- the code of a comparison that neither size nor budget stopped
abbrev pub Ends : ℕ → Type 0
Ends code = (code ≢ 10) × (code ≢ 11)

-- under a larger budget and limit the same answer, with the same steps: the budget less what is left of it
pub record KeepsAnswers (compares : ℕ → Comparison) : Type 0 where
  pub kept : (L L' N N' : ℕ) (l r : Expr) → L ≤ L' → N ≤ N' → Ends (code_in (compares L l r N))
      → (code_in (compares L' l r N') ≡ code_in (compares L l r N)) × (N' - rest_in (compares L' l r N') ≡ N - rest_in (compares L l r N))

pub record BothComparisons (ls : Lines) : Type 0 where
  pub first : FindsEquality ls (compare aut68 ls)
  pub second : FindsEquality ls (parts_first ls)
  -- "On each pair for which both end without 10 or 11 they must give one answer", whatever their budgets and limits.
  pub one_answer : (L N L' N' : ℕ) (l r : Expr) → Ends (code_in (compare aut68 ls L l r N)) → Ends (code_in (parts_first ls L' l r N'))
      → code_in (compare aut68 ls L l r N) ≡ code_in (parts_first ls L' l r N')
  pub first_kept : KeepsAnswers (compare aut68 ls)
  pub second_kept : KeepsAnswers (parts_first ls)

-- over the lines of every book, as far as its pieces have derivations
unfoldable pub ComparisonsAgree : Type 0
ComparisonsAgree = (pieces : List Bytes) (st : State) → Derived aut68 start pieces st → BothComparisons st.earlier
