-- What is claimed of the two comparisons, over lines whose middles are resolved, as those of any book that passes.
use Rattle.std.specs.Prelude.{◌≡◌, refl, ◌⊎◌, ℕ, ◌+◌, ◌-◌, ◌≤◌}
use Rattle.std.proofs.Common.{ap, inl, inr, arith}
use Rattle.aut68.specs.Language.{aut68}
use Rattle.aut68.specs.Procedure.Answer.{Answer, code_in, rest_in, code_of, is_verdict, mismatch, too_large, out_of_budget}
use Rattle.aut68.specs.Expr.{Expr}
use Rattle.aut68.specs.Lines.{Lines}
use Rattle.aut68.specs.Comparing.{FindsEquality, Ends, KeepsAnswers, BothComparisons}
use Rattle.aut68.specs.Procedure.Compare.{Comparison, compare}
use Rattle.aut68.specs.Procedure.PartsFirst.{parts_first}
use Rattle.calculus.specs.Resolved.{ResolvedLines, lines_closed}
use Rattle.lookup.specs.Answers.{is_done, is_stop, judged_done, judged_stop, Kept, Grows}
use Rattle.agreement.specs.First.{differ, large, spent, refused_differ, Settles, SettlesEqual, compare_equal}
use Rattle.agreement.specs.Second.{parts_first_settles}
use Rattle.agreement.specs.GrowingFirst.{grows_compare}
use Rattle.agreement.specs.GrowingSecond.{grows_parts_first}

-- an answer that settles, with its code: 0 and X, 9 and not X, 10, 11
data Coded (X : Type 0) : ℕ → Type 0 where
  coded0 : X → Coded X 0
  coded9 : ¬ X → Coded X 9
  coded10 : Coded X 10
  coded11 : Coded X 11

coded : {X : Type 0} {m : Answer ℕ (Unit {0})} → Settles X m → Coded X (code_in m)
unfolding code_in code_of
coded (is_done x) = coded0 x
coded (is_stop (differ n)) = coded9 n
coded (is_stop large) = coded10
coded (is_stop spent) = coded11

code_of_lem : {X : Type 0} {n : ℕ} → Coded X n → (n ≡ 0) ⊎ ((n ≡ code_of mismatch) ⊎ ((n ≡ code_of too_large) ⊎ (n ≡ code_of out_of_budget)))
unfolding code_of
code_of_lem (coded0 x) = inl refl
code_of_lem (coded9 x) = inr (inl refl)
code_of_lem coded10 = inr (inr (inl refl))
code_of_lem coded11 = inr (inr (inr refl))

one_code : {X : Type 0} {m n : ℕ} → Coded X m → Coded X n → Ends m → Ends n → m ≡ n
one_code (coded0 x) (coded0 y) p q = refl
one_code (coded0 x) (coded9 y) p q = absurd (y x)
one_code (coded0 x) coded10 p q = absurd (q.0 refl)
one_code (coded0 x) coded11 p q = absurd (q.1 refl)
one_code (coded9 x) (coded0 y) p q = absurd (x y)
one_code (coded9 x) (coded9 y) p q = refl
one_code (coded9 x) coded10 p q = absurd (q.0 refl)
one_code (coded9 x) coded11 p q = absurd (q.1 refl)
one_code coded10 k p q = absurd (p.0 refl)
one_code coded11 k p q = absurd (p.1 refl)

-- an answer that ends is kept with d more of the budget left
kept_answer : {X : Type 0} (d : ℕ) {x : Answer ℕ (Unit {0})} (x' : Answer ℕ (Unit {0})) → Settles X x → Ends (code_in x) → Kept d x x'
    → (code_in x' ≡ code_in x) × (rest_in x' ≡ rest_in x + d)
unfolding code_in rest_in code_of is_verdict
kept_answer d x' (is_done x) e k = (ap code_in k, ap rest_in k)
kept_answer d x' (is_stop (differ n)) e k = (ap code_in (k refl), ap rest_in (k refl))
kept_answer d x' (is_stop large) e k = absurd (e.0 refl)
kept_answer d x' (is_stop spent) e k = absurd (e.1 refl)

module _ (ls : Lines) (compares : ℕ → Comparison) (settles : (L : ℕ) → SettlesEqual ls (compares L)) where
  finds : FindsEquality ls compares
  finds = record {
    equal = λ L N b l r e. judged_done (settles L l r N) e;
    different = λ L N b l r e. refused_differ (judged_stop (settles L l r N) e);
    codes = λ L N l r. code_of_lem (coded (settles L l r N));
  }

  keeps : ((L L' : ℕ) → L ≤ L' → (l r : Expr) → Grows (compares L l r) (compares L' l r)) → KeepsAnswers compares
  keeps grows = record {
    kept = λ L L' N N' l r hL hN e.
        let k = (grows L L' hL l r).kept N N' (N' - N) (omega arith) in
        let (p, q) = kept_answer (N' - N) (compares L' l r N') (settles L l r N) e k in
        (p, omega (arith, q));
  }

pub both_comparisons : (ls : Lines) → ResolvedLines ls → BothComparisons ls
both_comparisons ls W =
    let one : (L : ℕ) → SettlesEqual ls (compare aut68 ls L) = λ L. compare_equal ls (lines_closed ls W) L in
    let two : (L : ℕ) → SettlesEqual ls (parts_first ls L) = λ L. parts_first_settles ls (lines_closed ls W) L in
    record {
      first = finds ls (compare aut68 ls) one;
      second = finds ls (parts_first ls) two;
      one_answer = λ L N L' N' l r p q. one_code (coded (one L l r N)) (coded (two L' l r N')) p q;
      first_kept = keeps ls (compare aut68 ls) one λ L L' h l r. grows_compare aut68 ls h l r;
      second_kept = keeps ls (parts_first ls) two λ L L' h l r. grows_parts_first ls h l r;
    }
