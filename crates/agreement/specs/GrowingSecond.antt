-- Larger limits in the second comparison: a larger budget and limit keep 0 and 9, with the same steps.
use Rattle.std.specs.Prelude.{◌≡◌, Bool, true, false, leb}
use Rattle.std.proofs.Math.Path.{refl}
use Rattle.std.proofs.Common.{ap, arith, eqb-true}
use Prim.Native.Nat.{ℕ, zero, suc, ◌+◌, ◌≤◌, ◌<◌}
use Rattle.aut68.specs.Language.{aut68}
use Rattle.aut68.specs.Sizes.{nesting}
use Rattle.aut68.specs.Procedure.Answer.{Act, Answer, done, stop, rest_in, is_verdict, code_of, mismatch}
use Rattle.aut68.specs.Expr.{Expr, size}
use Rattle.aut68.specs.Lines.{Lines}
use Rattle.aut68.specs.Procedure.Compare.{Next, same, by_parts, step_left, step_right, next, Comparison}
use Rattle.aut68.specs.Demands.{WrongCode}
use Rattle.lookup.specs.Answers.{Decides, wrong_decides, large_undecided, spent_undecided, Kept, Grows, grows_refuse, larger}
use Rattle.agreement.specs.GrowingFirst.{grows_parts}
use Rattle.aut68.specs.Procedure.PartsFirst.{differs, unless_equal, step_to, pass, passes, sides_first, parts_first_at, parts_first}
use Rattle.agreement.specs.Passes.{Spends, parts_spend, parts_first_at_spends}

-- going on after an attempt
unless_kept : (go go' : Act ℕ (Unit {0})) (b d : ℕ) (x x' : Answer ℕ (Unit {0})) → Kept d x x' → rest_in x ≤ b
    → ((s : ℕ) → s ≤ b → Kept d (go s) (go' (s + d))) → Kept d (unless_equal go x) (unless_equal go' x')
unfolding unless_equal rest_in differs is_verdict code_of WrongCode
unless_kept go go' b d (done u s) x' h p k = rw h refl
unless_kept go go' b d (stop r s) x' h p k = at (differs r) refl
  where
    decides : differs r ≡ true → Decides r
    decides e = wrong_decides r (mismatch, refl, eqb-true _ _ e)

    at : (t : Bool) → differs r ≡ t → Kept d (unless_equal go (stop r s)) (unless_equal go' x')
    at true e = rw (h (decides e), e, unless_equal) (k s p)
    at false e = rw (e, unless_equal) (λ v. rw (h v, e, unless_equal))

step_kept : {L L' : ℕ} → L ≤ L' → (e : Expr) (go go' : Act ℕ (Unit {0})) (s c d : ℕ) → c ≡ s + d
    → ((t u : ℕ) → t < s → u ≡ t + d → Kept d (go t) (go' u)) → Kept d (step_to L e go s) (step_to L' e go' c)
unfolding step_to
step_kept hL e go go' zero c d q k = λ v. absurd (spent_undecided v)
step_kept hL e go go' (suc s) zero d q k = absurd (omega arith)
step_kept {L} {L'} hL e go go' (suc s) (suc c) d q k = at (leb (size e) L) refl
  where
    at : (t : Bool) → leb (size e) L ≡ t → Kept d (step_to L e go (suc s)) (step_to L' e go' (suc c))
    at true t = rw (t, larger (size e) hL t, step_to) (k s c (omega arith) (omega arith))
    at false t = rw (t, step_to) (λ v. absurd (large_undecided v))

module _ (ls : Lines) {L L' : ℕ} (hL : L ≤ L') where
  module _ (deeper deeper' : Comparison) (spends : Spends deeper) (h : (l r : Expr) → Grows (deeper l r) (deeper' l r)) where
    pass_kept : (again again' : Comparison) (b c d : ℕ) → c ≡ b + d → (l r : Expr) (x : Next) → next ls l r ≡ x
        → ((l r : Expr) (t u : ℕ) → t < b → u ≡ t + d → Kept d (again l r t) (again' l r u))
        → Kept d (pass ls L deeper again l r b) (pass ls L' deeper' again' l r c)
    unfolding pass
    pass_kept again again' b c d e l r same q k = rw (q, pass) (ap (done tt) e)
    pass_kept again again' b c d e l r by_parts q k = rw (q, pass) ((grows_parts aut68 deeper deeper' h l r).kept b c d e)
    pass_kept again again' b c d e l r (step_left l') q k =
        rw (q, pass) (unless_kept _ _ b d _ _ ((grows_parts aut68 deeper deeper' h l r).kept b c d e) (parts_spend deeper spends l r b)
        (λ s p. step_kept hL l' _ _ s (s + d) d refl (λ t u g f. k l' r t u (omega arith) f)))
    pass_kept again again' b c d e l r (step_right r') q k =
        rw (q, pass) (unless_kept _ _ b d _ _ ((grows_parts aut68 deeper deeper' h l r).kept b c d e) (parts_spend deeper spends l r b)
        (λ s p. step_kept hL r' _ _ s (s + d) d refl (λ t u g f. k l r' t u (omega arith) f)))

    passes_kept : (n n' b c d : ℕ) → b < n → c < n' → c ≡ b + d → (l r : Expr) → Kept d (passes ls L deeper n l r b) (passes ls L' deeper' n' l r c)
    unfolding passes
    passes_kept zero n' b c d p q e l r = absurd (omega arith)
    passes_kept (suc n) zero b c d p q e l r = absurd (omega arith)
    passes_kept (suc n) (suc n') b c d p q e l r =
        pass_kept (passes ls L deeper n) (passes ls L' deeper' n') b c d e l r (next ls l r) refl
        (λ l r t u g f. passes_kept n n' t u d (omega arith) (omega arith) f l r)

  pub grows_parts_first_at : (d : ℕ) (l r : Expr) → Grows (parts_first_at ls L d l r) (parts_first_at ls L' d l r)
  unfolding parts_first_at sides_first
  grows_parts_first_at zero l r = grows_refuse
  grows_parts_first_at (suc d) l r =
      record { kept = λ b c x e. passes_kept (parts_first_at ls L d) (parts_first_at ls L' d) (parts_first_at_spends ls L d) (grows_parts_first_at d) (suc b) (suc c) b c x (omega arith) (omega arith) e l r }

  pub grows_parts_first : (l r : Expr) → Grows (parts_first ls L l r) (parts_first ls L' l r)
  unfolding parts_first
  grows_parts_first l r = grows_parts_first_at nesting l r
