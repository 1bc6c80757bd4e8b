-- The first comparison, of AUT-68, finds equality: what it calls the same is equal, what it calls different is not. The sides are any
-- expressions.
use Rattle.std.specs.Prelude.{◌≡◌, Bool, leb}
use Rattle.std.proofs.Math.Path.{refl}
use Rattle.std.proofs.Math.Bool.{true, false}
use Rattle.std.proofs.Math.Option.{some}
use Prim.Native.Nat.{ℕ, zero, suc}
use Rattle.std.proofs.Math.Dec.{eqb}
use borrow.Author.Tests.{eqb-true, eqb-false}
use Rattle.aut68.specs.Language.{aut68}
use Rattle.aut68.specs.Sizes.{nesting}
use Rattle.aut68.specs.Procedure.Answer.{Act, Answer, done, stop, Refusal, refuse, mismatch, too_large, out_of_budget}
use Rattle.aut68.specs.Expr.{Expr, Exprs, nil, cons, size, first_cell, parts}
use Rattle.aut68.specs.Lines.{Lines}
use Rattle.aut68.specs.Rules.Steps.{Equal}
use Rattle.aut68.specs.Procedure.HeadStep.{head_step, left}
use Rattle.aut68.specs.Procedure.Compare.{Next, same, by_parts, step_left, step_right, next, Comparison, each, has_surplus, compare_parts, sides, compare_at, compare}
use Rattle.calculus.specs.Reductions.{steps_one}
use Rattle.calculus.specs.Parallel.{ClosedMiddles}
use Rattle.calculus.specs.Equality.{Equals, equal_none, equal_more, equal_path, equal_sym, equal_steps, equal_trans, equal_after}
use Rattle.calculus.specs.Next.{NextIs, is_same, is_parts, is_left, is_right, next_is_lem}
use Rattle.calculus.specs.HeadForms.{HeadNormal, head_step_lem, head_none, normal_cell, parts_equal, equal_parts}
use Rattle.lookup.specs.Answers.{Judged, is_done, is_stop, judged_map, judged_then, judged_sized}

-- The refusals of a comparison: 9 only where X holds; 10; 11. There are no others.
pub data Refused (X : Type 0) : Refusal → Type 0 where
  differ : X → Refused X mismatch
  large : Refused X too_large
  spent : Refused X out_of_budget

pub refused_map : {X Y : Type 0} → (X → Y) → (r : Refusal) → Refused X r → Refused Y r
refused_map f r (differ x) = differ (f x)
refused_map f r large = large
refused_map f r spent = spent

pub refused_differ : {X : Type 0} → Refused X mismatch → X
refused_differ (differ x) = x

-- an answer to whether X holds
abbrev pub Settles : Type 0 → Answer ℕ (Unit {0}) → Type 0
Settles X = Judged (λ _. X) (Refused (¬ X))

settles_iff : {X Y : Type 0} {m : Answer ℕ (Unit {0})} → (X → Y) → (Y → X) → Settles X m → Settles Y m
settles_iff f g h = judged_map (λ _ x. f x) (refused_map (λ n y. n (g y))) h

module _ (ls : Lines) where
  -- a comparison that answers whether its sides are equal
  abbrev pub SettlesEqual : Comparison → Type 0
  SettlesEqual c = (l r : Expr) (b : ℕ) → Settles (Equal ls l r) (c l r b)

  equals_nil : {a : Expr} {xs : Exprs} → ¬ Equals ls nil (cons a xs)
  equals_nil h = elim h [ ]

  equals_cons : {a : Expr} {xs : Exprs} → ¬ Equals ls (cons a xs) nil
  equals_cons h = elim h [ ]

  equals_parts : {a b : Expr} {xs ys : Exprs} → Equals ls (cons a xs) (cons b ys) → Equal ls a b × Equals ls xs ys
  equals_parts (equal_more h k) = (h, k)

  pub each_settles : (deeper : Comparison) → SettlesEqual deeper → (xs ys : Exprs) (b : ℕ) → Settles (Equals ls xs ys) (each deeper xs ys b)
  unfolding each
  each_settles deeper d nil nil b = is_done equal_none
  each_settles deeper d nil (cons y ys) b = is_stop (differ equals_nil)
  each_settles deeper d (cons x xs) nil b = is_stop (differ equals_cons)
  each_settles deeper d (cons x xs) (cons y ys) b =
      judged_then (λ _. each deeper xs ys) (d x y b) (refused_map (λ n h. n (equals_parts h).0))
      (λ _ b' e. settles_iff (λ h. equal_more e h) (λ h. (equals_parts h).1) (each_settles deeper d xs ys b'))

  module _ (closed : ClosedMiddles ls) (L : ℕ) where
    pub parts_settle : (deeper : Comparison) → SettlesEqual deeper → (l r : Expr) → HeadNormal ls l → HeadNormal ls r → (b : ℕ)
        → Settles (Equal ls l r) (compare_parts aut68 deeper l r b)
    unfolding compare_parts has_surplus
    parts_settle deeper d l r n m b = go (eqb (first_cell l) (first_cell r)) refl
      where
        go : (t : Bool) → eqb (first_cell l) (first_cell r) ≡ t
            → Settles (Equal ls l r) ((elim t as (λ _. Act ℕ (Unit {0})) [ true ↦ each deeper (parts l) (parts r) | false ↦ refuse mismatch ]) b)
        go true e =
            settles_iff (λ h. parts_equal ls l r (eqb-true _ _ e) h) (λ h. equal_parts ls closed n m h) (each_settles deeper d (parts l) (parts r) b)
        go false e = is_stop (differ (λ h. eqb-false _ _ e (normal_cell ls n m h)))

    pub left_settles : {l l' r : Expr} {m : Answer ℕ (Unit {0})} → left (head_step ls l) ≡ some l' → Settles (Equal ls l' r) m → Settles (Equal ls l r) m
    left_settles {l} {l'} {r} q h =
        let s = steps_one ls (head_step_lem ls l l' q) in
        settles_iff (λ e. equal_trans ls closed (equal_steps ls s) e) (λ e. equal_after ls closed s e) h

    pub right_settles : {l r r' : Expr} {m : Answer ℕ (Unit {0})} → left (head_step ls r) ≡ some r' → Settles (Equal ls l r') m → Settles (Equal ls l r) m
    right_settles {l} {r} {r'} q h =
        let s = steps_one ls (head_step_lem ls r r' q) in
        settles_iff (λ e. equal_trans ls closed e (equal_sym ls (equal_steps ls s))) (λ e. equal_trans ls closed e (equal_steps ls s)) h

    sides_settle : (deeper : Comparison) → SettlesEqual deeper → SettlesEqual (sides aut68 ls L deeper)
    unfolding sides
    sides_settle deeper d l r zero = go (next ls l r) (next_is_lem ls l r)
      where
        go : (n : Next) → NextIs ls l r n
            → Settles (Equal ls l r) (elim n [
              | same ↦ done tt zero
              | by_parts ↦ compare_parts aut68 deeper l r zero
              | step_left l' ↦ stop out_of_budget zero
              | step_right r' ↦ stop out_of_budget zero
            ])
        go same (is_same e) = is_done (equal_path ls e)
        go by_parts (is_parts p q) = parts_settle deeper d l r (head_none ls l p) (head_none ls r q) zero
        go (step_left l') (is_left p) = is_stop spent
        go (step_right r') (is_right p) = is_stop spent
    sides_settle deeper d l r (suc b) = go (λ l r. sides_settle deeper d l r b) (next ls l r) (next_is_lem ls l r)
      where
        go : ((l r : Expr) → Settles (Equal ls l r) (sides aut68 ls L deeper l r b)) → (n : Next) → NextIs ls l r n
            → Settles (Equal ls l r) (elim n [
              | same ↦ done tt (suc b)
              | by_parts ↦ compare_parts aut68 deeper l r (suc b)
              | step_left l' ↦ elim (leb (size l') L) [ true ↦ sides aut68 ls L deeper l' r b | false ↦ stop too_large (suc b) ]
              | step_right r' ↦ elim (leb (size r') L) [ true ↦ sides aut68 ls L deeper l r' b | false ↦ stop too_large (suc b) ]
            ])
        go s same (is_same e) = is_done (equal_path ls e)
        go s by_parts (is_parts p q) = parts_settle deeper d l r (head_none ls l p) (head_none ls r q) (suc b)
        go s (step_left l') (is_left p) = judged_sized (leb (size l') L) (suc b) (left_settles p (s l' r)) large
        go s (step_right r') (is_right p) = judged_sized (leb (size r') L) (suc b) (right_settles p (s l r')) large

    compare_at_equal : (d : ℕ) → SettlesEqual (compare_at aut68 ls L d)
    unfolding compare_at
    compare_at_equal zero l r b = is_stop large
    compare_at_equal (suc d) l r b = sides_settle (compare_at aut68 ls L d) (λ x y c. compare_at_equal d x y c) l r b

    pub compare_equal : SettlesEqual (compare aut68 ls L)
    unfolding compare
    compare_equal = compare_at_equal nesting
