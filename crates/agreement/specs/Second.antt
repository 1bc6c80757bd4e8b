-- The second comparison finds equality: what it calls equal has a common reduct, what it calls different has none.
use Rattle.std.specs.Prelude.{◌≡◌, Bool, leb}
use Rattle.std.proofs.Math.Path.{refl}
use Rattle.std.proofs.Math.Bool.{true, false}
use Prim.Native.Nat.{ℕ, zero, suc}
use Rattle.std.proofs.Math.Dec.{eqb}
use Rattle.std.proofs.Common.{eqb-true}
use Rattle.aut68.specs.Language.{aut68}
use Rattle.aut68.specs.Sizes.{nesting}
use Rattle.aut68.specs.Procedure.Answer.{code_of, Act, Answer, done, refuse, mismatch}
use Rattle.aut68.specs.Expr.{Expr, size, first_cell, parts}
use Rattle.aut68.specs.Lines.{Lines}
use Rattle.aut68.specs.Rules.Steps.{Equal}
use Rattle.aut68.specs.Procedure.Compare.{Next, same, by_parts, step_left, step_right, next, Comparison, each, has_surplus, compare_parts}
use Rattle.calculus.specs.Parallel.{ClosedMiddles}
use Rattle.calculus.specs.Equality.{equal_path}
use Rattle.calculus.specs.HeadForms.{head_none, parts_equal}
use Rattle.calculus.specs.Next.{NextIs, is_same, is_parts, is_left, is_right, next_is_lem}
use Rattle.lookup.specs.Answers.{Judged, is_done, is_stop, judged_map, judged_sized}
use Rattle.agreement.specs.First.{Refused, differ, large, spent, refused_map, Settles, SettlesEqual, each_settles, parts_settle, left_settles, right_settles}
use Rattle.aut68.specs.Procedure.PartsFirst.{differs, unless_equal, step_to, pass, passes, sides_first, parts_first_at, parts_first}

-- an attempt that tells that X holds if it does, and whatever is gone on with settles X
settles_unless : {X Y : Type 0} {m : Answer ℕ (Unit {0})} (go : Act ℕ (Unit {0})) → Judged (λ _. X) (Refused Y) m → ((b : ℕ) → Settles X (go b)) → Settles X (unless_equal go m)
unfolding unless_equal differs code_of
settles_unless go (is_done x) h = is_done x
settles_unless go (is_stop {s = b} (differ y)) h = h b
settles_unless go (is_stop large) h = is_stop large
settles_unless go (is_stop spent) h = is_stop spent

settles_step : {X : Type 0} (L : ℕ) (e : Expr) (go : Act ℕ (Unit {0})) → ((b : ℕ) → Settles X (go b)) → (b : ℕ) → Settles X (step_to L e go b)
unfolding step_to
settles_step L e go h zero = is_stop spent
settles_step L e go h (suc b) = judged_sized (leb (size e) L) (suc b) (h b) large

module _ (ls : Lines) where
  -- sides with one shape and equal parts are equal, whether or not they have a head step; where the parts differ nothing is said
  parts_attempt : (deeper : Comparison) → SettlesEqual ls deeper → (l r : Expr) (b : ℕ) → Judged (λ _. Equal ls l r) (Refused (Unit {0})) (compare_parts aut68 deeper l r b)
  unfolding compare_parts has_surplus
  parts_attempt deeper d l r b = go (eqb (first_cell l) (first_cell r)) refl
    where
      go : (t : Bool) → eqb (first_cell l) (first_cell r) ≡ t
          → Judged (λ _. Equal ls l r) (Refused (Unit {0})) ((elim t as (λ _. Act ℕ (Unit {0})) [ true ↦ each deeper (parts l) (parts r) | false ↦ refuse mismatch ]) b)
      go true e = judged_map (λ _ h. parts_equal ls l r (eqb-true _ _ e) h) (refused_map (λ _. tt)) (each_settles ls deeper d (parts l) (parts r) b)
      go false e = is_stop (differ tt)

  module _ (closed : ClosedMiddles ls) (L : ℕ) where
    pass_settles : (deeper again : Comparison) → SettlesEqual ls deeper → SettlesEqual ls again → SettlesEqual ls (pass ls L deeper again)
    unfolding pass
    pass_settles deeper again d s l r b = go (next ls l r) (next_is_lem ls l r)
      where
        go : (x : Next) → NextIs ls l r x
            → Settles (Equal ls l r) (elim x [
              | same ↦ done tt b
              | by_parts ↦ compare_parts aut68 deeper l r b
              | step_left l' ↦ unless_equal (step_to L l' (again l' r)) (compare_parts aut68 deeper l r b)
              | step_right r' ↦ unless_equal (step_to L r' (again l r')) (compare_parts aut68 deeper l r b)
            ])
        go same (is_same e) = is_done (equal_path ls e)
        go by_parts (is_parts p q) = parts_settle ls closed L deeper d l r (head_none ls l p) (head_none ls r q) b
        go (step_left l') (is_left p) = settles_unless _ (parts_attempt deeper d l r b) (settles_step L l' _ (λ c. left_settles ls closed L p (s l' r c)))
        go (step_right r') (is_right p) = settles_unless _ (parts_attempt deeper d l r b) (settles_step L r' _ (λ c. right_settles ls closed L p (s l r' c)))

    passes_settle : (deeper : Comparison) → SettlesEqual ls deeper → (n : ℕ) → SettlesEqual ls (passes ls L deeper n)
    unfolding passes
    passes_settle deeper d zero l r b = is_stop spent
    passes_settle deeper d (suc n) l r b = pass_settles deeper (passes ls L deeper n) d (λ x y c. passes_settle deeper d n x y c) l r b

    pub parts_first_at_settles : (d : ℕ) → SettlesEqual ls (parts_first_at ls L d)
    unfolding parts_first_at sides_first
    parts_first_at_settles zero l r b = is_stop large
    parts_first_at_settles (suc d) l r b = passes_settle (parts_first_at ls L d) (λ x y c. parts_first_at_settles d x y c) (suc b) l r b

    pub parts_first_settles : SettlesEqual ls (parts_first ls L)
    unfolding parts_first
    parts_first_settles = parts_first_at_settles nesting
