-- The second comparison at one depth, turn by turn, as a program's loop takes it: the sides are identical; else their parts are
-- compared once, whatever the heads, and that answer stands unless it is 9; after 9 the heads decide.
use Rattle.std.specs.Prelude.{◌≡◌, Bool, true, false, leb}
use Rattle.std.proofs.Math.Path.{refl}
use Rattle.std.proofs.Common.{◌∙◌, le-leb}
use Prim.Native.Nat.{ℕ, zero, suc, ◌+◌, ◌≤◌, ◌<◌}
use native.Mathlib.Omega.{arith}
use Rattle.std.proofs.lemmas.Bool.{lt-leb}
use Rattle.aut68.specs.Language.{aut68}
use Rattle.aut68.specs.Procedure.Answer.{Act, done, stop, Refusal, code_of, mismatch, too_large, out_of_budget}
use Rattle.aut68.specs.Expr.{Expr, size, identical}
use Rattle.aut68.specs.Lines.{Lines}
use Rattle.aut68.specs.Procedure.HeadStep.{Head, no_step, beta, delta, head_step}
use Rattle.aut68.specs.Procedure.Compare.{Next, same, by_parts, step_left, step_right, choose, next, compare_parts}
use Rattle.aut68.specs.Procedure.PartsFirst.{differs, unless_equal, step_to, pass, parts_first_at}
use Rattle.agreement.specs.Which.{Which, the_left, the_right, pick, step_in}
use Rattle.agreement.specs.Passes.{parts_first_loop}

-- the sides are not identical
abbrev pub Other : Next → Type 0
Other same = ⊥
Other by_parts = Unit {0}
Other (step_left e) = Unit {0}
Other (step_right e) = Unit {0}

larger_other : (t : Bool) (e f : Expr) → Other (elim t [ true ↦ step_left e | false ↦ step_right f ])
larger_other true e f = tt
larger_other false e f = tt

choose_other : (h k : Head) → Other (choose h k)
unfolding choose
choose_other no_step no_step = tt
choose_other no_step (beta r) = tt
choose_other no_step (delta w r) = tt
choose_other (beta l) no_step = tt
choose_other (beta l) (beta r) = tt
choose_other (beta l) (delta w r) = tt
choose_other (delta v l) no_step = tt
choose_other (delta v l) (beta r) = tt
choose_other (delta v l) (delta w r) = larger_other (leb w v) l r

pub next_other : (ls : Lines) (l r : Expr) → identical l r ≡ false → Other (next ls l r)
unfolding next
next_other ls l r q = rw (q, next) (choose_other (head_step ls l) (head_step ls r))

-- ---- a step

module _ (L : ℕ) (e : Expr) (go : Act ℕ (Unit {0})) where
  step_spent : (b : ℕ) → b ≡ 0 → step_to L e go b ≡ stop out_of_budget b
  unfolding step_to
  step_spent zero z = refl
  step_spent (suc b) z = absurd (omega arith)

  step_large : (b : ℕ) → 0 < b → L < size e → step_to L e go b ≡ stop too_large b
  unfolding step_to
  step_large zero z h = absurd (omega arith)
  step_large (suc b) z h = rw (lt-leb _ _ h, step_to)

  step_onward : (b c : ℕ) → c + 1 ≡ b → size e ≤ L → step_to L e go b ≡ go c
  unfolding step_to
  step_onward zero c z h = absurd (omega arith)
  step_onward (suc b) c z h = let y : b ≡ c = omega arith in rw (le-leb _ _ h, y, step_to)

-- ---- one turn

module _ (ls : Lines) (L d : ℕ) (l r : Expr) (b : ℕ) where
  pub turn_same : next ls l r ≡ same → parts_first_at ls L (suc d) l r b ≡ done tt b
  unfolding pass
  turn_same q = parts_first_loop ls L d l r b ∙ rw (q, pass)

  pub turn_equal : (x : Next) → next ls l r ≡ x → Other x → (b' : ℕ) → compare_parts aut68 (parts_first_at ls L d) l r b ≡ done tt b'
      → parts_first_at ls L (suc d) l r b ≡ done tt b'
  unfolding pass unless_equal
  turn_equal same q o b' e = absurd o
  turn_equal by_parts q o b' e = parts_first_loop ls L d l r b ∙ rw (q, e, pass)
  turn_equal (step_left n) q o b' e = parts_first_loop ls L d l r b ∙ rw (q, e, pass, unless_equal)
  turn_equal (step_right n) q o b' e = parts_first_loop ls L d l r b ∙ rw (q, e, pass, unless_equal)

  -- 10 and 11
  pub turn_stands : (x : Next) → next ls l r ≡ x → Other x → (k : Refusal) (b' : ℕ) → differs k ≡ false
      → compare_parts aut68 (parts_first_at ls L d) l r b ≡ stop k b' → parts_first_at ls L (suc d) l r b ≡ stop k b'
  unfolding pass unless_equal
  turn_stands same q o k b' t e = absurd o
  turn_stands by_parts q o k b' t e = parts_first_loop ls L d l r b ∙ rw (q, e, pass)
  turn_stands (step_left n) q o k b' t e = parts_first_loop ls L d l r b ∙ rw (q, e, t, pass, unless_equal)
  turn_stands (step_right n) q o k b' t e = parts_first_loop ls L d l r b ∙ rw (q, e, t, pass, unless_equal)

  -- after 9, and no side has a head step
  pub turn_different : next ls l r ≡ by_parts → (b' : ℕ) → compare_parts aut68 (parts_first_at ls L d) l r b ≡ stop mismatch b'
      → parts_first_at ls L (suc d) l r b ≡ stop mismatch b'
  unfolding pass
  turn_different q b' e = parts_first_loop ls L d l r b ∙ rw (q, e, pass)

  -- after 9, and a step is next in a side
  module _ (s : Which) (n : Expr) (q : next ls l r ≡ step_in s n) (b' : ℕ) (e : compare_parts aut68 (parts_first_at ls L d) l r b ≡ stop mismatch b') where
    turn_step : parts_first_at ls L (suc d) l r b ≡ step_to L n (parts_first_at ls L (suc d) (pick s n l) (pick s r n)) b'
    unfolding pass unless_equal differs code_of
    turn_step = go s q
      where
        go : (s : Which) → next ls l r ≡ step_in s n → parts_first_at ls L (suc d) l r b ≡ step_to L n (parts_first_at ls L (suc d) (pick s n l) (pick s r n)) b'
        go the_left q = parts_first_loop ls L d l r b ∙ rw (q, e, pass, unless_equal)
        go the_right q = parts_first_loop ls L d l r b ∙ rw (q, e, pass, unless_equal)

    pub turn_spent : b' ≡ 0 → parts_first_at ls L (suc d) l r b ≡ stop out_of_budget b'
    turn_spent z = turn_step ∙ step_spent L n _ b' z

    pub turn_large : 0 < b' → L < size n → parts_first_at ls L (suc d) l r b ≡ stop too_large b'
    turn_large z h = turn_step ∙ step_large L n _ b' z h

    pub turn_onward : (c : ℕ) → c + 1 ≡ b' → size n ≤ L → parts_first_at ls L (suc d) l r b ≡ parts_first_at ls L (suc d) (pick s n l) (pick s r n) c
    turn_onward c z h = turn_step ∙ step_onward L n _ b' c z h
