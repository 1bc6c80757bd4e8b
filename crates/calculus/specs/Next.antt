-- What comes next for two sides, and why.
use Rattle.std.specs.Prelude.{◌≡◌, Bool, true, false, leb}
use Rattle.std.proofs.Math.Path.{refl}
use Rattle.std.proofs.Common.{ap}
use Rattle.std.proofs.Math.Option.{none, some}
use Rattle.aut68.specs.Expr.{Expr, identical}
use Rattle.aut68.specs.Lines.{Lines}
use Rattle.aut68.specs.Procedure.HeadStep.{Head, no_step, beta, delta, head_step, left}
use Rattle.aut68.specs.Procedure.Compare.{Next, same, by_parts, step_left, step_right, choose, next}
use Rattle.calculus.specs.Shapes.{identical_same}

module _ (ls : Lines) where
  pub data NextIs (l r : Expr) : Next → Type 0 where
    is_same : l ≡ r → NextIs l r same
    is_parts : left (head_step ls l) ≡ none → left (head_step ls r) ≡ none → NextIs l r by_parts
    is_left : {l' : Expr} → left (head_step ls l) ≡ some l' → NextIs l r (step_left l')
    is_right : {r' : Expr} → left (head_step ls r) ≡ some r' → NextIs l r (step_right r')

  larger_line : {l r l' r' : Expr} (t : Bool) → left (head_step ls l) ≡ some l' → left (head_step ls r) ≡ some r'
      → NextIs l r (elim t [ true ↦ step_left l' | false ↦ step_right r' ])
  larger_line true p q = is_left p
  larger_line false p q = is_right q

  choose_is : (l r : Expr) (h k : Head) → head_step ls l ≡ h → head_step ls r ≡ k → NextIs l r (choose h k)
  unfolding choose left
  choose_is l r no_step no_step p q = is_parts (ap left p) (ap left q)
  choose_is l r no_step (beta r') p q = is_right (ap left q)
  choose_is l r no_step (delta w r') p q = is_right (ap left q)
  choose_is l r (beta l') no_step p q = is_left (ap left p)
  choose_is l r (beta l') (beta r') p q = is_left (ap left p)
  choose_is l r (beta l') (delta w r') p q = is_left (ap left p)
  choose_is l r (delta v l') no_step p q = is_left (ap left p)
  choose_is l r (delta v l') (beta r') p q = is_right (ap left q)
  choose_is l r (delta v l') (delta w r') p q = larger_line (leb w v) (ap left p) (ap left q)

  next_if : (l r : Expr) (t : Bool) → identical l r ≡ t → NextIs l r (elim t [ true ↦ same | false ↦ choose (head_step ls l) (head_step ls r) ])
  next_if l r true e = is_same (identical_same l r e)
  next_if l r false e = choose_is l r (head_step ls l) (head_step ls r) refl refl

  pub next_is_lem : (l r : Expr) → NextIs l r (next ls l r)
  unfolding next
  next_is_lem l r = next_if l r (identical l r) refl
