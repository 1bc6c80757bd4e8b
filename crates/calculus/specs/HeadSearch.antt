-- Head steps until none is left, as the procedure takes them: the head form is reached by head steps, and has none.
use Rattle.std.specs.Prelude.{◌≡◌, true, false, leb}
use Rattle.std.proofs.Math.Path.{refl}
use Rattle.std.proofs.Math.Option.{Option, none, some}
use Prim.Native.Nat.{ℕ, zero, suc}
use Rattle.aut68.specs.Procedure.Answer.{Answer, done, stop, too_large, out_of_budget}
use Rattle.aut68.specs.Expr.{Expr, size, Shape, shape, abstraction, other}
use Rattle.aut68.specs.Lines.{Lines}
use Rattle.aut68.specs.Rules.Steps.{Reduces}
use Rattle.aut68.specs.Rules.Steps
use Rattle.aut68.specs.Rules.Categories.{HeadReduces}
use Rattle.aut68.specs.Rules.Categories
use Rattle.aut68.specs.Procedure.HeadStep.{head_step, left}
use Rattle.aut68.specs.Procedure.Category.{head_form}
use Rattle.lookup.specs.Answers.{Judged, is_done, is_stop, Finding, large, spent, judged_map, judged_sized}
use Rattle.calculus.specs.HeadForms.{head_step_lem}

pub head_reduces : (ls : Lines) {a b : Expr} → HeadReduces ls a b → Reduces ls a b
head_reduces ls Categories.done = Steps.done
head_reduces ls (Categories.step {a} {b} q h) = Steps.step (head_step_lem ls a b q) (head_reduces ls h)

module _ (ls : Lines) where
  -- no head step is left
  pub data Ended (f : Expr) : Type 0 where
    is_function : {p q : Expr} → shape f ≡ abstraction p q → Ended f
    is_other : shape f ≡ other → left (head_step ls f) ≡ none → Ended f

  pub record Formed (c f : Expr) : Type 0 where
    pub heads : HeadReduces ls c f
    pub ended : Ended f

  stepped : {X : Type 0} {f g : Expr} {m : Answer ℕ Expr} → left (head_step ls f) ≡ some g → Judged (Formed g) (Finding X) m → Judged (Formed f) (Finding X) m
  stepped q h = judged_map (λ e x. record { heads = Categories.step q x.heads; ended = x.ended }) (λ r x. x) h

  pub head_form_finds : (X : Type 0) (L : ℕ) (f : Expr) (b : ℕ) → Judged (Formed f) (Finding X) (head_form ls L f b)
  unfolding head_form
  head_form_finds X L f zero = go (shape f) refl
    where
      next : (o : Option Expr) → left (head_step ls f) ≡ o → shape f ≡ other
          → Judged {S = ℕ} (Formed f) (Finding X) (elim o [ none ↦ done f zero | some g ↦ stop out_of_budget zero ])
      next none e s = is_done (record { heads = Categories.done; ended = is_other s e })
      next (some g) e s = is_stop spent

      go : (s : Shape) → shape f ≡ s
          → Judged {S = ℕ} (Formed f) (Finding X) (elim s [
            | abstraction p q ↦ done f zero
            | other ↦ elim (left (head_step ls f)) [ none ↦ done f zero | some g ↦ stop out_of_budget zero ]
          ])
      go (abstraction p q) e = is_done (record { heads = Categories.done; ended = is_function e })
      go other e = next (left (head_step ls f)) refl e
  head_form_finds X L f (suc b) = go (λ g. head_form_finds X L g b) (shape f) refl
    where
      next : ((g : Expr) → Judged (Formed g) (Finding X) (head_form ls L g b)) → (o : Option Expr) → left (head_step ls f) ≡ o → shape f ≡ other
          → Judged {S = ℕ} (Formed f) (Finding X) (elim o [
            | none ↦ done f (suc b)
            | some g ↦ elim (leb (size g) L) [ true ↦ head_form ls L g b | false ↦ stop too_large (suc b) ]
          ])
      next ih none e s = is_done (record { heads = Categories.done; ended = is_other s e })
      next ih (some g) e s = judged_sized (leb (size g) L) (suc b) (stepped e (ih g)) large

      go : ((g : Expr) → Judged (Formed g) (Finding X) (head_form ls L g b)) → (s : Shape) → shape f ≡ s
          → Judged {S = ℕ} (Formed f) (Finding X) (elim s [
            | abstraction p q ↦ done f (suc b)
            | other ↦ elim (left (head_step ls f)) [
              | none ↦ done f (suc b)
              | some g ↦ elim (leb (size g) L) [ true ↦ head_form ls L g b | false ↦ stop too_large (suc b) ]
            ]
          ])
      go ih (abstraction p q) e = is_done (record { heads = Categories.done; ended = is_function e })
      go ih other e = next ih (left (head_step ls f)) refl e
