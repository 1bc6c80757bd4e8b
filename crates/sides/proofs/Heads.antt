-- Laws of known expressions and their head steps.
use mathlib.Core.Path.{◌≡◌, refl, subst}
use mathlib.Core.Option.{some}
use Rattle.std.specs.Prelude.{Option, None, Some}
use mathlib.Core.List.{List}
use Prim.Native.Nat.{ℕ, suc, ◌≤◌, ◌<◌}
use native.Mathlib.Decide.{dec_lt}
use native.Mathlib.Omega.{arith}
use Rattle.aut68.specs.Expr.{Expr, Exprs, type, prop, var, bound, const, app, abs, nil, cons, size, parts}
use Rattle.aut68.specs.Lines.{Lines}
use Rattle.aut68.specs.Procedure.HeadStep.{head_step, left}
use Rattle.aut68.specs.Rules.Resolved.{Scoped, ConstantOf, VariableLine, Known}
use Rattle.calculus.specs.Scoped.{ScopedCategory, scoped_category, scoped_under}
use Rattle.calculus.specs.Resolved.{AllKnown, KnownCategory}
use Rattle.heads.specs.Heads.{HeadIs, no_head, contraction, unfolding_of}
use Rattle.reduction.specs.Frames.{Lies}
use Rattle.reduction.specs.Posts.{Stepped}
use Rattle.sides.proofs.Choosing.{Numbered, none, contracts, unfolds}

-- ---- known expressions

-- each of them is a known category
unfoldable pub EachKnown : Lines → ℕ → Exprs → Type 0
EachKnown ls k nil = Unit {0}
EachKnown ls k (cons e es) = KnownCategory ls k e × EachKnown ls k es

-- the parts of a known category are known under one binding more
pub known_parts : (ls : Lines) (k : ℕ) (e : Expr) → KnownCategory ls k e → EachKnown ls (suc k) (parts e)
unfolding Scoped ScopedCategory parts EachKnown
known_parts ls k e w = go e w
  where
    up : (x : Expr) → Known ls k x → KnownCategory ls (suc k) x
    up x h = scoped_category (VariableLine ls) (ConstantOf ls) (suc k) x (scoped_under (VariableLine ls) (ConstantOf ls) (omega arith) x h)

    ups : (xs : Exprs) → AllKnown ls k xs → EachKnown ls (suc k) xs
    ups nil h = tt
    ups (cons x xs) h = (up x h.0, ups xs h.1)

    go : (e : Expr) → KnownCategory ls k e → EachKnown ls (suc k) (parts e)
    go type h = tt
    go prop h = tt
    go (var v) h = tt
    go (bound i) h = tt
    go (const v xs) h = ups xs h.1
    go (app a b) h = (up a h.0, (up b h.1, tt))
    go (abs p t) h = (up p h.0, (h.1, tt))

-- ---- the head of an expression, as numbers

pub head_numbered : (ls : Lines) (e : Expr) {start kind at kept v : ℕ} → HeadIs ls start kind at kept v e → Numbered kind v (head_step ls e)
head_numbered ls e (no_head q k) = rw q (none k)
head_numbered ls e (contraction fs a p t w q k i n) = rw q (contracts k)
head_numbered ls e (unfolding_of fs xs l m w i y q k j n) = rw q (unfolds k refl)

-- ---- what a step leaves

-- g stands at `start`, and its size is answered; or it has more cells than the limit
pub data StepIs (limit start : ℕ) (g : Expr) (o : Option ℕ) (w : List ℕ) : Type 0 where
  made : size g ≤ limit → o ≡ Some (size g) → Lies w start g → StepIs limit start g o w
  large : limit < size g → o ≡ None → StepIs limit start g o w

pub step_is_lem : {ls : Lines} {limit start : ℕ} {e g : Expr} {o : Option ℕ} {w : List ℕ} → left (head_step ls e) ≡ some g → Stepped ls limit start e o w
    → StepIs limit start g o w
step_is_lem {limit = limit} {start} {e} {g} {o} {w} h S = subst (λ (x : Expr). StepIs limit start x o w) same (go (dec_lt limit (size S.next)))
  where
    same : S.next ≡ g
    same = let p = S.is in cc

    go : Dec (limit < size S.next) → StepIs limit start S.next o w
    go (yes l) = large l (S.large l)
    go (no l) = made (omega arith) (S.fits (omega arith)).0 (S.fits (omega arith)).1
