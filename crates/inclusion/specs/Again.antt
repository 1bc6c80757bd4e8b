-- The category that the second chance found can be made again from the expression alone, without a check and without a step.
use Rattle.std.specs.Prelude.{◌≡◌, refl, List, ℕ, suc, length}
use Rattle.std.proofs.Math.Path.{ap}
use Rattle.std.proofs.Common.{sym, ◌∙◌, subst}
use Rattle.std.proofs.Math.Option.{none-ne-some}
use Rattle.aut68.specs.Language.{Language}
use Rattle.aut68.specs.Expr.{Expr, Exprs, type, prop, var, bound, const, app, abs}
use Rattle.aut68.specs.Substitution.{lift, substitute, instantiate}
use Rattle.aut68.specs.Lines.{Line, Lines, line_of}
use Rattle.aut68.specs.Rules.Names.{IsLine}
use Rattle.aut68.specs.Rules.Serving.{Basic, a_type, a_prop, Ends, itself, before, Supertype}
use Rattle.aut68.specs.Rules.Categories.{DomainAt, HeadReduces, Category}
use Rattle.aut68.specs.Rules.Categories
use Rattle.aut68.specs.Procedure.HeadStep.{head_step, left}
use Rattle.aut68.specs.Rules.Resolved.{Scoped, ConstantOf, VariableLine, Known}
use Rattle.lookup.specs.LineNumbers.{line_line_of}
use Rattle.calculus.specs.Scoped.{ScopedCategory, scoped_ends}
use Rattle.calculus.specs.Resolved.{KnownScope, KnownCategory, ResolvedLines}
use Rattle.calculus.specs.Known.{known_category_steps}
use Rattle.inclusion.specs.Knowing.{reaches_ends}
use Rattle.calculus.specs.Bindings.{bound_scoped}
use Rattle.calculus.specs.HeadSearch.{head_reduces}
use Rattle.inclusion.specs.HeadKept.{ends_back}
use Rattle.inclusion.specs.Inside.{known_category}

-- `[x,P]Q` with A for x
unfoldable pub body_at : Expr → Expr → Expr
body_at a type = type
body_at a prop = type
body_at a (var v) = type
body_at a (bound i) = type
body_at a (const v xs) = type
body_at a (app b c) = type
body_at a (abs p q) = substitute a 0 q

-- of `<Ak>..<A1>h`: the category on the line of h, arguments put in, its first k abstractions taken off
unfoldable pub again : Lines → Expr → Expr
again ls type = type
again ls prop = type
again ls (var v) = (line_of ls v).category
again ls (bound i) = type
again ls (const v xs) = instantiate (line_of ls v).context xs 0 (line_of ls v).category
again ls (app a b) = body_at a (again ls b)
again ls (abs p t) = type

-- The derivations of the procedure: a function is reached by head steps alone.
pub data ByHeads (language : Language) (ls : Lines) : List Expr → Expr → Expr → Type 0 where
  heads_variable : {sc : List Expr} {v : ℕ} {l : Line} {r : Expr} → IsLine ls v l → r ≡ l.category → ByHeads language ls sc (var v) r
  heads_bound : {sc : List Expr} {i : ℕ} {p r : Expr} → DomainAt p sc i → r ≡ lift (suc i) 0 p → ByHeads language ls sc (bound i) r
  heads_constant : {sc : List Expr} {v : ℕ} {l : Line} {xs : Exprs} {r : Expr} → IsLine ls v l → r ≡ instantiate l.context xs 0 l.category → ByHeads language ls sc (const v xs) r
  heads_application : {sc : List Expr} {a b c p q r : Expr} → Category language ls sc b c → ByHeads language ls sc b c → HeadReduces ls c (abs p q) → r ≡ substitute a 0 q
      → ByHeads language ls sc (app a b) r
  heads_second : {sc : List Expr} {a b f r : Expr} → r ≡ app a f → ByHeads language ls sc (app a b) r

-- what ends in `type` or `prop` has no head step
ends_still : {ls : Lines} {s c f : Expr} → Basic s → Ends s c → HeadReduces ls c f → c ≡ f
unfolding head_step left
ends_still b e Categories.done = refl
ends_still a_type itself (Categories.step {b = g} q r) = absurd (none-ne-some g q)
ends_still a_prop itself (Categories.step {b = g} q r) = absurd (none-ne-some g q)
ends_still b (before e) (Categories.step {b = g} q r) = absurd (none-ne-some g q)

module _ (language : Language) (ls : Lines) (W : ResolvedLines ls) where
  not_super : {a f : Expr} → ¬ Supertype (app a f)
  not_super {a} {f} h = go h.is_basic h.ends
    where
      go : {s : Expr} → Basic s → Ends s (app a f) → ⊥
      go b itself = elim b [ ]

  pub found_again : {sc : List Expr} {e g : Expr} → ByHeads language ls sc e g → Supertype g → Known ls (length sc) e → KnownScope ls sc → g ≡ again ls e
  unfolding again body_at Scoped ScopedCategory
  found_again (heads_variable {l = l} i q) y w s = q ∙ ap (λ (z : Line). z.category) (sym (line_line_of i))
  found_again {sc} (heads_bound {i = i} {p = p} d q) y w s =
      absurd (scoped_ends (VariableLine ls) (ConstantOf ls) (length sc) (lift (suc i) 0 p) y.is_basic (subst (λ z. Ends y.sort z) q y.ends) (bound_scoped language ls (VariableLine ls) d s))
  found_again (heads_constant {l = l} {xs = xs} i q) y w s = q ∙ ap (λ (z : Line). instantiate z.context xs 0 z.category) (sym (line_line_of i))
  found_again {sc} (heads_application {a = a} {b = b} {c = c} {p = p} {q = q} h k r i) y w s =
      let wc : KnownCategory ls (length sc) c = known_category language ls W h w.1 s in
      let wf : KnownCategory ls (length sc) (abs p q) = known_category_steps ls W (length sc) (head_reduces ls r) wc in
      let eq : Ends y.sort q = ends_back ls (length sc) a q y.is_basic w.0 wf.1 (subst (λ z. Ends y.sort z) i y.ends) in
      let ec : Ends y.sort c = reaches_ends ls W (length sc) y.is_basic wc (head_reduces ls r) (before eq) in
      let same : c ≡ abs p q = ends_still y.is_basic ec r in
      let ih : c ≡ again ls b = found_again k (record { sort = y.sort; is_basic = y.is_basic; ends = ec }) w.1 s in
      i ∙ ap (body_at a) (sym same ∙ ih)
  found_again (heads_second i) y w s = absurd (not_super (subst Supertype i y))
