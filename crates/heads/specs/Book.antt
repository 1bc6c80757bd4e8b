-- The lines before the one at hand, as the check relies on them, and what follows for expressions over them.
use Rattle.std.proofs.Common.{sym, ◌∙◌}
use Rattle.std.specs.Prelude.{List, ℕ, suc, ◌≤◌, ◌<◌, length}
use Rattle.aut68.specs.Sizes.{line_limit, largest_limit}
use Rattle.aut68.specs.Expr.{Expr, Exprs, type, prop, var, bound, const, app, abs, nil, cons, size, count_exprs}
use Rattle.aut68.specs.Lines.{Line, Lines, kind_cells}
use Rattle.aut68.specs.Rules.Names.{IsLine, Context}
use Rattle.aut68.specs.Rules.Resolved.{Scoped, AllScoped, ConstantOf, Known}
use Rattle.calculus.specs.Scoped.{ScopedCategory}
use Rattle.calculus.specs.Resolved.{AllKnown, KnownCategory, ResolvedLines}
use Rattle.cells.specs.Cells.{Formed, AllFormed, AnyVariable, RightCount, Wf, Wfs}
use Rattle.cells.specs.Rows.{Rows, Stored}

pub record Book (ls : Lines) (L : ℕ) (tb ts : List ℕ) : Type 0 where
  -- their numbers fit a cell
  pub few : length ls < line_limit
  pub rows : Rows ls tb
  pub stored : Stored ls tb ts
  pub resolved : ResolvedLines ls
  pub contexts : {v : ℕ} {l : Line} → IsLine ls v l → Context ls l.indicator l.context
  pub earlier : {v : ℕ} {l : Line} → IsLine ls v l → l.indicator < v
  pub middle_size : {v : ℕ} {l : Line} → IsLine ls v l → length (kind_cells l.kind) ≤ L
  pub category_size : {v : ℕ} {l : Line} → IsLine ls v l → size l.category ≤ L
  pub limit : L ≤ largest_limit

-- what is scoped is formed, under weaker demands
module _ (X X' : ℕ → Type 0) (C C' : ℕ → ℕ → Type 0) (f : (v : ℕ) → X v → X' v) (g : (v n : ℕ) → C v n → C' v n) where
  mutual
    unfolding Scoped Formed

    pub scoped_formed : (k : ℕ) (e : Expr) → Scoped X C k e → Formed X' C' e
    scoped_formed k type w = tt
    scoped_formed k prop w = tt
    scoped_formed k (var v) w = f v w
    scoped_formed k (bound i) w = tt
    scoped_formed k (const v xs) w = (g v (count_exprs xs) w.0, all_formed k xs w.1)
    scoped_formed k (app a b) w = (scoped_formed k a w.0, scoped_formed k b w.1)
    scoped_formed k (abs p t) w = (scoped_formed k p w.0, scoped_formed (suc k) t w.1)

    pub all_formed : (k : ℕ) (es : Exprs) → AllScoped X C k es → AllFormed X' C' es
    all_formed k nil w = tt
    all_formed k (cons a xs) w = (scoped_formed k a w.0, all_formed k xs w.1)

  pub category_formed : (k : ℕ) (e : Expr) → ScopedCategory X C k e → Formed X' C' e
  unfolding Scoped ScopedCategory Formed
  category_formed k type w = tt
  category_formed k prop w = tt
  category_formed k (var v) w = scoped_formed k (var v) w
  category_formed k (bound i) w = scoped_formed k (bound i) w
  category_formed k (const v xs) w = scoped_formed k (const v xs) w
  category_formed k (app a b) w = scoped_formed k (app a b) w
  category_formed k (abs p t) w = (scoped_formed k p w.0, category_formed (suc k) t w.1)

-- a constant's row has the count of its arguments
pub right_count : {ls : Lines} {tb : List ℕ} → Rows ls tb → (v n : ℕ) → ConstantOf ls v n → RightCount tb v n
right_count R v n c = c.as_many ∙ sym (R.row c.is_line).context_is

module _ {ls : Lines} {tb : List ℕ} (R : Rows ls tb) where
  pub known_wf : (k : ℕ) (e : Expr) → Known ls k e → Wf tb e
  known_wf k e w = scoped_formed _ AnyVariable (ConstantOf ls) (RightCount tb) (λ v x. tt) (right_count R) k e w

  pub all_known_wf : (k : ℕ) (es : Exprs) → AllKnown ls k es → Wfs tb es
  all_known_wf k es w = all_formed _ AnyVariable (ConstantOf ls) (RightCount tb) (λ v x. tt) (right_count R) k es w

  pub category_wf : (k : ℕ) (c : Expr) → KnownCategory ls k c → Wf tb c
  category_wf k c w = category_formed _ AnyVariable (ConstantOf ls) (RightCount tb) (λ v x. tt) (right_count R) k c w
