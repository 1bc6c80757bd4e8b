-- Expressions whose names and counts are in force in a context: what Names asks of a source expression, said of the expression itself.
use Rattle.std.specs.Prelude.{◌≡◌, ◌≢◌, List, ℕ, suc, ◌<◌, length}
use Rattle.aut68.specs.Expr.{Expr, Exprs, type, prop, var, bound, const, app, abs, nil, cons, count_exprs}
use Rattle.aut68.specs.Lines.{Line, Lines, variable}
use Rattle.aut68.specs.Rules.Names.{IsLine, Member}

-- Under k bindings, with X of each context variable, and C of each constant and the count of its arguments. No `type` or `prop`
-- stands inside.
module _ (X : ℕ → Type 0) (C : ℕ → ℕ → Type 0) where
  unfoldable mutual
    pub Scoped : ℕ → Expr → Type 0
    Scoped k type = ⊥
    Scoped k prop = ⊥
    Scoped k (var v) = X v
    Scoped k (bound i) = i < k
    Scoped k (const v xs) = C v (count_exprs xs) × AllScoped k xs
    Scoped k (app a b) = Scoped k a × Scoped k b
    Scoped k (abs p t) = Scoped k p × Scoped (suc k) t

    pub AllScoped : ℕ → Exprs → Type 0
    AllScoped k nil = Unit {0}
    AllScoped k (cons a xs) = Scoped k a × AllScoped k xs

-- "A variable may be used only where it is in the context": its line
pub record VariableOf (ls : Lines) (vs : List ℕ) (v : ℕ) : Type 0 where
  pub line : Line
  pub is_line : IsLine ls v line
  pub is_variable : line.kind ≡ variable
  pub in_context : Member v vs

-- "A constant takes exactly as many arguments as its own line's context has variables": its line, n being the count
pub record ConstantOf (ls : Lines) (v n : ℕ) : Type 0 where
  pub line : Line
  pub is_line : IsLine ls v line
  pub not_variable : line.kind ≢ variable
  pub as_many : n ≡ length line.context

-- `Resolved ls vs k e`: after the lines ls, in the context vs and under k bindings, the names and counts of e are in force.
abbrev pub Resolved : Lines → List ℕ → ℕ → Expr → Type 0
Resolved ls vs = Scoped (VariableOf ls vs) (ConstantOf ls)

-- a variable's line, in any context
pub record VariableLine (ls : Lines) (v : ℕ) : Type 0 where
  pub line : Line
  pub is_line : IsLine ls v line
  pub is_variable : line.kind ≡ variable

-- `Known ls k e`: as `Resolved`, in any context. Every variable and every constant has its line, and every constant its count
-- of arguments.
abbrev pub Known : Lines → ℕ → Expr → Type 0
Known ls = Scoped (VariableLine ls) (ConstantOf ls)
