-- Renumbering the lines that expressions and lines mention.
use Rattle.std.specs.Prelude.{map, ℕ, zero, suc}
use Rattle.aut68.specs.Expr.{Expr, Exprs, type, prop, var, bound, const, app, abs, nil, cons}
use Rattle.aut68.specs.Lines.{Line, Kind, variable, primitive, abbreviation}

unfoldable mutual
  pub renumber : (ℕ → ℕ) → Expr → Expr
  renumber ρ type = type
  renumber ρ prop = prop
  renumber ρ (var v) = var (ρ v)
  renumber ρ (bound i) = bound i
  renumber ρ (const v xs) = const (ρ v) (renumbers ρ xs)
  renumber ρ (app a b) = app (renumber ρ a) (renumber ρ b)
  renumber ρ (abs p t) = abs (renumber ρ p) (renumber ρ t)

  pub renumbers : (ℕ → ℕ) → Exprs → Exprs
  renumbers ρ nil = nil
  renumbers ρ (cons a xs) = cons (renumber ρ a) (renumbers ρ xs)

unfoldable pub renumber_kind : (ℕ → ℕ) → Kind → Kind
renumber_kind ρ variable = variable
renumber_kind ρ primitive = primitive
renumber_kind ρ (abbreviation m) = abbreviation (renumber ρ m)

-- an empty indicator stays empty
unfoldable pub renumber_indicator : (ℕ → ℕ) → ℕ → ℕ
renumber_indicator ρ zero = zero
renumber_indicator ρ (suc v) = ρ (suc v)

abbrev pub renumber_line : (ℕ → ℕ) → Line → Line
renumber_line ρ l = record {
  identifier = l.identifier;
  indicator = renumber_indicator ρ l.indicator;
  context = map ρ l.context;
  kind = renumber_kind ρ l.kind;
  category = renumber ρ l.category;
  paragraph = l.paragraph;
}
