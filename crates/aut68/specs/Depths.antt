-- Nesting: a lone name is 1; each argument, domain, body, A and B is one deeper than its expression.
use Rattle.std.specs.Prelude.{ℕ, suc, max}
use Rattle.aut68.specs.Source.{Src, Srcs, name, app, abs, nil, cons, type, prop, Middle, variable, primitive, meaning, SourceLine}

unfoldable mutual
  pub depth : Src → ℕ
  depth (name w xs) = suc (depths xs)
  depth (app a b) = suc (max (depth a) (depth b))
  depth (abs x a b) = suc (max (depth a) (depth b))
  depth type = 1
  depth prop = 1

  pub depths : Srcs → ℕ
  depths nil = 0
  depths (cons a xs) = max (depth a) (depths xs)

unfoldable pub middle_depth : Middle → ℕ
middle_depth variable = 0
middle_depth primitive = 0
middle_depth (meaning x) = depth x

-- the deeper of middle and category
unfoldable pub line_depth : SourceLine → ℕ
line_depth s = max (middle_depth s.middle) (depth s.category)
