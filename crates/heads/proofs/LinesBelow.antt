-- The cells of a line among fewer than n lines.
use Rattle.std.specs.Prelude.{◌≡◌, refl, ℕ, ◌*◌, ◌≤◌, ◌<◌, length}
use native.Mathlib.Omega.{arith}
use Rattle.aut68.specs.Sizes.{cell_factor}
use Rattle.aut68.specs.Expr.{Expr, cells}
use Rattle.aut68.specs.Lines.{Line, Lines, Kind, variable, primitive, abbreviation, kind_cells, line_cells}
use Rattle.aut68.specs.Rules.Names.{IsLine}
use Rattle.calculus.specs.Scoped.{scoped_category}
use Rattle.calculus.specs.Resolved.{KnownCategory, ResolvedLines, resolved_known, known_line}
use Rattle.cells.specs.Cells.{Below}
use Rattle.cells.specs.Widths.{below_append}
use Rattle.cells.specs.Forests.{size_is_length}
use Rattle.heads.specs.Depths.{deep_size, lines_below}

-- the cells of a line whose middle and category have at most n
pub line_below : (ls : Lines) → ResolvedLines ls → (n : ℕ) → length ls < n → {v : ℕ} {l : Line} → IsLine ls v l
    → length (kind_cells l.kind) ≤ n → length (cells l.category) ≤ n → Below (cell_factor * n) (line_cells l)
unfolding line_cells kind_cells Below
line_below ls W n few {l = l} i a b =
    below_append (cell_factor * n) (kind_cells l.kind) (cells l.category) (middle l.kind refl a) (small l.category (known_line ls W i) b)
  where
    small : (e : Expr) → KnownCategory ls 0 e → length (cells e) ≤ n → Below (cell_factor * n) (cells e)
    small e w s = lines_below ls n few 0 n e w (deep_size n e (omega (arith, size_is_length e))) (omega arith)

    middle : (k : Kind) → l.kind ≡ k → length (kind_cells k) ≤ n → Below (cell_factor * n) (kind_cells k)
    middle variable q s = tt
    middle primitive q s = tt
    middle (abbreviation m) q s = small m (scoped_category _ _ 0 m (resolved_known ls l.context 0 m ((W.at i).middle m q))) s
