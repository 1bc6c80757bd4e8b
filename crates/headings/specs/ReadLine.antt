-- The parts of a line: what stands behind its heading, and its indicator.
use Rattle.std.proofs.Math.Option.{Option, none, some}
use Rattle.std.specs.Prelude.{◌≢◌, true, false, ℕ, ◌+◌, ◌≤◌, eqb, length, Some, None, IfSome}
use Rattle.std.specs.Prelude as Prelude
use Rattle.aut68.specs.Language.{Language}
use Rattle.aut68.specs.Rules.Grammar.{ending}
use Rattle.aut68.specs.Bytes.{Bytes}
use Rattle.aut68.specs.Source.{Used}
use Rattle.aut68.specs.Procedure.Answer.{give, ◌>>=◌}
use Rattle.aut68.specs.Procedure.Parse.{Read, Placed, a_middle, an_expression, symbol, line_end}
use Rattle.aut68.specs.Sizes.{nesting}
use Rattle.symbols.specs.declared.UsedName.{UsedName}
use Rattle.symbols.specs.Symbols.{used_in, title_in, size_in}

-- the part of a line behind `:=`, with what stands before it
unfoldable pub after_heading : Language → Option Used → ℕ → Bytes → Read Placed
after_heading language i before w = do
  m ← a_middle language
  _ ← symbol 58
  c ← an_expression language nesting ending
  _ ← symbol 10
  _ ← line_end
  give (record { before = before; line = record { indicator = i; identifier = w; middle = m; category = c } })

-- the name that is used; none where len is 0
unfoldable pub used_or : Bytes → ℕ → ℕ → ℕ → ℕ → Option Used
used_or s title size start len = elim (eqb len 0) [ true ↦ none | false ↦ some (used_in s title size start len) ]

-- the indicator; none where it is empty
abbrev pub indicator_in : Bytes → Prelude.Option UsedName → Option Used
indicator_in s (Some u) = used_or s (title_in u.paragraph) (size_in u.paragraph) u.name.start u.name.len
indicator_in s None = none

-- it stands in the line, and its names are not empty
abbrev pub IndicatorInside : Bytes → Prelude.Option UsedName → Type 0
IndicatorInside s i =
    IfSome i (λ u. (title_in u.paragraph + size_in u.paragraph ≤ length s) × (u.name.start + u.name.len ≤ length s) × (u.name.len ≢ 0) × IfSome u.paragraph (λ p. p.len ≢ 0))
