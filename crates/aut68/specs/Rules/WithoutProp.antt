-- Books of AUT-68 in which `prop` is no name: those that are AUT-QE books too.
use Rattle.std.specs.Prelude.{◌≢◌, ℕ, List, [], ◌∷◌}
use Rattle.aut68.specs.Language.{aut68}
use Rattle.aut68.specs.Bytes.{Bytes, word_prop}
use Rattle.aut68.specs.Source.{Src, Srcs, Middle, SourceLine}
use Rattle.aut68.specs.Rules.Grammar.{WellFormed, SignLine, IsSign}

-- w is bound nowhere in the expression
unfoldable mutual
  pub NotBound : Bytes → Src → Type 0
  NotBound w (Src.name x xs) = NotBoundIn w xs
  NotBound w (Src.app a b) = NotBound w a × NotBound w b
  NotBound w (Src.abs x a b) = (x ≢ w) × NotBound w a × NotBound w b
  NotBound w Src.type = Unit {0}
  NotBound w Src.prop = Unit {0}

  pub NotBoundIn : Bytes → Srcs → Type 0
  NotBoundIn w Srcs.nil = Unit {0}
  NotBoundIn w (Srcs.cons a xs) = NotBound w a × NotBoundIn w xs

unfoldable pub NotBoundMiddle : Bytes → Middle → Type 0
NotBoundMiddle w Middle.variable = Unit {0}
NotBoundMiddle w Middle.primitive = Unit {0}
NotBoundMiddle w (Middle.meaning x) = NotBound w x

-- "`prop` is no identifier, bound or paragraph name in it": of one line
pub record NoProp (s : SourceLine) : Type 0 where
  pub identifier : s.identifier ≢ word_prop
  pub middle : NotBoundMiddle word_prop s.middle
  pub category : NotBound word_prop s.category

-- of every line, as it may be read, paragraph lines included
pub data BookWithoutProp : List Bytes → Type 0 where
  no_lines : BookWithoutProp []
  one_line : {bytes : Bytes} {more : List Bytes}
      → ((s : SourceLine) → WellFormed aut68 s bytes → NoProp s)
      → ((sign : ℕ) (p : Bytes) → IsSign sign → SignLine aut68 sign p bytes → p ≢ word_prop)
      → BookWithoutProp more
      → BookWithoutProp (bytes ∷ more)
