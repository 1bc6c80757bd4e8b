-- The signs of paragraph lines, and the kinds of their bytes.
use Rattle.std.specs.Prelude.{ℕ, Option, Some, None}
use Rattle.headings.specs.declared.signs.Sign.{Sign}
use Rattle.headings.specs.declared.signs.Sign.TheVariants.{Opens, Closes}

abbrev pub kind_of_sign : Sign → ℕ
kind_of_sign Opens = 15
kind_of_sign Closes = 16

-- 0 where the line has none
abbrev pub kind_in : Option Sign → ℕ
kind_in (Some sign) = kind_of_sign sign
kind_in None = 0
