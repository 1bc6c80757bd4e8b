-- The numbers of the kinds, by which Kinds speaks of them.
use Rattle.std.specs.Prelude.{ℕ}
use Rattle.kinds.specs.declared.Kind.{Kind}
use Rattle.kinds.specs.declared.Kind.TheVariants.{Other, Name, Less, Bracket, Star, Colon, Equals, Comma, Open, Close, Greater, Unbracket, Space, Newline, Point, Plus, Minus}

abbrev pub number : Kind → ℕ
number Other = 0
number Name = 1
number Less = 2
number Bracket = 3
number Star = 4
number Colon = 5
number Equals = 6
number Comma = 7
number Open = 8
number Close = 9
number Greater = 10
number Unbracket = 11
number Space = 12
number Newline = 13
number Point = 14
number Plus = 15
number Minus = 16
