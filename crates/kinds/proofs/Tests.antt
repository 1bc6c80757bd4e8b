-- One kind has each number, so the tests `==` and `!=` of two kinds are those of their numbers.
use mathlib.Core.Path.{◌≡◌, refl, sym, ◌∙◌}
use mathlib.Core.Bool.{Bool, true, false, not}
use borrow.Author.Tests.{eqb-true, eqb-false}
use denote.Enum.Declared.{tag_of}
use denote.Enum.Bare.{sameb, tag_one}
use Rattle.kinds.specs.contracts.Kind.{the_type}
use Rattle.kinds.specs.declared.Kind.{Kind}
use Rattle.kinds.specs.declared.Kind.TheVariants.{Other, Name, Less, Bracket, Star, Colon, Equals, Comma, Open, Close, Greater, Unbracket, Space, Newline, Point, Plus, Minus}
use Rattle.kinds.specs.Numbers.{number}

tag_is : (k : Kind) → tag_of the_type k ≡ number k
tag_is Other = refl
tag_is Name = refl
tag_is Less = refl
tag_is Bracket = refl
tag_is Star = refl
tag_is Colon = refl
tag_is Equals = refl
tag_is Comma = refl
tag_is Open = refl
tag_is Close = refl
tag_is Greater = refl
tag_is Unbracket = refl
tag_is Space = refl
tag_is Newline = refl
tag_is Point = refl
tag_is Plus = refl
tag_is Minus = refl

pub one_of_number : (j k : Kind) → number j ≡ number k → j ≡ k
one_of_number j k e = tag_one the_type tt j k (tag_is j ∙ e ∙ sym (tag_is k))

-- ---- `==`

pub same_number : (j k : Kind) → sameb the_type j k ≡ true → number j ≡ number k
same_number j k e = sym (tag_is j) ∙ eqb-true (tag_of the_type j) (tag_of the_type k) e ∙ tag_is k

pub other_number : (j k : Kind) → sameb the_type j k ≡ false → number j ≡ number k → ⊥
other_number j k e q = eqb-false (tag_of the_type j) (tag_of the_type k) e (tag_is j ∙ q ∙ sym (tag_is k))

-- ---- `!=`

pub unequal_number : (j k : Kind) → not (sameb the_type j k) ≡ true → number j ≡ number k → ⊥
unequal_number j k e = split (sameb the_type j k) refl e
  where
    split : (t : Bool) → sameb the_type j k ≡ t → not t ≡ true → number j ≡ number k → ⊥
    split true q e = absurd (cc)
    split false q e = other_number j k q

pub equal_number : (j k : Kind) → not (sameb the_type j k) ≡ false → number j ≡ number k
equal_number j k e = split (sameb the_type j k) refl e
  where
    split : (t : Bool) → sameb the_type j k ≡ t → not t ≡ false → number j ≡ number k
    split true q e = same_number j k q
    split false q e = absurd (cc)
