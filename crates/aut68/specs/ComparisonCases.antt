-- Paper 8's cases: pairs over one book, each under both comparisons, with the code and the steps of each.
use Rattle.std.specs.Prelude.{Bool, true, false, ◌&&◌, eqb, List, [], ◌∷◌, ℕ, zero, suc, ◌-◌}
use Rattle.aut68.specs.Language.{aut68}
use Rattle.aut68.specs.Stores.{lending}
use Rattle.aut68.specs.Expr.{Expr, type, var, bound, const, app, abs, nil, cons}
use Rattle.aut68.specs.Lines.{Lines}
use Rattle.aut68.specs.Procedure.Answer.{Answer, code_in, rest_in}
use Rattle.aut68.specs.Procedure.Compare.{compare}
use Rattle.aut68.specs.Procedure.PartsFirst.{parts_first}
use Rattle.aut68.specs.Procedure.Run.{recorded_at, run}
use Rattle.aut68.specs.Cases.{bytes_of}

-- the lines that the check records of their book
unfoldable pub compared_lines : Lines
compared_lines =
    (recorded_at (run aut68 (bytes_of "*nat:=PN:type\n*one:=PN:nat\n*n:=EB:nat\nn*suc:=PN:nat\n*two:=suc(one):nat\nn*dbl:=suc(suc(n)):nat\nn*big:=dbl(dbl(dbl(dbl(n)))):nat\n*F:=[x,nat]nat:type\n*add2:=[x,nat]suc(suc(x)):F\nn*k:=one:nat\nn*m:=EB:nat\nm*fst:=n:nat\n*f:=EB:F\nf*tw:=[x,nat]<<x>f>f:F\n")
    (lending 100000 128 16380 16384 16384 16384))
    ).recorded

-- its constants and its variable f, by their lines
abbrev nat : Expr
nat = const 1 nil

abbrev one : Expr
one = const 2 nil

abbrev next : Expr → Expr
next e = const 4 (cons e nil)

abbrev two : Expr
two = const 5 nil

abbrev dbl : Expr → Expr
dbl e = const 6 (cons e nil)

abbrev big : Expr → Expr
big e = const 7 (cons e nil)

abbrev F : Expr
F = const 8 nil

abbrev add2 : Expr
add2 = const 9 nil

abbrev k : Expr → Expr
k e = const 10 (cons e nil)

abbrev fst : Expr → Expr → Expr
fst d e = const 12 (cons d (cons e nil))

abbrev f : Expr
f = var 13

-- [x,nat]one
abbrev constantly : Expr
constantly = abs nat one

-- <[x,p]<x>x>[x,p]<x>x, which contracts to itself
abbrev endless : Expr → Expr
endless p = app (abs p (app (bound 0) (bound 0))) (abs p (app (bound 0) (bound 0)))

-- n times `suc` around e
unfoldable pub around : ℕ → Expr → Expr
around zero e = e
around (suc n) e = next (around n e)

-- two sides and a budget; code and steps of the first comparison, and of the second
pub record Compared : Type 0 where
  pub left_side : Expr
  pub right_side : Expr
  pub budget : ℕ
  pub first_code : ℕ
  pub first_steps : ℕ
  pub second_code : ℕ
  pub second_steps : ℕ

unfoldable pub answers_as : ℕ → Answer ℕ (Unit {0}) → ℕ → ℕ → Bool
answers_as b a code steps = eqb (code_in a) code && eqb (b - rest_in a) steps

unfoldable pub compares_as : Lines → Compared → Bool
compares_as ls c =
    answers_as c.budget (compare aut68 ls 128 c.left_side c.right_side c.budget) c.first_code c.first_steps
    && answers_as c.budget (parts_first ls 128 c.left_side c.right_side c.budget) c.second_code c.second_steps

-- the lines are handed over, so that the book is run once
unfoldable pub all_compare : Lines → List Compared → Bool
all_compare ls [] = true
all_compare ls (c ∷ cs) = elim (compares_as ls c) [ true ↦ all_compare ls cs | false ↦ false ]

unfoldable pub pair : Expr → Expr → ℕ → ℕ → ℕ → ℕ → ℕ → Compared
pair l r b code steps code' steps' = record {
  left_side = l;
  right_side = r;
  budget = b;
  first_code = code;
  first_steps = steps;
  second_code = code';
  second_steps = steps';
}

unfoldable pub compared_pairs : List Compared
compared_pairs =
    -- depth 33: the second opens the parts of applications, the first contracts them
    pair (around 31 (app one constantly)) (around 31 (app (next one) constantly)) 1000 0 2 10 0
    -- the arguments agree after one step; with a budget of 1 only the second ends
    ∷ pair (big two) (big (next one)) 1000 0 11 0 1
    ∷ pair (big two) (big (next one)) 1 11 1 0 1
    -- identical sides
    ∷ pair (big two) (big two) 1000 0 0 0 0
    -- k ignores its argument: the arguments differ, then a step on each side; the step of the failed attempt counts, so with a budget
    -- of 2 only the first ends
    ∷ pair (k one) (k two) 1000 0 2 0 3
    ∷ pair (k one) (k two) 2 0 2 11 2
    -- different
    ∷ pair (dbl one) (dbl two) 1000 9 3 9 4
    -- the second arguments differ, the first agree
    ∷ pair (fst two one) (fst (next one) two) 1000 0 3 0 5
    -- applications: the parts agree; the parts differ, and head steps decide
    ∷ pair (app two add2) (app (next one) add2) 1000 0 5 0 1
    ∷ pair (app one constantly) (app two constantly) 1000 0 2 0 3
    -- no side has a head step: that 9 stands, and the parts' steps count
    ∷ pair (app one f) (app (next one) f) 1000 9 0 9 0
    ∷ pair (app one f) (app two f) 1000 9 1 9 1
    -- two uses of different abbreviations go as in the first
    ∷ pair (dbl one) (app one add2) 1000 0 3 0 3
    -- an attempt inside an attempt
    ∷ pair (dbl (k one)) (dbl (k two)) 1000 0 4 0 3
    -- endless on both sides: the same; differing in a domain that no step removes
    ∷ pair (endless nat) (endless nat) 1000 0 0 0 0
    ∷ pair (endless nat) (endless F) 50 11 50 11 50
    -- `type` alone
    ∷ pair type type 1000 0 0 0 0
    ∷ pair type nat 1000 9 0 9 0
    ∷ []
