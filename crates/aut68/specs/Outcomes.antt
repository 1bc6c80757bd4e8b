-- The cases of proofs/Outcomes.antt. The sixteen outcomes that document 01 calls the proved ones, as one table under one theorem; books that tell its misreadings apart, and
-- those of papers 1, 7 and 13, under two more; those with the cells of the index, under a fourth; those of closed blocks, under a fifth;
-- the lines that a book of three records; pairs under both comparisons; and the pages of books. The other worked cases are computed in crate
-- `worked`: an edit of a definition, tried by the gate, has to compute all that stands here.
use Rattle.std.specs.Prelude.{ℕ, zero, suc}
use mathlib.Core.List.{List, [], ◌∷◌, ◌++◌}
use Rattle.aut68.specs.Language.{aut68}
use Rattle.aut68.specs.Stores.{lending, before_line}
use Rattle.aut68.specs.Expr
use Rattle.aut68.specs.Lines
use Rattle.aut68.specs.Cases.{Case, bytes_of, sample, under, within, usual}

-- ---- the twelve rows of the table; the row of code 2 has two calls, that of code 12 one for the table and two for the line limit

unfoldable pub table_rows : List Case
table_rows =
    under aut68 (lending 100000 16 16380 16384 2047 16384) sample 1 0 0
    ∷ within aut68 100000 15 sample 2 0 0
    ∷ under aut68 (lending 100000 4097 16380 16384 1000000 16384) sample 2 0 0
    ∷ usual aut68 (bytes_of "*a:=:type\n") 3 1 0
    ∷ usual aut68 (bytes_of "*nat:=PN:type\n*nat:=PN:type\n") 4 2 0
    ∷ usual aut68 (bytes_of "*a:=b:type\n") 5 1 0
    ∷ usual aut68 (sample ++ bytes_of "*u:=suc:nat\n") 6 9 2
    ∷ usual aut68 (sample ++ bytes_of "*u:=<one>one:nat\n") 7 9 2
    ∷ usual aut68 (sample ++ bytes_of "*u:=PN:one\n") 8 9 2
    ∷ usual aut68 (sample ++ bytes_of "*u:=one:F\n") 9 9 3
    ∷ within aut68 100000 16 (bytes_of "*a:=PN:type\n*u:=[x,a][x,a][x,a][x,a][x,a][x,a][x,a][x,a]a:type\n") 10 2 0
    ∷ within aut68 1 128 sample 11 8 1
    ∷ under aut68 (lending 100000 128 63 16384 16384 16384) sample 12 8 1
    ∷ under aut68 (before_line 8 (lending 100000 128 16380 16384 16384 16384)) sample 12 8 1
    ∷ under aut68 (before_line 9 (lending 100000 128 16380 16384 16384 16384)) sample 0 8 2
    ∷ []

-- ---- the four outcomes after the sample

unfoldable pub longer : List ℕ
longer = sample ++ bytes_of "n*is:=PN:type\n*p:=PN:is(<two>plus2)\n*q:=p:is(suc(suc(two)))\n"

unfoldable pub four_outcomes : List Case
four_outcomes =
    usual aut68 longer 0 11 5
    ∷ within aut68 4 128 longer 11 11 4
    ∷ within aut68 2 128 longer 11 10 2
    ∷ usual aut68 (sample ++ bytes_of "n*is:=PN:type\n*p:=PN:is(<two>plus2)\n*q:=p:is(suc(two))\n") 9 11 7
    ∷ []

-- ---- document 01's "Misreadings to exclude": a book for each whose outcome the misreading changes

-- Names looked up in lines below, or in the line itself. Where u were found, a step would be taken before the refusal.
unfoldable pub self_named : List Case
self_named =
    usual aut68 (bytes_of "*a:=a:type\n") 5 1 0
    ∷ usual aut68 (bytes_of "*a:=b:type\n*b:=PN:type\n") 5 1 0
    ∷ usual aut68 (sample ++ bytes_of "*u:=<u>plus2:nat\n") 5 9 2
    ∷ []

-- Arguments put in one after another: swap(y,x) would become pair(x,x).
unfoldable pub swapped : List Case
swapped =
    usual aut68 (bytes_of "*nat:=PN:type\n*n:=EB:nat\nn*is:=PN:type\n*x:=EB:nat\nx*y:=EB:nat\ny*pair:=PN:nat\ny*swap:=pair(y,x):nat\ny*p:=PN:is(swap(y,x))\ny*q:=p(x,y):is(pair(x,y))\n") 0 9 1
    ∷ []

-- An argument moved under a binding without renumbering: K(x) would become [y,nat]y, and <x>[z,nat][y,nat]z too.
unfoldable pub renumbered : List Case
renumbered =
    usual aut68 (sample ++ bytes_of "n*K:=[y,nat]n:F\n*g:=EB:[x,nat]F\ng*is:=PN:type\n*p:=PN:is([x,nat]K(x))\n*q:=p:is([x,nat][y,nat]x)\n") 0 13 5
    ∷ usual aut68 (sample ++ bytes_of "*g:=EB:[x,nat]F\ng*is:=PN:type\n*p:=PN:is([x,nat]<x>[z,nat][y,nat]z)\n*q:=p:is([x,nat][y,nat]x)\n") 0 12 5
    ∷ []

-- Two applications called different because their parts differ, though a head step remains.
unfoldable pub steps_remain : List Case
steps_remain =
    usual aut68 (sample ++ bytes_of "n*is:=PN:type\n*p:=PN:is(<two>[x,nat]one)\n*q:=p:is(<one>[x,nat]one)\n") 0 11 4
    ∷ []

unfoldable pub misreadings : List Case
misreadings = self_named ++ swapped ++ renumbered ++ steps_remain

-- ---- the order of the procedure, its limits: a book for each whose outcome another order or limit changes

unfoldable pub equality : List ℕ
equality = sample ++ bytes_of "n*is:=PN:type\n"

unfoldable pub pairs : List ℕ
pairs = equality ++ bytes_of "n*m:=EB:nat\nm*pair:=PN:nat\nn*twice:=pair(n,n):nat\nn*ax:=PN:is(pair(n,n))\n"

-- n times the bytes
unfoldable pub repeated : ℕ → List ℕ → List ℕ
repeated zero s = []
repeated (suc n) s = s ++ repeated n s

-- a line whose middle is n times `suc` around the inner expression
unfoldable pub nested : List ℕ → ℕ → List ℕ → List ℕ
nested identifier n inner = identifier ++ repeated n (bytes_of "suc(") ++ inner ++ repeated n (bytes_of ")") ++ bytes_of ":nat\n"

unfoldable pub deep : List ℕ
deep = equality ++ bytes_of "*two2:=suc(one):nat\n" ++ nested (bytes_of "*d:=") 30 (bytes_of "two") ++ nested (bytes_of "*e:=") 30 (bytes_of "two2")

unfoldable pub procedure_order : List Case
procedure_order =
    -- of two unfoldings the constant of the larger line; a contraction before an unfolding; of two contractions the left
    usual aut68 (bytes_of "*nat:=PN:type\n*a:=nat:type\n*b:=a:type\n*p:=PN:a\n*q:=p:b\n") 0 5 1
    ∷ usual aut68 (equality ++ bytes_of "*p:=PN:is(two)\n*q:=p:is(<one>[x,nat]two)\n") 0 11 3
    ∷ usual aut68 (equality ++ bytes_of "*p:=PN:is(<one>[x,nat]<x>[y,nat]y)\n*q:=p:is(<one>[y,nat]y)\n") 0 11 3
    -- the found category is on the left: A's and an argument's, a middle's
    ∷ usual aut68 (bytes_of "*nat:=PN:type\n*x:=EB:type\nx*I:=x:type\n*i:=PN:I(I(nat))\n*f:=EB:[z,I(nat)]nat\nf*u:=<i>f:nat\n") 0 6 1
    ∷ usual aut68 (bytes_of "*nat:=PN:type\n*x:=EB:type\nx*I:=x:type\n*i:=PN:I(I(nat))\n*y:=EB:I(nat)\ny*g:=PN:nat\n*v:=g(i):nat\n") 0 7 1
    ∷ usual aut68 (equality ++ bytes_of "n*I:=n:nat\n*p:=PN:is(I(I(one)))\n*q:=p:is(I(one))\n") 0 12 3
    -- nesting of 32 and 33; comparison at depth 32 and 33
    ∷ usual aut68 (sample ++ nested (bytes_of "*u:=") 31 (bytes_of "one")) 0 9 2
    ∷ usual aut68 (sample ++ nested (bytes_of "*u:=") 32 (bytes_of "one")) 10 9 2
    ∷ usual aut68 (deep ++ bytes_of "*p:=PN:is(d)\n*q:=p:is(e)\n") 0 14 6
    ∷ usual aut68 (deep ++ bytes_of "*p:=PN:is(suc(d))\n*q:=p:is(suc(e))\n") 10 14 4
    -- the indicator before the identifier, this before the sizes; a count before what stands inside, the middle's names before the
    -- category's; the written category before the middle; the head steps of B's category before A's category
    ∷ usual aut68 (bytes_of "*nat:=PN:type\nq*nat:=PN:type\n") 5 2 0
    ∷ within aut68 100000 16 (bytes_of "*nat:=PN:type\n*nat:=[x,nat][x,nat][x,nat][x,nat][x,nat][x,nat][x,nat][x,nat]nat:type\n") 4 2 0
    ∷ usual aut68 (sample ++ bytes_of "*u:=suc(b,b):nat\n") 6 9 2
    ∷ usual aut68 (sample ++ bytes_of "*u:=suc:b\n") 6 9 2
    ∷ usual aut68 (sample ++ bytes_of "*u:=<one>one:one\n") 8 9 2
    ∷ usual aut68 (sample ++ bytes_of "*u:=<[x,one]x>one:nat\n") 7 9 2
    -- a variable outside its context; the innermost binding; a name of 33 bytes
    ∷ usual aut68 (sample ++ bytes_of "*u:=n:nat\n") 14 9 2
    ∷ usual aut68 (sample ++ bytes_of "*u:=[x,F][x,nat]x:[x,F]F\n") 0 9 3
    ∷ usual aut68 (bytes_of "*" ++ repeated 33 (bytes_of "a") ++ bytes_of ":=PN:type\n") 3 1 0
    -- a step past the budget is looked at before the size; a category of exactly L cells is made
    ∷ within aut68 2 16 (pairs ++ bytes_of "*p:=PN:is(twice(suc(pair(pair(one,one),pair(one,one)))))\n*q:=p:is(one)\n") 11 15 2
    ∷ within aut68 100000 16 (pairs ++ bytes_of "*p:=PN:is(twice(suc(pair(pair(one,one),pair(one,one)))))\n*q:=p:is(one)\n") 10 15 2
    ∷ within aut68 100000 16 (pairs ++ bytes_of "*u:=ax(pair(pair(one,one),pair(one,one))):is(one)\n") 9 14 2
    ∷ []

-- ---- what is recorded of a book

unfoldable pub numbers : List ℕ
numbers = bytes_of "*nat:=PN:type\n*one:=PN:nat\n*num:=nat:type\n"

unfoldable pub number_lines : Lines.Lines
number_lines =
    record { identifier = bytes_of "nat"; indicator = 0; context = []; kind = Lines.primitive; category = Expr.type; paragraph = 0 }
    ∷ record { identifier = bytes_of "one"; indicator = 0; context = []; kind = Lines.primitive; category = Expr.const 1 Expr.nil; paragraph = 0 }
    ∷ record { identifier = bytes_of "num"; indicator = 0; context = []; kind = Lines.abbreviation (Expr.const 1 Expr.nil); category = Expr.type; paragraph = 0 }
    ∷ []
