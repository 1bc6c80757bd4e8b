-- Paper 3's cases: a name whose block has closed gets 14, a name that no line has 5, from left to right.
use Rattle.std.specs.Prelude.{ℕ, List, [], ◌∷◌, ◌++◌}
use Rattle.aut68.specs.Language.{aut68}
use Rattle.aut68.specs.Stores.{lending}
use Rattle.aut68.specs.Cases.{Case, bytes_of, under, usual}

-- the block of n has closed, that of m is the last
unfoldable pub blocks : List ℕ
blocks = bytes_of "*nat:=PN:type\n*n:=EB:nat\nn*suc:=PN:nat\n*m:=EB:nat\n"

unfoldable pub closed_blocks : List Case
closed_blocks =
    -- a variable whose block has closed: 14
    usual aut68 (blocks ++ bytes_of "*t:=n:nat\n") 14 5 0
    -- in a category
    ∷ usual aut68 (bytes_of "*a:=EB:type\na*c:=PN:a\n*d:=PN:a\n") 14 3 0
    -- a variable of a neighbouring block
    ∷ usual aut68 (blocks ++ bytes_of "m*t:=n:nat\n") 14 5 0
    -- a variable that is deeper than the line
    ∷ usual aut68 (bytes_of "*a:=EB:type\na*x:=EB:a\na*t:=x:a\n") 14 3 0
    -- in its block all is well
    ∷ usual aut68 (blocks ++ bytes_of "n*t:=n:nat\n") 0 5 0
    -- no such line: 5
    ∷ usual aut68 (blocks ++ bytes_of "*t:=k:nat\n") 5 5 0
    -- from left to right: the unknown name first
    ∷ usual aut68 (blocks ++ bytes_of "*t:=<k>n:nat\n") 5 5 0
    -- from left to right: the variable first
    ∷ usual aut68 (blocks ++ bytes_of "*t:=<n>k:nat\n") 14 5 0
    -- middle before category
    ∷ usual aut68 (blocks ++ bytes_of "*t:=n:k\n") 14 5 0
    -- 14 is looked at before the variable's count
    ∷ usual aut68 (blocks ++ bytes_of "*t:=n(nat):nat\n") 14 5 0
    -- in its context a variable with arguments is 6
    ∷ usual aut68 (blocks ++ bytes_of "n*t:=n(nat):nat\n") 6 5 0
    -- a count before it in the line
    ∷ usual aut68 (blocks ++ bytes_of "*t:=suc(nat,n):nat\n") 6 5 0
    -- an argument: suc has its count, then n is met
    ∷ usual aut68 (blocks ++ bytes_of "*t:=suc(n):nat\n") 14 5 0
    -- an indicator that is a constant: 5
    ∷ usual aut68 (blocks ++ bytes_of "nat*t:=PN:type\n") 5 5 0
    -- an indicator of no line: 5
    ∷ usual aut68 (blocks ++ bytes_of "k*t:=PN:type\n") 5 5 0
    -- an indicator is never out of context
    ∷ usual aut68 (blocks ++ bytes_of "n*t:=PN:type\n") 0 5 0
    -- the identifier is looked at before the names: 4
    ∷ usual aut68 (blocks ++ bytes_of "*nat:=n:nat\n") 4 5 0
    -- a binding of the same name hides the variable
    ∷ usual aut68 (blocks ++ bytes_of "*t:=[n,nat]n:[n,nat]nat\n") 0 5 0
    -- its domain does not: x is bound in B and not in A
    ∷ usual aut68 (bytes_of "*a:=EB:type\n*b:=PN:type\n*t:=[a,a]b:type\n") 14 3 0
    -- names before storage: 14 though the shelf is full
    ∷ under aut68 (lending 100000 128 16380 4 16384 16384) (blocks ++ bytes_of "*t:=n:nat\n") 14 5 0
    -- names before size: 14 though there are 17 cells
    ∷ under aut68 (lending 100000 16 16380 16384 2048 16384) (bytes_of "*a:=PN:type\n*x:=EB:a\n*u:=[y,a][y,a][y,a][y,a][y,a][y,a][y,a][y,a]x:a\n") 14 3 0
    -- left out arguments are never met as names: suc in the block of m is 6
    ∷ usual aut68 (blocks ++ bytes_of "m*t:=suc:nat\n") 6 5 0
    -- a line ahead of the variable it names: 5, since then its indicator is unknown
    ∷ usual aut68 (bytes_of "*nat:=PN:type\nn*t:=n:nat\n*n:=EB:nat\n") 5 2 0
    -- a line ahead of a constant it names: 5
    ∷ usual aut68 (bytes_of "*nat:=PN:type\n*n:=EB:nat\nn*t:=suc(n):nat\nn*suc:=PN:nat\n") 5 3 0
    -- with larger numbers the same
    ∷ under aut68 (lending 4294967295 4096 16380 16384 524288 16384) (blocks ++ bytes_of "*t:=n:nat\n") 14 5 0
    ∷ []
