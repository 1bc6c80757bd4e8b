-- Cases of papers 1, 7 and 13 that tell misreadings of the procedure apart. Crate `worked` has the others.
use Rattle.std.specs.Prelude.{ℕ, List, [], ◌∷◌, ◌++◌}
use Rattle.aut68.specs.Language.{aut68, aut_qe}
use Rattle.aut68.specs.Cases.{Case, Kept, kept, indexed, bytes_of, usual}

-- ---- omitted arguments

-- five lines that most of the books begin with, their rows and cells
unfoldable pub sums : List ℕ
sums = bytes_of "*nat:=PN:type\n*n:=EB:nat\nn*suc:=PN:nat\nn*m:=EB:nat\nm*add:=PN:nat\n"

unfoldable pub sum_rows : List ℕ
sum_rows = 1 ∷ 3 ∷ 0 ∷ 0 ∷ 1 ∷ 0 ∷ 0 ∷ 1 ∷ 0 ∷ 15 ∷ 1 ∷ 0 ∷ 0 ∷ 0 ∷ 1 ∷ 1 ∷ 2 ∷ 0 ∷ 27 ∷ 3 ∷ 2 ∷ 1 ∷ 1 ∷ 2 ∷ 2 ∷ 3 ∷ 0 ∷ 41 ∷ 1 ∷ 2 ∷ 1 ∷ 0 ∷ 3 ∷ 3 ∷ 4 ∷ 0 ∷ 53 ∷ 3 ∷ 4 ∷ 2 ∷ 1 ∷ 4 ∷ 4 ∷ 5 ∷ 0 ∷ []

unfoldable pub sum_cells : List ℕ
sum_cells = 0 ∷ 11 ∷ 11 ∷ 11 ∷ 11 ∷ []

unfoldable pub telling_omitted : List Kept
telling_omitted =
    -- both left out: add means add(n,m)
    kept (usual aut68 (sums ++ bytes_of "m*t:=add:nat\n") 0 6 0)
    (sum_rows ++ 67 ∷ 1 ∷ 4 ∷ 2 ∷ 2 ∷ 5 ∷ 8 ∷ 9 ∷ 0 ∷ []) (sum_cells ++ 43 ∷ 17 ∷ 33 ∷ 11 ∷ [])
    ∷  -- the own context has a variable of the same category, but not the same variable
    kept (usual aut68 (sums ++ bytes_of "*k:=EB:nat\nk*t:=suc:nat\n") 6 7 0)
    (sum_rows ++ 66 ∷ 1 ∷ 0 ∷ 0 ∷ 0 ∷ 5 ∷ 5 ∷ 6 ∷ 0 ∷ []) (sum_cells ++ 11 ∷ [])
    ∷  -- 32 names one in the other: nesting 32 as written, 33 completed: 10
    kept (usual aut68 (bytes_of "*x:=EB:type\nx*f:=PN:type\nx*g:=f(f(f(f(f(f(f(f(f(f(f(f(f(f(f(f(f(f(f(f(f(f(f(f(f(f(f(f(f(f(f(f))))))))))))))))))))))))))))))):type\n") 10 3 0)
    (1 ∷ 1 ∷ 0 ∷ 0 ∷ 0 ∷ 0 ∷ 0 ∷ 1 ∷ 0 ∷ 14 ∷ 1 ∷ 1 ∷ 1 ∷ 1 ∷ 1 ∷ 1 ∷ 2 ∷ 0 ∷ []) (0 ∷ 0 ∷ [])
    ∷  -- nesting 33 as written is met in the bytes, before the unknown name
    kept (usual aut68 (bytes_of "*x:=EB:type\nx*f:=PN:type\nx*g:=f(f(f(f(f(f(f(f(f(f(f(f(f(f(f(f(f(f(f(f(f(f(f(f(f(f(f(f(f(f(f(f(y)))))))))))))))))))))))))))))))):type\n") 10 3 0)
    (1 ∷ 1 ∷ 0 ∷ 0 ∷ 0 ∷ 0 ∷ 0 ∷ 1 ∷ 0 ∷ 14 ∷ 1 ∷ 1 ∷ 1 ∷ 1 ∷ 1 ∷ 1 ∷ 2 ∷ 0 ∷ []) (0 ∷ 0 ∷ [])
    ∷ []

-- ---- paragraphs

unfoldable pub telling_paragraphs : List Kept
telling_paragraphs =
    -- an identifier may stand again in another paragraph; the innermost is meant: b has the category of line 2
    indexed (usual aut68 (bytes_of "*a:=PN:type\n+p\n*a:=PN:type\n*b:=PN:a\n-p\n") 0 3 0)
    (1 ∷ 1 ∷ 0 ∷ 0 ∷ 1 ∷ 0 ∷ 0 ∷ 1 ∷ 0 ∷ 16 ∷ 1 ∷ 0 ∷ 0 ∷ 1 ∷ 1 ∷ 1 ∷ 2 ∷ 1 ∷ 28 ∷ 1 ∷ 0 ∷ 0 ∷ 1 ∷ 2 ∷ 2 ∷ 3 ∷ 1 ∷ []) (0 ∷ 0 ∷ 19 ∷ []) (0 ∷ 0 ∷ 1 ∷ 2 ∷ [])
    ∷  -- p.a inside the open p: p is not closed
    indexed (usual aut68 (bytes_of "+p\n*a:=PN:type\n*b:=PN:p.a\n-p\n") 5 2 0)
    (4 ∷ 1 ∷ 0 ∷ 0 ∷ 1 ∷ 0 ∷ 0 ∷ 1 ∷ 1 ∷ []) (0 ∷ []) (0 ∷ [])
    ∷  -- a line named as an earlier paragraph of the same paragraph
    indexed (usual aut68 (bytes_of "+a\n-a\n*a:=PN:type\n") 4 1 0)
    [] [] []
    ∷  -- 4 is looked at first: the 33rd has a name taken in the 32nd
    indexed (usual aut68 (bytes_of "+p1\n+p2\n+p3\n+p4\n+p5\n+p6\n+p7\n+p8\n+p9\n+p10\n+p11\n+p12\n+p13\n+p14\n+p15\n+p16\n+p17\n+p18\n+p19\n+p20\n+p21\n+p22\n+p23\n+p24\n+p25\n+p26\n+p27\n+p28\n+p29\n+p30\n+p31\n+p32\n*a:=PN:type\n+a\n") 4 2 0)
    (152 ∷ 1 ∷ 0 ∷ 0 ∷ 1 ∷ 0 ∷ 0 ∷ 1 ∷ 32 ∷ []) (0 ∷ []) (0 ∷ [])
    ∷  -- a closing of the outer one does not close the inner with it
    indexed (usual aut68 (bytes_of "+p\n+q\n-p\n") 17 1 0)
    [] [] []
    ∷ []

-- ---- AUT-QE

unfoldable pub naturals : List ℕ
naturals = bytes_of "*nat:=PN:type\n*one:=PN:nat\n*n:=EB:nat\nn*suc:=PN:nat\n*two:=suc(one):nat\n"

-- a family of types, an abbreviation for it, and a thing in each
unfoldable pub families : List ℕ
families = naturals ++ bytes_of "*f:=PN:[x,nat]type\n*d:=f:type\n*g:=PN:f\n*h:=PN:d\n"

unfoldable pub telling_qe : List Case
telling_qe =
    -- 001, 3.3 and 3.4: modus ponens, con, non, dnl
    usual aut_qe (bytes_of "*p:=EB:prop\np*q:=EB:prop\nq*i:=EB:[x,p]q\ni*j:=EB:p\nj*mp:=<j>i:q\n*con:=PN:prop\np*non:=[x,p]con:prop\np*k:=EB:non(non(p))\nk*dnl:=PN:p\n") 0 9 0
    ∷  -- prop is no type
    usual aut_qe (naturals ++ bytes_of "*p:=PN:prop\n*u:=p:type\n") 9 7 0
    ∷  -- second chance: d has category type, but unfolds to f; the head step is counted
    usual aut_qe (families ++ bytes_of "*u:=<one>h:<one>f\n") 0 10 1
    ∷ []
