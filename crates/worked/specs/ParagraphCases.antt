-- Paper 7's cases: books with paragraphs, with the rows, the term cells and the index that are left. Worked has them computed.
use Rattle.std.specs.Prelude.{List, [], ◌∷◌, ◌++◌}
use Rattle.aut68.specs.Language.{aut68}
use Rattle.aut68.specs.Stores.{lending}
use Rattle.aut68.specs.Cases.{Kept, indexed, bytes_of, under, usual}
use Rattle.aut68.specs.Telling.{telling_paragraphs}

unfoldable pub paragraph_cases : List Kept
paragraph_cases =
    telling_paragraphs
    ++
    ( -- a paragraph with one line: its row has 1 in the ninth cell, the last line 0
    indexed (usual aut68 (bytes_of "+p\n*a:=PN:type\n-p\n*b:=PN:type\n") 0 2 0)
    (4 ∷ 1 ∷ 0 ∷ 0 ∷ 1 ∷ 0 ∷ 0 ∷ 1 ∷ 1 ∷ 19 ∷ 1 ∷ 0 ∷ 0 ∷ 1 ∷ 1 ∷ 1 ∷ 2 ∷ 0 ∷ []) (0 ∷ 0 ∷ []) (0 ∷ 0 ∷ [])
    ∷  -- paragraph lines alone: no line, no row
    indexed (usual aut68 (bytes_of "+p\n+q\n-q\n-p\n") 0 0 0)
    [] [] []
    ∷  -- spaces between the symbols and at either end
    indexed (usual aut68 (bytes_of "  + p  \n *a:=PN:type\n -  p\n") 0 1 0)
    (10 ∷ 1 ∷ 0 ∷ 0 ∷ 1 ∷ 0 ∷ 0 ∷ 1 ∷ 1 ∷ []) (0 ∷ []) (0 ∷ [])
    ∷  -- paragraphs are numbered in order of opening
    indexed (usual aut68 (bytes_of "+p\n+q\n*a:=PN:type\n-q\n*a:=PN:type\n-p\n+q\n*a:=PN:type\n-q\n*a:=PN:type\n") 0 4 0)
    (7 ∷ 1 ∷ 0 ∷ 0 ∷ 1 ∷ 0 ∷ 0 ∷ 1 ∷ 2 ∷ 22 ∷ 1 ∷ 0 ∷ 0 ∷ 1 ∷ 1 ∷ 1 ∷ 2 ∷ 1 ∷ 40 ∷ 1 ∷ 0 ∷ 0 ∷ 1 ∷ 2 ∷ 2 ∷ 3 ∷ 3 ∷ 55 ∷ 1 ∷ 0 ∷ 0 ∷ 1 ∷ 3 ∷ 3 ∷ 4 ∷ 0 ∷ []) (0 ∷ 0 ∷ 0 ∷ 0 ∷ []) (0 ∷ 0 ∷ 0 ∷ 0 ∷ [])
    ∷  -- before the inner line stands, the outer one is meant
    indexed (usual aut68 (bytes_of "*a:=PN:type\n+p\n*b:=PN:a\n*a:=PN:type\n-p\n") 0 3 0)
    (1 ∷ 1 ∷ 0 ∷ 0 ∷ 1 ∷ 0 ∷ 0 ∷ 1 ∷ 0 ∷ 16 ∷ 1 ∷ 0 ∷ 0 ∷ 1 ∷ 1 ∷ 1 ∷ 2 ∷ 1 ∷ 25 ∷ 1 ∷ 0 ∷ 0 ∷ 1 ∷ 2 ∷ 2 ∷ 3 ∷ 1 ∷ []) (0 ∷ 11 ∷ 0 ∷ []) (0 ∷ 1 ∷ 1 ∷ 0 ∷ [])
    ∷  -- behind the closing the outer one is meant again
    indexed (usual aut68 (bytes_of "*a:=PN:type\n+p\n*a:=PN:type\n-p\n*b:=PN:a\n") 0 3 0)
    (1 ∷ 1 ∷ 0 ∷ 0 ∷ 1 ∷ 0 ∷ 0 ∷ 1 ∷ 0 ∷ 16 ∷ 1 ∷ 0 ∷ 0 ∷ 1 ∷ 1 ∷ 1 ∷ 2 ∷ 1 ∷ 31 ∷ 1 ∷ 0 ∷ 0 ∷ 1 ∷ 2 ∷ 2 ∷ 3 ∷ 0 ∷ []) (0 ∷ 0 ∷ 11 ∷ []) (0 ∷ 0 ∷ 1 ∷ 1 ∷ [])
    ∷  -- the line of a closed paragraph
    indexed (usual aut68 (bytes_of "+p\n*a:=PN:type\n-p\n*b:=PN:p.a\n") 0 2 0)
    (4 ∷ 1 ∷ 0 ∷ 0 ∷ 1 ∷ 0 ∷ 0 ∷ 1 ∷ 1 ∷ 19 ∷ 1 ∷ 0 ∷ 0 ∷ 1 ∷ 1 ∷ 1 ∷ 2 ∷ 0 ∷ []) (0 ∷ 11 ∷ []) (0 ∷ 1 ∷ 1 ∷ [])
    ∷  -- spaces around the point: it is a symbol
    indexed (usual aut68 (bytes_of "+p\n*a:=PN:type\n-p\n*b:=PN: p . a \n") 0 2 0)
    (4 ∷ 1 ∷ 0 ∷ 0 ∷ 1 ∷ 0 ∷ 0 ∷ 1 ∷ 1 ∷ 19 ∷ 1 ∷ 0 ∷ 0 ∷ 1 ∷ 1 ∷ 1 ∷ 2 ∷ 0 ∷ []) (0 ∷ 11 ∷ []) (0 ∷ 1 ∷ 1 ∷ [])
    ∷  -- p.a with arguments
    indexed (usual aut68 (bytes_of "+p\n*nat:=PN:type\n*n:=EB:nat\nn*suc:=PN:nat\n*one:=PN:nat\n-p\n*two:=p.suc(p.one):p.nat\n") 0 5 0)
    (4 ∷ 3 ∷ 0 ∷ 0 ∷ 1 ∷ 0 ∷ 0 ∷ 1 ∷ 1 ∷ 18 ∷ 1 ∷ 0 ∷ 0 ∷ 0 ∷ 1 ∷ 1 ∷ 2 ∷ 1 ∷ 30 ∷ 3 ∷ 2 ∷ 1 ∷ 1 ∷ 2 ∷ 2 ∷ 3 ∷ 1 ∷ 43 ∷ 3 ∷ 0 ∷ 0 ∷ 1 ∷ 3 ∷ 3 ∷ 4 ∷ 1 ∷ 59 ∷ 3 ∷ 0 ∷ 0 ∷ 2 ∷ 4 ∷ 6 ∷ 7 ∷ 0 ∷ []) (0 ∷ 11 ∷ 11 ∷ 11 ∷ 27 ∷ 35 ∷ 11 ∷ []) (0 ∷ 1 ∷ 1 ∷ 2 ∷ 1 ∷ 2 ∷ 1 ∷ 1 ∷ 3 ∷ 1 ∷ 3 ∷ 4 ∷ [])
    ∷  -- the same identifier from two closed paragraphs
    indexed (usual aut68 (bytes_of "+p\n*a:=PN:type\n-p\n+q\n*a:=PN:type\n-q\n*b:=PN:p.a\n*c:=PN:q.a\n") 0 4 0)
    (4 ∷ 1 ∷ 0 ∷ 0 ∷ 1 ∷ 0 ∷ 0 ∷ 1 ∷ 1 ∷ 22 ∷ 1 ∷ 0 ∷ 0 ∷ 1 ∷ 1 ∷ 1 ∷ 2 ∷ 2 ∷ 37 ∷ 1 ∷ 0 ∷ 0 ∷ 1 ∷ 2 ∷ 2 ∷ 3 ∷ 0 ∷ 48 ∷ 1 ∷ 0 ∷ 0 ∷ 1 ∷ 3 ∷ 3 ∷ 4 ∷ 0 ∷ []) (0 ∷ 0 ∷ 11 ∷ 19 ∷ []) (0 ∷ 0 ∷ 1 ∷ 1 ∷ 1 ∷ 2 ∷ [])
    ∷  -- a closed paragraph is not looked into without its name
    indexed (usual aut68 (bytes_of "+p\n*a:=PN:type\n-p\n*b:=PN:a\n") 5 2 0)
    (4 ∷ 1 ∷ 0 ∷ 0 ∷ 1 ∷ 0 ∷ 0 ∷ 1 ∷ 1 ∷ []) (0 ∷ []) (0 ∷ [])
    ∷  -- no such paragraph
    indexed (usual aut68 (bytes_of "+p\n*a:=PN:type\n-p\n*b:=PN:q.a\n") 5 2 0)
    (4 ∷ 1 ∷ 0 ∷ 0 ∷ 1 ∷ 0 ∷ 0 ∷ 1 ∷ 1 ∷ []) (0 ∷ []) (0 ∷ [])
    ∷  -- no such line in it
    indexed (usual aut68 (bytes_of "+p\n*a:=PN:type\n-p\n*b:=PN:p.c\n") 5 2 0)
    (4 ∷ 1 ∷ 0 ∷ 0 ∷ 1 ∷ 0 ∷ 0 ∷ 1 ∷ 1 ∷ []) (0 ∷ []) (0 ∷ [])
    ∷  -- a paragraph is no line
    indexed (usual aut68 (bytes_of "+p\n*a:=PN:type\n-p\n*b:=PN:p\n") 5 2 0)
    (4 ∷ 1 ∷ 0 ∷ 0 ∷ 1 ∷ 0 ∷ 0 ∷ 1 ∷ 1 ∷ []) (0 ∷ []) (0 ∷ [])
    ∷  -- a paragraph inside a closed one: reached from within
    indexed (usual aut68 (bytes_of "+p\n+q\n*a:=PN:type\n-q\n*b:=PN:q.a\n-p\n") 0 2 0)
    (7 ∷ 1 ∷ 0 ∷ 0 ∷ 1 ∷ 0 ∷ 0 ∷ 1 ∷ 2 ∷ 22 ∷ 1 ∷ 0 ∷ 0 ∷ 1 ∷ 1 ∷ 1 ∷ 2 ∷ 1 ∷ []) (0 ∷ 11 ∷ []) (0 ∷ 1 ∷ 1 ∷ [])
    ∷  -- ... but not from outside
    indexed (usual aut68 (bytes_of "+p\n+q\n*a:=PN:type\n-q\n-p\n*b:=PN:q.a\n") 5 2 0)
    (7 ∷ 1 ∷ 0 ∷ 0 ∷ 1 ∷ 0 ∷ 0 ∷ 1 ∷ 2 ∷ []) (0 ∷ []) (0 ∷ [])
    ∷  -- ... nor by p.q, q being no line
    indexed (usual aut68 (bytes_of "+p\n+q\n*a:=PN:type\n-q\n-p\n*b:=PN:p.q\n") 5 2 0)
    (7 ∷ 1 ∷ 0 ∷ 0 ∷ 1 ∷ 0 ∷ 0 ∷ 1 ∷ 2 ∷ []) (0 ∷ []) (0 ∷ [])
    ∷  -- three parts are no name
    indexed (usual aut68 (bytes_of "+p\n+q\n*a:=PN:type\n-q\n-p\n*b:=PN:p.q.a\n") 3 2 0)
    (7 ∷ 1 ∷ 0 ∷ 0 ∷ 1 ∷ 0 ∷ 0 ∷ 1 ∷ 2 ∷ []) (0 ∷ []) (0 ∷ [])
    ∷  -- p is sought first, the innermost closed one: it hides the outer p even where it lacks the line
    indexed (usual aut68 (bytes_of "+p\n*a:=PN:type\n-p\n+r\n+p\n*c:=PN:type\n-p\n*b:=PN:p.a\n-r\n") 5 3 0)
    (4 ∷ 1 ∷ 0 ∷ 0 ∷ 1 ∷ 0 ∷ 0 ∷ 1 ∷ 1 ∷ 25 ∷ 1 ∷ 0 ∷ 0 ∷ 1 ∷ 1 ∷ 1 ∷ 2 ∷ 3 ∷ []) (0 ∷ 0 ∷ []) (0 ∷ 0 ∷ [])
    ∷  -- ... and is meant where it has it
    indexed (usual aut68 (bytes_of "+p\n*a:=PN:type\n-p\n+r\n+p\n*c:=PN:type\n-p\n*b:=PN:p.c\n-r\n") 0 3 0)
    (4 ∷ 1 ∷ 0 ∷ 0 ∷ 1 ∷ 0 ∷ 0 ∷ 1 ∷ 1 ∷ 25 ∷ 1 ∷ 0 ∷ 0 ∷ 1 ∷ 1 ∷ 1 ∷ 2 ∷ 3 ∷ 40 ∷ 1 ∷ 0 ∷ 0 ∷ 1 ∷ 2 ∷ 2 ∷ 3 ∷ 2 ∷ []) (0 ∷ 0 ∷ 19 ∷ []) (0 ∷ 0 ∷ 1 ∷ 2 ∷ [])
    ∷  -- an open paragraph p does not hide the closed outer one
    indexed (usual aut68 (bytes_of "+p\n*a:=PN:type\n-p\n+r\n+p\n*b:=PN:p.a\n-p\n-r\n") 0 2 0)
    (4 ∷ 1 ∷ 0 ∷ 0 ∷ 1 ∷ 0 ∷ 0 ∷ 1 ∷ 1 ∷ 25 ∷ 1 ∷ 0 ∷ 0 ∷ 1 ∷ 1 ∷ 1 ∷ 2 ∷ 3 ∷ []) (0 ∷ 11 ∷ []) (0 ∷ 1 ∷ 1 ∷ [])
    ∷  -- a closing of none
    indexed (usual aut68 (bytes_of "-p\n") 17 1 0)
    [] [] []
    ∷  -- a closing not of the innermost; the next row's number
    indexed (usual aut68 (bytes_of "+p\n+q\n*a:=PN:type\n-p\n-q\n") 17 2 0)
    (7 ∷ 1 ∷ 0 ∷ 0 ∷ 1 ∷ 0 ∷ 0 ∷ 1 ∷ 2 ∷ []) (0 ∷ []) (0 ∷ [])
    ∷  -- left open at the end: the number after the last row
    indexed (usual aut68 (bytes_of "+p\n*a:=PN:type\n") 17 2 0)
    (4 ∷ 1 ∷ 0 ∷ 0 ∷ 1 ∷ 0 ∷ 0 ∷ 1 ∷ 1 ∷ []) (0 ∷ []) (0 ∷ [])
    ∷  -- all rows and cells are there then, and the steps
    indexed (usual aut68 (bytes_of "+p\n*nat:=PN:type\n*one:=PN:nat\n*n:=EB:nat\nn*suc:=PN:nat\n*two:=suc(one):nat\n*F:=[x,nat]nat:type\n*plus2:=[x,nat]suc(suc(x)):F\n*four:=<two>plus2:nat\n") 17 9 2)
    (4 ∷ 3 ∷ 0 ∷ 0 ∷ 1 ∷ 0 ∷ 0 ∷ 1 ∷ 1 ∷ 18 ∷ 3 ∷ 0 ∷ 0 ∷ 1 ∷ 1 ∷ 1 ∷ 2 ∷ 1 ∷ 31 ∷ 1 ∷ 0 ∷ 0 ∷ 0 ∷ 2 ∷ 2 ∷ 3 ∷ 1 ∷ 43 ∷ 3 ∷ 3 ∷ 1 ∷ 1 ∷ 3 ∷ 3 ∷ 4 ∷ 1 ∷ 56 ∷ 3 ∷ 0 ∷ 0 ∷ 2 ∷ 4 ∷ 6 ∷ 7 ∷ 1 ∷ 75 ∷ 1 ∷ 0 ∷ 0 ∷ 2 ∷ 7 ∷ 10 ∷ 11 ∷ 1 ∷ 95 ∷ 5 ∷ 0 ∷ 0 ∷ 2 ∷ 11 ∷ 16 ∷ 17 ∷ 1 ∷ 124 ∷ 4 ∷ 0 ∷ 0 ∷ 2 ∷ 17 ∷ 20 ∷ 21 ∷ 1 ∷ []) (0 ∷ 11 ∷ 11 ∷ 11 ∷ 35 ∷ 19 ∷ 11 ∷ 5 ∷ 11 ∷ 11 ∷ 0 ∷ 5 ∷ 11 ∷ 35 ∷ 35 ∷ 2 ∷ 51 ∷ 4 ∷ 43 ∷ 59 ∷ 11 ∷ []) (0 ∷ 1 ∷ 1 ∷ 1 ∷ 1 ∷ 2 ∷ 1 ∷ 3 ∷ 3 ∷ 1 ∷ 2 ∷ 4 ∷ 1 ∷ 1 ∷ 3 ∷ 1 ∷ 4 ∷ 6 ∷ 3 ∷ 1 ∷ 5 ∷ 7 ∷ [])
    ∷  -- the bytes of a closing come first
    indexed (usual aut68 (bytes_of "-p x\n") 3 1 0)
    [] [] []
    ∷  -- a last line without byte 10 is malformed before the end is looked at
    indexed (usual aut68 (bytes_of "+p\n*a:=PN:type\n-p") 3 2 0)
    (4 ∷ 1 ∷ 0 ∷ 0 ∷ 1 ∷ 0 ∷ 0 ∷ 1 ∷ 1 ∷ []) (0 ∷ []) (0 ∷ [])
    ∷  -- no name
    indexed (usual aut68 (bytes_of "+\n") 3 1 0)
    [] [] []
    ∷  -- a word is no name
    indexed (usual aut68 (bytes_of "+type\n") 3 1 0)
    [] [] []
    ∷  -- a paragraph name has no point
    indexed (usual aut68 (bytes_of "+p.q\n") 3 1 0)
    [] [] []
    ∷  -- an identifier has no point
    indexed (usual aut68 (bytes_of "*p.a:=PN:type\n") 3 1 0)
    [] [] []
    ∷  -- a bound name has no point
    indexed (usual aut68 (bytes_of "*a:=PN:type\n*b:=[p.x,a]a:type\n") 3 2 0)
    (1 ∷ 1 ∷ 0 ∷ 0 ∷ 1 ∷ 0 ∷ 0 ∷ 1 ∷ 0 ∷ []) (0 ∷ []) (0 ∷ [])
    ∷  -- nothing before the point
    indexed (usual aut68 (bytes_of "*b:=.a:type\n") 3 1 0)
    [] [] []
    ∷  -- type is a word after the point too
    indexed (usual aut68 (bytes_of "*b:=p.type:type\n") 3 1 0)
    [] [] []
    ∷  -- a name twice in one paragraph
    indexed (usual aut68 (bytes_of "+p\n*a:=PN:type\n*a:=PN:type\n-p\n") 4 2 0)
    (4 ∷ 1 ∷ 0 ∷ 0 ∷ 1 ∷ 0 ∷ 0 ∷ 1 ∷ 1 ∷ []) (0 ∷ []) (0 ∷ [])
    ∷  -- a paragraph named as an earlier line of the same paragraph
    indexed (usual aut68 (bytes_of "*a:=PN:type\n+a\n-a\n") 4 2 0)
    (1 ∷ 1 ∷ 0 ∷ 0 ∷ 1 ∷ 0 ∷ 0 ∷ 1 ∷ 0 ∷ []) (0 ∷ []) (0 ∷ [])
    ∷  -- a closed paragraph is not opened again
    indexed (usual aut68 (bytes_of "+p\n*a:=PN:type\n-p\n+p\n-p\n") 4 2 0)
    (4 ∷ 1 ∷ 0 ∷ 0 ∷ 1 ∷ 0 ∷ 0 ∷ 1 ∷ 1 ∷ []) (0 ∷ []) (0 ∷ [])
    ∷  -- p inside p is another paragraph
    indexed (usual aut68 (bytes_of "+p\n+p\n*p:=PN:type\n-p\n-p\n") 0 1 0)
    (7 ∷ 1 ∷ 0 ∷ 0 ∷ 1 ∷ 0 ∷ 0 ∷ 1 ∷ 2 ∷ []) (0 ∷ []) (0 ∷ [])
    ∷  -- 32 paragraphs open
    indexed (usual aut68 (bytes_of "+p1\n+p2\n+p3\n+p4\n+p5\n+p6\n+p7\n+p8\n+p9\n+p10\n+p11\n+p12\n+p13\n+p14\n+p15\n+p16\n+p17\n+p18\n+p19\n+p20\n+p21\n+p22\n+p23\n+p24\n+p25\n+p26\n+p27\n+p28\n+p29\n+p30\n+p31\n+p32\n*a:=PN:type\n-p32\n-p31\n-p30\n-p29\n-p28\n-p27\n-p26\n-p25\n-p24\n-p23\n-p22\n-p21\n-p20\n-p19\n-p18\n-p17\n-p16\n-p15\n-p14\n-p13\n-p12\n-p11\n-p10\n-p9\n-p8\n-p7\n-p6\n-p5\n-p4\n-p3\n-p2\n-p1\n") 0 1 0)
    (152 ∷ 1 ∷ 0 ∷ 0 ∷ 1 ∷ 0 ∷ 0 ∷ 1 ∷ 32 ∷ []) (0 ∷ []) (0 ∷ [])
    ∷  -- 33 are 12, with the next row's number
    indexed (usual aut68 (bytes_of "*a:=PN:type\n+p1\n+p2\n+p3\n+p4\n+p5\n+p6\n+p7\n+p8\n+p9\n+p10\n+p11\n+p12\n+p13\n+p14\n+p15\n+p16\n+p17\n+p18\n+p19\n+p20\n+p21\n+p22\n+p23\n+p24\n+p25\n+p26\n+p27\n+p28\n+p29\n+p30\n+p31\n+p32\n+p33\n") 12 2 0)
    (1 ∷ 1 ∷ 0 ∷ 0 ∷ 1 ∷ 0 ∷ 0 ∷ 1 ∷ 0 ∷ []) (0 ∷ []) (0 ∷ [])
    ∷  -- the case for 12: 63 table cells hold seven rows
    indexed (under aut68 (lending 100000 128 63 16384 16384 16384) (bytes_of "*nat:=PN:type\n*one:=PN:nat\n*n:=EB:nat\nn*suc:=PN:nat\n*two:=suc(one):nat\n*F:=[x,nat]nat:type\n*plus2:=[x,nat]suc(suc(x)):F\n*four:=<two>plus2:nat\n") 12 8 1)
    (1 ∷ 3 ∷ 0 ∷ 0 ∷ 1 ∷ 0 ∷ 0 ∷ 1 ∷ 0 ∷ 15 ∷ 3 ∷ 0 ∷ 0 ∷ 1 ∷ 1 ∷ 1 ∷ 2 ∷ 0 ∷ 28 ∷ 1 ∷ 0 ∷ 0 ∷ 0 ∷ 2 ∷ 2 ∷ 3 ∷ 0 ∷ 40 ∷ 3 ∷ 3 ∷ 1 ∷ 1 ∷ 3 ∷ 3 ∷ 4 ∷ 0 ∷ 53 ∷ 3 ∷ 0 ∷ 0 ∷ 2 ∷ 4 ∷ 6 ∷ 7 ∷ 0 ∷ 72 ∷ 1 ∷ 0 ∷ 0 ∷ 2 ∷ 7 ∷ 10 ∷ 11 ∷ 0 ∷ 92 ∷ 5 ∷ 0 ∷ 0 ∷ 2 ∷ 11 ∷ 16 ∷ 17 ∷ 0 ∷ []) (0 ∷ 11 ∷ 11 ∷ 11 ∷ 35 ∷ 19 ∷ 11 ∷ 5 ∷ 11 ∷ 11 ∷ 0 ∷ 5 ∷ 11 ∷ 35 ∷ 35 ∷ 2 ∷ 51 ∷ []) (0 ∷ 1 ∷ 1 ∷ 1 ∷ 1 ∷ 2 ∷ 1 ∷ 3 ∷ 3 ∷ 1 ∷ 2 ∷ 4 ∷ 1 ∷ 1 ∷ 3 ∷ 1 ∷ 4 ∷ 6 ∷ [])
    ∷  -- 72 hold eight
    indexed (under aut68 (lending 100000 128 72 16384 16384 16384) (bytes_of "*nat:=PN:type\n*one:=PN:nat\n*n:=EB:nat\nn*suc:=PN:nat\n*two:=suc(one):nat\n*F:=[x,nat]nat:type\n*plus2:=[x,nat]suc(suc(x)):F\n*four:=<two>plus2:nat\n") 0 8 2)
    (1 ∷ 3 ∷ 0 ∷ 0 ∷ 1 ∷ 0 ∷ 0 ∷ 1 ∷ 0 ∷ 15 ∷ 3 ∷ 0 ∷ 0 ∷ 1 ∷ 1 ∷ 1 ∷ 2 ∷ 0 ∷ 28 ∷ 1 ∷ 0 ∷ 0 ∷ 0 ∷ 2 ∷ 2 ∷ 3 ∷ 0 ∷ 40 ∷ 3 ∷ 3 ∷ 1 ∷ 1 ∷ 3 ∷ 3 ∷ 4 ∷ 0 ∷ 53 ∷ 3 ∷ 0 ∷ 0 ∷ 2 ∷ 4 ∷ 6 ∷ 7 ∷ 0 ∷ 72 ∷ 1 ∷ 0 ∷ 0 ∷ 2 ∷ 7 ∷ 10 ∷ 11 ∷ 0 ∷ 92 ∷ 5 ∷ 0 ∷ 0 ∷ 2 ∷ 11 ∷ 16 ∷ 17 ∷ 0 ∷ 121 ∷ 4 ∷ 0 ∷ 0 ∷ 2 ∷ 17 ∷ 20 ∷ 21 ∷ 0 ∷ []) (0 ∷ 11 ∷ 11 ∷ 11 ∷ 35 ∷ 19 ∷ 11 ∷ 5 ∷ 11 ∷ 11 ∷ 0 ∷ 5 ∷ 11 ∷ 35 ∷ 35 ∷ 2 ∷ 51 ∷ 4 ∷ 43 ∷ 59 ∷ 11 ∷ []) (0 ∷ 1 ∷ 1 ∷ 1 ∷ 1 ∷ 2 ∷ 1 ∷ 3 ∷ 3 ∷ 1 ∷ 2 ∷ 4 ∷ 1 ∷ 1 ∷ 3 ∷ 1 ∷ 4 ∷ 6 ∷ 3 ∷ 1 ∷ 5 ∷ 7 ∷ [])
    ∷  -- an indicator in a closed paragraph: b has x in its context
    indexed (usual aut68 (bytes_of "+p\n*x:=EB:type\n-p\np.x*b:=PN:p.x\n") 0 2 0)
    (4 ∷ 1 ∷ 0 ∷ 0 ∷ 0 ∷ 0 ∷ 0 ∷ 1 ∷ 1 ∷ 22 ∷ 1 ∷ 1 ∷ 1 ∷ 1 ∷ 1 ∷ 1 ∷ 2 ∷ 0 ∷ []) (0 ∷ 9 ∷ []) (0 ∷ 1 ∷ 1 ∷ [])
    ∷  -- an indicator that is a constant of a closed paragraph
    indexed (usual aut68 (bytes_of "+p\n*x:=PN:type\n-p\np.x*b:=PN:type\n") 5 2 0)
    (4 ∷ 1 ∷ 0 ∷ 0 ∷ 1 ∷ 0 ∷ 0 ∷ 1 ∷ 1 ∷ []) (0 ∷ []) (0 ∷ [])
    ∷  -- a variable of a closed paragraph, not in the context
    indexed (usual aut68 (bytes_of "+p\n*x:=EB:type\n-p\n*b:=PN:p.x\n") 14 2 0)
    (4 ∷ 1 ∷ 0 ∷ 0 ∷ 0 ∷ 0 ∷ 0 ∷ 1 ∷ 1 ∷ []) (0 ∷ []) (0 ∷ [])
    ∷  -- an inner variable out of context hides an outer constant: 14, no search outward
    indexed (usual aut68 (bytes_of "*x:=PN:type\n+p\n*x:=EB:type\n*b:=PN:x\n-p\n") 14 3 0)
    (1 ∷ 1 ∷ 0 ∷ 0 ∷ 1 ∷ 0 ∷ 0 ∷ 1 ∷ 0 ∷ 16 ∷ 1 ∷ 0 ∷ 0 ∷ 0 ∷ 1 ∷ 1 ∷ 2 ∷ 1 ∷ []) (0 ∷ 0 ∷ []) (0 ∷ 0 ∷ [])
    ∷  -- a context that goes through a paragraph
    indexed (usual aut68 (bytes_of "*x:=EB:type\n+p\nx*y:=EB:x\n-p\np.y*z:=EB:x\nz*b:=p.y:x\n") 0 4 0)
    (1 ∷ 1 ∷ 0 ∷ 0 ∷ 0 ∷ 0 ∷ 0 ∷ 1 ∷ 0 ∷ 17 ∷ 1 ∷ 1 ∷ 1 ∷ 0 ∷ 1 ∷ 1 ∷ 2 ∷ 1 ∷ 32 ∷ 1 ∷ 2 ∷ 2 ∷ 0 ∷ 2 ∷ 2 ∷ 3 ∷ 0 ∷ 42 ∷ 1 ∷ 3 ∷ 3 ∷ 2 ∷ 3 ∷ 4 ∷ 5 ∷ 0 ∷ []) (0 ∷ 9 ∷ 9 ∷ 17 ∷ 9 ∷ []) (0 ∷ 1 ∷ 1 ∷ 2 ∷ 1 ∷ 2 ∷ 3 ∷ 1 ∷ 2 ∷ 3 ∷ [])
    ∷  -- arguments left out across a paragraph: p.f means f of p.x
    indexed (usual aut68 (bytes_of "+p\n*x:=EB:type\nx*f:=PN:type\n-p\np.x*g:=p.f:type\n") 0 3 0)
    (4 ∷ 1 ∷ 0 ∷ 0 ∷ 0 ∷ 0 ∷ 0 ∷ 1 ∷ 1 ∷ 17 ∷ 1 ∷ 1 ∷ 1 ∷ 1 ∷ 1 ∷ 1 ∷ 2 ∷ 1 ∷ 35 ∷ 1 ∷ 1 ∷ 1 ∷ 2 ∷ 2 ∷ 4 ∷ 5 ∷ 0 ∷ []) (0 ∷ 0 ∷ 19 ∷ 9 ∷ 0 ∷ []) (0 ∷ 1 ∷ 1 ∷ 2 ∷ 1 ∷ 2 ∷ [])
    ∷  -- a left out variable whose name means another line here: it is put in all the same
    indexed (usual aut68 (bytes_of "*x:=EB:type\nx*f:=PN:type\n+p\nx*x:=EB:type\nx*g:=f:type\n-p\n") 0 4 0)
    (1 ∷ 1 ∷ 0 ∷ 0 ∷ 0 ∷ 0 ∷ 0 ∷ 1 ∷ 0 ∷ 14 ∷ 1 ∷ 1 ∷ 1 ∷ 1 ∷ 1 ∷ 1 ∷ 2 ∷ 0 ∷ 30 ∷ 1 ∷ 1 ∷ 1 ∷ 0 ∷ 2 ∷ 2 ∷ 3 ∷ 1 ∷ 43 ∷ 1 ∷ 3 ∷ 2 ∷ 2 ∷ 3 ∷ 5 ∷ 6 ∷ 1 ∷ []) (0 ∷ 0 ∷ 0 ∷ 19 ∷ 9 ∷ 0 ∷ []) (0 ∷ 1 ∷ 1 ∷ 1 ∷ 1 ∷ 3 ∷ 1 ∷ 2 ∷ 3 ∷ [])
    ∷  -- a binding named p does not hide p.a
    indexed (usual aut68 (bytes_of "+p\n*a:=PN:type\n-p\n*b:=[p,p.a]p:[x,p.a]p.a\n*c:=[p,p.a]p.a:type\n") 0 3 0)
    (4 ∷ 1 ∷ 0 ∷ 0 ∷ 1 ∷ 0 ∷ 0 ∷ 1 ∷ 1 ∷ 19 ∷ 1 ∷ 0 ∷ 0 ∷ 2 ∷ 1 ∷ 4 ∷ 7 ∷ 0 ∷ 43 ∷ 1 ∷ 0 ∷ 0 ∷ 2 ∷ 7 ∷ 10 ∷ 11 ∷ 0 ∷ []) (0 ∷ 5 ∷ 11 ∷ 2 ∷ 5 ∷ 11 ∷ 11 ∷ 5 ∷ 11 ∷ 11 ∷ 0 ∷ []) (0 ∷ 1 ∷ 1 ∷ 1 ∷ 1 ∷ [])
    ∷  -- a line may take its own indicator's identifier
    indexed (usual aut68 (bytes_of "*n:=EB:type\n+p\nn*n:=PN:n\n-p\n") 0 2 0)
    (1 ∷ 1 ∷ 0 ∷ 0 ∷ 0 ∷ 0 ∷ 0 ∷ 1 ∷ 0 ∷ 17 ∷ 1 ∷ 1 ∷ 1 ∷ 1 ∷ 1 ∷ 1 ∷ 2 ∷ 1 ∷ []) (0 ∷ 9 ∷ []) (0 ∷ 1 ∷ 1 ∷ [])
    ∷  -- nesting: p.a opens at its first byte, 33 deep is 10
    indexed (usual aut68 (bytes_of "+p\n*a:=PN:type\n-p\n*b:=<p.a><p.a><p.a><p.a><p.a><p.a><p.a><p.a><p.a><p.a><p.a><p.a><p.a><p.a><p.a><p.a><p.a><p.a><p.a><p.a><p.a><p.a><p.a><p.a><p.a><p.a><p.a><p.a><p.a><p.a><p.a><p.a>p.a:type\n") 10 2 0)
    (4 ∷ 1 ∷ 0 ∷ 0 ∷ 1 ∷ 0 ∷ 0 ∷ 1 ∷ 1 ∷ []) (0 ∷ []) (0 ∷ [])
    ∷  -- 32 deep is read: 7
    indexed (usual aut68 (bytes_of "+p\n*a:=PN:type\n-p\n*b:=<p.a><p.a><p.a><p.a><p.a><p.a><p.a><p.a><p.a><p.a><p.a><p.a><p.a><p.a><p.a><p.a><p.a><p.a><p.a><p.a><p.a><p.a><p.a><p.a><p.a><p.a><p.a><p.a><p.a><p.a><p.a>p.a:type\n") 7 2 0)
    (4 ∷ 1 ∷ 0 ∷ 0 ∷ 1 ∷ 0 ∷ 0 ∷ 1 ∷ 1 ∷ []) (0 ∷ []) (0 ∷ [])
    ∷  -- deleting leaves the paragraph lines: an empty paragraph is right
    indexed (usual aut68 (bytes_of "+p\n+q\n-q\n*a:=PN:type\n-p\n") 0 1 0)
    (10 ∷ 1 ∷ 0 ∷ 0 ∷ 1 ∷ 0 ∷ 0 ∷ 1 ∷ 1 ∷ []) (0 ∷ []) (0 ∷ [])
    ∷  -- an arrangement within the conditions: c before b, each in its paragraph
    indexed (usual aut68 (bytes_of "*a:=PN:type\n+p\n*c:=PN:a\n*b:=PN:a\n-p\n") 0 3 0)
    (1 ∷ 1 ∷ 0 ∷ 0 ∷ 1 ∷ 0 ∷ 0 ∷ 1 ∷ 0 ∷ 16 ∷ 1 ∷ 0 ∷ 0 ∷ 1 ∷ 1 ∷ 1 ∷ 2 ∷ 1 ∷ 25 ∷ 1 ∷ 0 ∷ 0 ∷ 1 ∷ 2 ∷ 2 ∷ 3 ∷ 1 ∷ []) (0 ∷ 11 ∷ 11 ∷ []) (0 ∷ 1 ∷ 1 ∷ 1 ∷ 1 ∷ [])
    ∷  -- nothing is promised of others: b ahead of the inner a it named is accepted, with another meaning
    indexed (usual aut68 (bytes_of "*a:=PN:type\n+p\n*b:=PN:a\n*a:=PN:type\n-p\n") 0 3 0)
    (1 ∷ 1 ∷ 0 ∷ 0 ∷ 1 ∷ 0 ∷ 0 ∷ 1 ∷ 0 ∷ 16 ∷ 1 ∷ 0 ∷ 0 ∷ 1 ∷ 1 ∷ 1 ∷ 2 ∷ 1 ∷ 25 ∷ 1 ∷ 0 ∷ 0 ∷ 1 ∷ 2 ∷ 2 ∷ 3 ∷ 1 ∷ []) (0 ∷ 11 ∷ 0 ∷ []) (0 ∷ 1 ∷ 1 ∷ 0 ∷ [])
    ∷  -- ... or gets 14: b named the constant a and now finds a variable
    indexed (usual aut68 (bytes_of "*a:=EB:type\n+p\n*b:=a:type\n*a:=PN:type\n-p\n") 14 2 0)
    (1 ∷ 1 ∷ 0 ∷ 0 ∷ 0 ∷ 0 ∷ 0 ∷ 1 ∷ 0 ∷ []) (0 ∷ []) (0 ∷ [])
    ∷  -- ... or 8: b named the inner a, a type, and now finds one that is not
    indexed (usual aut68 (bytes_of "*t:=PN:type\n*a:=PN:t\n+p\n*b:=PN:a\n*a:=PN:type\n-p\n") 8 3 0)
    (1 ∷ 1 ∷ 0 ∷ 0 ∷ 1 ∷ 0 ∷ 0 ∷ 1 ∷ 0 ∷ 13 ∷ 1 ∷ 0 ∷ 0 ∷ 1 ∷ 1 ∷ 1 ∷ 2 ∷ 0 ∷ []) (0 ∷ 11 ∷ []) (0 ∷ 1 ∷ 1 ∷ [])
    ∷  -- books without paragraphs and points are as before, but for the ninth cell
    indexed (usual aut68 (bytes_of "*nat:=PN:type\n*one:=PN:nat\n*n:=EB:nat\nn*suc:=PN:nat\n*two:=suc(one):nat\n*F:=[x,nat]nat:type\n*plus2:=[x,nat]suc(suc(x)):F\n*four:=<two>plus2:nat\n") 0 8 2)
    (1 ∷ 3 ∷ 0 ∷ 0 ∷ 1 ∷ 0 ∷ 0 ∷ 1 ∷ 0 ∷ 15 ∷ 3 ∷ 0 ∷ 0 ∷ 1 ∷ 1 ∷ 1 ∷ 2 ∷ 0 ∷ 28 ∷ 1 ∷ 0 ∷ 0 ∷ 0 ∷ 2 ∷ 2 ∷ 3 ∷ 0 ∷ 40 ∷ 3 ∷ 3 ∷ 1 ∷ 1 ∷ 3 ∷ 3 ∷ 4 ∷ 0 ∷ 53 ∷ 3 ∷ 0 ∷ 0 ∷ 2 ∷ 4 ∷ 6 ∷ 7 ∷ 0 ∷ 72 ∷ 1 ∷ 0 ∷ 0 ∷ 2 ∷ 7 ∷ 10 ∷ 11 ∷ 0 ∷ 92 ∷ 5 ∷ 0 ∷ 0 ∷ 2 ∷ 11 ∷ 16 ∷ 17 ∷ 0 ∷ 121 ∷ 4 ∷ 0 ∷ 0 ∷ 2 ∷ 17 ∷ 20 ∷ 21 ∷ 0 ∷ []) (0 ∷ 11 ∷ 11 ∷ 11 ∷ 35 ∷ 19 ∷ 11 ∷ 5 ∷ 11 ∷ 11 ∷ 0 ∷ 5 ∷ 11 ∷ 35 ∷ 35 ∷ 2 ∷ 51 ∷ 4 ∷ 43 ∷ 59 ∷ 11 ∷ []) (0 ∷ 1 ∷ 1 ∷ 1 ∷ 1 ∷ 2 ∷ 1 ∷ 3 ∷ 3 ∷ 1 ∷ 2 ∷ 4 ∷ 1 ∷ 1 ∷ 3 ∷ 1 ∷ 4 ∷ 6 ∷ 3 ∷ 1 ∷ 5 ∷ 7 ∷ [])
    ∷ [])
