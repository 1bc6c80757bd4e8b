-- Paper 1, omitted arguments: its worked cases, with the rows and the term cells that are left. Worked has them computed.
use Rattle.std.specs.Prelude.{List, [], ◌∷◌, ◌++◌}
use Rattle.aut68.specs.Language.{aut68}
use Rattle.aut68.specs.Stores.{lending}
use Rattle.aut68.specs.Cases.{Kept, kept, bytes_of, under, usual}
use Rattle.aut68.specs.Telling.{sums, sum_rows, sum_cells, telling_omitted}

unfoldable pub omitted_arguments : List Kept
omitted_arguments =
    telling_omitted
    ++
    ( -- one of one left out: suc means suc(n); the outer suc is written in full
    kept (usual aut68 (sums ++ bytes_of "n*t:=suc(suc):nat\n") 0 6 0)
    (sum_rows ++ 67 ∷ 1 ∷ 2 ∷ 1 ∷ 2 ∷ 5 ∷ 8 ∷ 9 ∷ 0 ∷ []) (sum_cells ++ 27 ∷ 27 ∷ 17 ∷ 11 ∷ [])
    ∷  -- the first left out, the last written: add(suc(m)) means add(n,suc(m)), and suc(m) is in full
    kept (usual aut68 (sums ++ bytes_of "m*t:=add(suc(m)):nat\n") 0 6 0)
    (sum_rows ++ 67 ∷ 1 ∷ 4 ∷ 2 ∷ 2 ∷ 5 ∷ 9 ∷ 10 ∷ 0 ∷ []) (sum_cells ++ 43 ∷ 17 ∷ 27 ∷ 33 ∷ 11 ∷ [])
    ∷  -- the block of n alone is enough when only n is left out: add(n) means add(n,n)
    kept (usual aut68 (sums ++ bytes_of "n*t:=add(n):nat\n") 0 6 0)
    (sum_rows ++ 67 ∷ 1 ∷ 2 ∷ 1 ∷ 2 ∷ 5 ∷ 8 ∷ 9 ∷ 0 ∷ []) (sum_cells ++ 43 ∷ 17 ∷ 17 ∷ 11 ∷ [])
    ∷  -- two left out, but the line's own context has only n
    kept (usual aut68 (sums ++ bytes_of "n*t:=add:nat\n") 6 6 0)
    sum_rows sum_cells
    ∷  -- left out with no context at all: 6 as before
    kept (usual aut68 (sums ++ bytes_of "*t:=suc:nat\n") 6 6 0)
    sum_rows sum_cells
    ∷  -- blocks that part: f needs x, y and the line has x, z
    kept (usual aut68 (bytes_of "*x:=EB:type\nx*y:=EB:type\nx*z:=EB:type\ny*f:=PN:type\nz*t:=f:type\n") 6 5 0)
    (1 ∷ 1 ∷ 0 ∷ 0 ∷ 0 ∷ 0 ∷ 0 ∷ 1 ∷ 0 ∷ 14 ∷ 1 ∷ 1 ∷ 1 ∷ 0 ∷ 1 ∷ 1 ∷ 2 ∷ 0 ∷ 27 ∷ 1 ∷ 1 ∷ 1 ∷ 0 ∷ 2 ∷ 2 ∷ 3 ∷ 0 ∷ 40 ∷ 1 ∷ 2 ∷ 2 ∷ 1 ∷ 3 ∷ 3 ∷ 4 ∷ 0 ∷ []) (0 ∷ 0 ∷ 0 ∷ 0 ∷ [])
    ∷  -- ... but x alone may be left out: f(z) means f(x,z)
    kept (usual aut68 (bytes_of "*x:=EB:type\nx*y:=EB:type\nx*z:=EB:type\ny*f:=PN:type\nz*t:=f(z):type\n") 0 5 0)
    (1 ∷ 1 ∷ 0 ∷ 0 ∷ 0 ∷ 0 ∷ 0 ∷ 1 ∷ 0 ∷ 14 ∷ 1 ∷ 1 ∷ 1 ∷ 0 ∷ 1 ∷ 1 ∷ 2 ∷ 0 ∷ 27 ∷ 1 ∷ 1 ∷ 1 ∷ 0 ∷ 2 ∷ 2 ∷ 3 ∷ 0 ∷ 40 ∷ 1 ∷ 2 ∷ 2 ∷ 1 ∷ 3 ∷ 3 ∷ 4 ∷ 0 ∷ 53 ∷ 1 ∷ 3 ∷ 2 ∷ 2 ∷ 4 ∷ 7 ∷ 8 ∷ 0 ∷ []) (0 ∷ 0 ∷ 0 ∷ 0 ∷ 35 ∷ 9 ∷ 25 ∷ 0 ∷ [])
    ∷  -- more arguments than variables
    kept (usual aut68 (sums ++ bytes_of "n*t:=suc(n,n):nat\n") 6 6 0)
    sum_rows sum_cells
    ∷  -- a bound variable takes none
    kept (usual aut68 (sums ++ bytes_of "n*t:=[x,nat]x(n):[x,nat]nat\n") 6 6 0)
    sum_rows sum_cells
    ∷  -- a binding named n does not catch the argument put in: suc means suc of the variable, cell 17 and not 2
    kept (usual aut68 (sums ++ bytes_of "n*t:=[n,nat]suc:[n,nat]nat\n") 0 6 0)
    (sum_rows ++ 67 ∷ 1 ∷ 2 ∷ 1 ∷ 2 ∷ 5 ∷ 9 ∷ 12 ∷ 0 ∷ []) (sum_cells ++ 5 ∷ 11 ∷ 27 ∷ 17 ∷ 5 ∷ 11 ∷ 11 ∷ [])
    ∷  -- the innermost binding of a name still wins: here suc is the bound one and nothing is put in
    kept (usual aut68 (sums ++ bytes_of "n*t:=[suc,nat]suc:[x,nat]nat\n") 0 6 0)
    (sum_rows ++ 67 ∷ 1 ∷ 2 ∷ 1 ∷ 2 ∷ 5 ∷ 8 ∷ 11 ∷ 0 ∷ []) (sum_cells ++ 5 ∷ 11 ∷ 2 ∷ 5 ∷ 11 ∷ 11 ∷ [])
    ∷  -- left out in the category too
    kept (usual aut68 (sums ++ bytes_of "n*is:=PN:type\nn*p:=PN:is\n") 0 7 0)
    (sum_rows ++ 67 ∷ 2 ∷ 2 ∷ 1 ∷ 1 ∷ 5 ∷ 5 ∷ 6 ∷ 0 ∷ 81 ∷ 1 ∷ 2 ∷ 1 ∷ 1 ∷ 6 ∷ 6 ∷ 8 ∷ 0 ∷ []) (sum_cells ++ 0 ∷ 51 ∷ 17 ∷ [])
    ∷  -- the completed form has the wrong category: is(n) against is(m)
    kept (usual aut68 (sums ++ bytes_of "n*is:=PN:type\nn*p:=PN:is\nm*q:=p:is(m)\n") 9 8 0)
    (sum_rows ++ 67 ∷ 2 ∷ 2 ∷ 1 ∷ 1 ∷ 5 ∷ 5 ∷ 6 ∷ 0 ∷ 81 ∷ 1 ∷ 2 ∷ 1 ∷ 1 ∷ 6 ∷ 6 ∷ 8 ∷ 0 ∷ []) (sum_cells ++ 0 ∷ 51 ∷ 17 ∷ [])
    ∷  -- the same with the argument written: equal
    kept (usual aut68 (sums ++ bytes_of "n*is:=PN:type\nn*p:=PN:is\nm*q:=p:is(n)\n") 0 8 0)
    (sum_rows ++ 67 ∷ 2 ∷ 2 ∷ 1 ∷ 1 ∷ 5 ∷ 5 ∷ 6 ∷ 0 ∷ 81 ∷ 1 ∷ 2 ∷ 1 ∷ 1 ∷ 6 ∷ 6 ∷ 8 ∷ 0 ∷ 92 ∷ 1 ∷ 4 ∷ 2 ∷ 2 ∷ 8 ∷ 10 ∷ 12 ∷ 0 ∷ []) (sum_cells ++ 0 ∷ 51 ∷ 17 ∷ 59 ∷ 17 ∷ 51 ∷ 17 ∷ [])
    ∷  -- the case for 10: 17 cells, L = 16
    kept (under aut68 (lending 100000 16 16380 16384 2048 16384) (bytes_of "*a:=PN:type\n*u:=[x,a][x,a][x,a][x,a][x,a][x,a][x,a][x,a]a:type\n") 10 2 0)
    (1 ∷ 1 ∷ 0 ∷ 0 ∷ 1 ∷ 0 ∷ 0 ∷ 1 ∷ 0 ∷ []) (0 ∷ [])
    ∷  -- 15 cells pass
    kept (under aut68 (lending 100000 16 16380 16384 2048 16384) (bytes_of "*a:=PN:type\n*u:=[x,a][x,a][x,a][x,a][x,a][x,a][x,a]a:type\n") 0 2 0)
    (1 ∷ 1 ∷ 0 ∷ 0 ∷ 1 ∷ 0 ∷ 0 ∷ 1 ∷ 0 ∷ 13 ∷ 1 ∷ 0 ∷ 0 ∷ 2 ∷ 1 ∷ 16 ∷ 17 ∷ 0 ∷ []) (0 ∷ 5 ∷ 11 ∷ 5 ∷ 11 ∷ 5 ∷ 11 ∷ 5 ∷ 11 ∷ 5 ∷ 11 ∷ 5 ∷ 11 ∷ 5 ∷ 11 ∷ 11 ∷ 0 ∷ [])
    ∷  -- one symbol as written, 17 cells completed: 10
    kept (under aut68 (lending 100000 16 16380 16384 2048 16384) (bytes_of "*x1:=EB:type\nx1*x2:=EB:type\nx2*x3:=EB:type\nx3*x4:=EB:type\nx4*x5:=EB:type\nx5*x6:=EB:type\nx6*x7:=EB:type\nx7*x8:=EB:type\nx8*x9:=EB:type\nx9*x10:=EB:type\nx10*x11:=EB:type\nx11*x12:=EB:type\nx12*x13:=EB:type\nx13*x14:=EB:type\nx14*x15:=EB:type\nx15*x16:=EB:type\nx16*c:=PN:type\nx16*u:=c:type\n") 10 18 0)
    (1 ∷ 2 ∷ 0 ∷ 0 ∷ 0 ∷ 0 ∷ 0 ∷ 1 ∷ 0 ∷ 16 ∷ 2 ∷ 1 ∷ 1 ∷ 0 ∷ 1 ∷ 1 ∷ 2 ∷ 0 ∷ 31 ∷ 2 ∷ 2 ∷ 2 ∷ 0 ∷ 2 ∷ 2 ∷ 3 ∷ 0 ∷ 46 ∷ 2 ∷ 3 ∷ 3 ∷ 0 ∷ 3 ∷ 3 ∷ 4 ∷ 0 ∷ 61 ∷ 2 ∷ 4 ∷ 4 ∷ 0 ∷ 4 ∷ 4 ∷ 5 ∷ 0 ∷ 76 ∷ 2 ∷ 5 ∷ 5 ∷ 0 ∷ 5 ∷ 5 ∷ 6 ∷ 0 ∷ 91 ∷ 2 ∷ 6 ∷ 6 ∷ 0 ∷ 6 ∷ 6 ∷ 7 ∷ 0 ∷ 106 ∷ 2 ∷ 7 ∷ 7 ∷ 0 ∷ 7 ∷ 7 ∷ 8 ∷ 0 ∷ 121 ∷ 2 ∷ 8 ∷ 8 ∷ 0 ∷ 8 ∷ 8 ∷ 9 ∷ 0 ∷ 136 ∷ 3 ∷ 9 ∷ 9 ∷ 0 ∷ 9 ∷ 9 ∷ 10 ∷ 0 ∷ 153 ∷ 3 ∷ 10 ∷ 10 ∷ 0 ∷ 10 ∷ 10 ∷ 11 ∷ 0 ∷ 170 ∷ 3 ∷ 11 ∷ 11 ∷ 0 ∷ 11 ∷ 11 ∷ 12 ∷ 0 ∷ 187 ∷ 3 ∷ 12 ∷ 12 ∷ 0 ∷ 12 ∷ 12 ∷ 13 ∷ 0 ∷ 204 ∷ 3 ∷ 13 ∷ 13 ∷ 0 ∷ 13 ∷ 13 ∷ 14 ∷ 0 ∷ 221 ∷ 3 ∷ 14 ∷ 14 ∷ 0 ∷ 14 ∷ 14 ∷ 15 ∷ 0 ∷ 238 ∷ 3 ∷ 15 ∷ 15 ∷ 0 ∷ 15 ∷ 15 ∷ 16 ∷ 0 ∷ 255 ∷ 1 ∷ 16 ∷ 16 ∷ 1 ∷ 16 ∷ 16 ∷ 17 ∷ 0 ∷ []) (0 ∷ 0 ∷ 0 ∷ 0 ∷ 0 ∷ 0 ∷ 0 ∷ 0 ∷ 0 ∷ 0 ∷ 0 ∷ 0 ∷ 0 ∷ 0 ∷ 0 ∷ 0 ∷ 0 ∷ [])
    ∷  -- 16 cells completed: passes
    kept (under aut68 (lending 100000 16 16380 16384 2048 16384) (bytes_of "*x1:=EB:type\nx1*x2:=EB:type\nx2*x3:=EB:type\nx3*x4:=EB:type\nx4*x5:=EB:type\nx5*x6:=EB:type\nx6*x7:=EB:type\nx7*x8:=EB:type\nx8*x9:=EB:type\nx9*x10:=EB:type\nx10*x11:=EB:type\nx11*x12:=EB:type\nx12*x13:=EB:type\nx13*x14:=EB:type\nx14*x15:=EB:type\nx15*c:=PN:type\nx15*u:=c:type\n") 0 17 0)
    (1 ∷ 2 ∷ 0 ∷ 0 ∷ 0 ∷ 0 ∷ 0 ∷ 1 ∷ 0 ∷ 16 ∷ 2 ∷ 1 ∷ 1 ∷ 0 ∷ 1 ∷ 1 ∷ 2 ∷ 0 ∷ 31 ∷ 2 ∷ 2 ∷ 2 ∷ 0 ∷ 2 ∷ 2 ∷ 3 ∷ 0 ∷ 46 ∷ 2 ∷ 3 ∷ 3 ∷ 0 ∷ 3 ∷ 3 ∷ 4 ∷ 0 ∷ 61 ∷ 2 ∷ 4 ∷ 4 ∷ 0 ∷ 4 ∷ 4 ∷ 5 ∷ 0 ∷ 76 ∷ 2 ∷ 5 ∷ 5 ∷ 0 ∷ 5 ∷ 5 ∷ 6 ∷ 0 ∷ 91 ∷ 2 ∷ 6 ∷ 6 ∷ 0 ∷ 6 ∷ 6 ∷ 7 ∷ 0 ∷ 106 ∷ 2 ∷ 7 ∷ 7 ∷ 0 ∷ 7 ∷ 7 ∷ 8 ∷ 0 ∷ 121 ∷ 2 ∷ 8 ∷ 8 ∷ 0 ∷ 8 ∷ 8 ∷ 9 ∷ 0 ∷ 136 ∷ 3 ∷ 9 ∷ 9 ∷ 0 ∷ 9 ∷ 9 ∷ 10 ∷ 0 ∷ 153 ∷ 3 ∷ 10 ∷ 10 ∷ 0 ∷ 10 ∷ 10 ∷ 11 ∷ 0 ∷ 170 ∷ 3 ∷ 11 ∷ 11 ∷ 0 ∷ 11 ∷ 11 ∷ 12 ∷ 0 ∷ 187 ∷ 3 ∷ 12 ∷ 12 ∷ 0 ∷ 12 ∷ 12 ∷ 13 ∷ 0 ∷ 204 ∷ 3 ∷ 13 ∷ 13 ∷ 0 ∷ 13 ∷ 13 ∷ 14 ∷ 0 ∷ 221 ∷ 3 ∷ 14 ∷ 14 ∷ 0 ∷ 14 ∷ 14 ∷ 15 ∷ 0 ∷ 238 ∷ 1 ∷ 15 ∷ 15 ∷ 1 ∷ 15 ∷ 15 ∷ 16 ∷ 0 ∷ 253 ∷ 1 ∷ 15 ∷ 15 ∷ 2 ∷ 16 ∷ 32 ∷ 33 ∷ 0 ∷ []) (0 ∷ 0 ∷ 0 ∷ 0 ∷ 0 ∷ 0 ∷ 0 ∷ 0 ∷ 0 ∷ 0 ∷ 0 ∷ 0 ∷ 0 ∷ 0 ∷ 0 ∷ 0 ∷ 131 ∷ 9 ∷ 17 ∷ 25 ∷ 33 ∷ 41 ∷ 49 ∷ 57 ∷ 65 ∷ 73 ∷ 81 ∷ 89 ∷ 97 ∷ 105 ∷ 113 ∷ 121 ∷ 0 ∷ [])
    ∷  -- names come before the size now: document 01's old case for 10 is 5
    kept (under aut68 (lending 100000 16 16380 16384 2048 16384) (bytes_of "*u:=a(b,b,b,b,b,b,b,b,b,b,b,b,b,b,b,b):type\n") 5 1 0)
    [] []
    ∷  -- counts come before the size: a middle of 17 cells, then a wrong count in the category
    kept (under aut68 (lending 100000 16 16380 16384 2048 16384) (bytes_of "*a:=PN:type\n*x:=EB:a\nx*f:=PN:type\n*u:=[x,a][x,a][x,a][x,a][x,a][x,a][x,a][x,a]a:f\n") 6 4 0)
    (1 ∷ 1 ∷ 0 ∷ 0 ∷ 1 ∷ 0 ∷ 0 ∷ 1 ∷ 0 ∷ 13 ∷ 1 ∷ 0 ∷ 0 ∷ 0 ∷ 1 ∷ 1 ∷ 2 ∷ 0 ∷ 23 ∷ 1 ∷ 2 ∷ 1 ∷ 1 ∷ 2 ∷ 2 ∷ 3 ∷ 0 ∷ []) (0 ∷ 11 ∷ 0 ∷ [])
    ∷  -- 31 names one in the other, the innermost completed to nesting 32: passes
    kept (usual aut68 (bytes_of "*x:=EB:type\nx*f:=PN:type\nx*g:=f(f(f(f(f(f(f(f(f(f(f(f(f(f(f(f(f(f(f(f(f(f(f(f(f(f(f(f(f(f(f)))))))))))))))))))))))))))))):type\n") 0 3 0)
    (1 ∷ 1 ∷ 0 ∷ 0 ∷ 0 ∷ 0 ∷ 0 ∷ 1 ∷ 0 ∷ 14 ∷ 1 ∷ 1 ∷ 1 ∷ 1 ∷ 1 ∷ 1 ∷ 2 ∷ 0 ∷ 27 ∷ 1 ∷ 1 ∷ 1 ∷ 2 ∷ 2 ∷ 34 ∷ 35 ∷ 0 ∷ []) (0 ∷ 0 ∷ 19 ∷ 19 ∷ 19 ∷ 19 ∷ 19 ∷ 19 ∷ 19 ∷ 19 ∷ 19 ∷ 19 ∷ 19 ∷ 19 ∷ 19 ∷ 19 ∷ 19 ∷ 19 ∷ 19 ∷ 19 ∷ 19 ∷ 19 ∷ 19 ∷ 19 ∷ 19 ∷ 19 ∷ 19 ∷ 19 ∷ 19 ∷ 19 ∷ 19 ∷ 19 ∷ 19 ∷ 9 ∷ 0 ∷ [])
    ∷  -- nesting once more is after all names: an unknown name in the category is 5
    kept (usual aut68 (bytes_of "*x:=EB:type\nx*f:=PN:type\nx*g:=f(f(f(f(f(f(f(f(f(f(f(f(f(f(f(f(f(f(f(f(f(f(f(f(f(f(f(f(f(f(f(f))))))))))))))))))))))))))))))):y\n") 5 3 0)
    (1 ∷ 1 ∷ 0 ∷ 0 ∷ 0 ∷ 0 ∷ 0 ∷ 1 ∷ 0 ∷ 14 ∷ 1 ∷ 1 ∷ 1 ∷ 1 ∷ 1 ∷ 1 ∷ 2 ∷ 0 ∷ []) (0 ∷ 0 ∷ [])
    ∷  -- the shelf holds the completed form, and so its room is counted: 4 cells are too few for line 3
    kept (under aut68 (lending 100000 128 16380 4 16384 16384) (bytes_of "*x:=EB:type\nx*f:=PN:type\nx*g:=f:type\n") 12 3 0)
    (1 ∷ 1 ∷ 0 ∷ 0 ∷ 0 ∷ 0 ∷ 0 ∷ 1 ∷ 0 ∷ 14 ∷ 1 ∷ 1 ∷ 1 ∷ 1 ∷ 1 ∷ 1 ∷ 2 ∷ 0 ∷ []) (0 ∷ 0 ∷ [])
    ∷  -- 5 cells are enough
    kept (under aut68 (lending 100000 128 16380 5 16384 16384) (bytes_of "*x:=EB:type\nx*f:=PN:type\nx*g:=f:type\n") 0 3 0)
    (1 ∷ 1 ∷ 0 ∷ 0 ∷ 0 ∷ 0 ∷ 0 ∷ 1 ∷ 0 ∷ 14 ∷ 1 ∷ 1 ∷ 1 ∷ 1 ∷ 1 ∷ 1 ∷ 2 ∷ 0 ∷ 27 ∷ 1 ∷ 1 ∷ 1 ∷ 2 ∷ 2 ∷ 4 ∷ 5 ∷ 0 ∷ []) (0 ∷ 0 ∷ 19 ∷ 9 ∷ 0 ∷ [])
    ∷  -- a line ahead of the constant it names: 5, not 6
    kept (usual aut68 (bytes_of "*nat:=PN:type\n*n:=EB:nat\nn*t:=suc(suc):nat\nn*suc:=PN:nat\n") 5 3 0)
    (1 ∷ 3 ∷ 0 ∷ 0 ∷ 1 ∷ 0 ∷ 0 ∷ 1 ∷ 0 ∷ 15 ∷ 1 ∷ 0 ∷ 0 ∷ 0 ∷ 1 ∷ 1 ∷ 2 ∷ 0 ∷ []) (0 ∷ 11 ∷ [])
    ∷  -- the book of document 002, section 2, as printed there: arguments left out throughout
    kept (usual aut68 (bytes_of "*elt:=PN:type\n*x:=EB:elt\nx*y:=EB:elt\ny*is:=PN:type\nx*a:=PN:is(x,x)\ny*u:=EB:is\nu*z:=EB:elt\nz*v:=EB:is(z,y)\nv*b:=PN:is(z,x)\nu*c:=b(y,a(y)):is(y,x)\nz*w:=EB:is(y,z)\nw*d:=c(y,z,w):is(z,y)\nw*e:=b(d):is(z,x)\nw*f:=c(z,x,e):is(x,z)\n") 0 14 0)
    (1 ∷ 3 ∷ 0 ∷ 0 ∷ 1 ∷ 0 ∷ 0 ∷ 1 ∷ 0 ∷ 15 ∷ 1 ∷ 0 ∷ 0 ∷ 0 ∷ 1 ∷ 1 ∷ 2 ∷ 0 ∷ 27 ∷ 1 ∷ 2 ∷ 1 ∷ 0 ∷ 2 ∷ 2 ∷ 3 ∷ 0 ∷ 39 ∷ 2 ∷ 3 ∷ 2 ∷ 1 ∷ 3 ∷ 3 ∷ 4 ∷ 0 ∷ 53 ∷ 1 ∷ 2 ∷ 1 ∷ 1 ∷ 4 ∷ 4 ∷ 7 ∷ 0 ∷ 69 ∷ 1 ∷ 3 ∷ 2 ∷ 0 ∷ 7 ∷ 7 ∷ 10 ∷ 0 ∷ 80 ∷ 1 ∷ 6 ∷ 3 ∷ 0 ∷ 10 ∷ 10 ∷ 11 ∷ 0 ∷ 92 ∷ 1 ∷ 7 ∷ 4 ∷ 0 ∷ 11 ∷ 11 ∷ 14 ∷ 0 ∷ 108 ∷ 1 ∷ 8 ∷ 5 ∷ 1 ∷ 14 ∷ 14 ∷ 17 ∷ 0 ∷ 124 ∷ 1 ∷ 6 ∷ 3 ∷ 2 ∷ 17 ∷ 24 ∷ 27 ∷ 0 ∷ 147 ∷ 1 ∷ 7 ∷ 4 ∷ 0 ∷ 27 ∷ 27 ∷ 30 ∷ 0 ∷ 163 ∷ 1 ∷ 11 ∷ 5 ∷ 2 ∷ 30 ∷ 34 ∷ 37 ∷ 0 ∷ 185 ∷ 1 ∷ 11 ∷ 5 ∷ 2 ∷ 37 ∷ 48 ∷ 51 ∷ 0 ∷ 203 ∷ 1 ∷ 11 ∷ 5 ∷ 2 ∷ 51 ∷ 60 ∷ 63 ∷ 0 ∷ []) (0 ∷ 11 ∷ 11 ∷ 0 ∷ 35 ∷ 17 ∷ 17 ∷ 35 ∷ 17 ∷ 25 ∷ 11 ∷ 35 ∷ 57 ∷ 25 ∷ 35 ∷ 57 ∷ 17 ∷ 75 ∷ 17 ∷ 25 ∷ 49 ∷ 25 ∷ 43 ∷ 25 ∷ 35 ∷ 25 ∷ 17 ∷ 35 ∷ 25 ∷ 57 ∷ 83 ∷ 25 ∷ 57 ∷ 89 ∷ 35 ∷ 57 ∷ 25 ∷ 75 ∷ 17 ∷ 25 ∷ 49 ∷ 57 ∷ 99 ∷ 17 ∷ 25 ∷ 49 ∷ 57 ∷ 89 ∷ 35 ∷ 57 ∷ 17 ∷ 83 ∷ 57 ∷ 17 ∷ 107 ∷ 17 ∷ 25 ∷ 49 ∷ 57 ∷ 89 ∷ 35 ∷ 17 ∷ 57 ∷ [])
    ∷ [])
