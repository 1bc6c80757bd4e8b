-- The cases of papers 4 and 7: the pages of books, byte for byte.
use Rattle.std.specs.Prelude.{Bool, true, false, ◌&&◌, List, [], ◌∷◌}
use Rattle.aut68.specs.Bytes.{Bytes, lines, joined}
use Rattle.aut68.specs.Pages.{pages, read_back, without_spaces}
use Rattle.aut68.specs.Cases.{bytes_of, same_numbers, sample}

-- a book and its pages
pub record Printed : Type 0 where
  pub book : Bytes
  pub page : Bytes

unfoldable pub printed : Bytes → Bytes → Printed
printed book page = record { book = book; page = page }

-- The pages are these, and what is read back is the book without its spaces.
unfoldable pub prints_as : Printed → Bool
prints_as p = same_numbers (pages p.book) p.page && same_numbers (joined (without_spaces (read_back p.page))) (joined (without_spaces (lines p.book)))

unfoldable pub all_print : List Printed → Bool
all_print [] = true
all_print (p ∷ ps) = elim (prints_as p) [ true ↦ all_print ps | false ↦ false ]

unfoldable pub printed_pages : List Printed
printed_pages =
    -- the sample
    printed sample (bytes_of "    1 *nat:=PN:type                                                     \n    2 *one:=PN:nat                                                      \n    3 *n:=EB:nat                                                        \n    4 n*suc:=PN:nat                                                     \n    5 *two:=suc(one):nat                                                \n    6 *F:=[x,nat]nat:type                                               \n    7 *plus2:=[x,nat]suc(suc(x)):F                                      \n    8 *four:=<two>plus2:nat                                             \n")
    -- the empty book is no row
    ∷ printed (bytes_of "") (bytes_of "")
    -- spaces are left out, wherever they stand
    ∷ printed (bytes_of "  * nat  :=  PN : type  \n*F:= [ x , nat ] nat : type\n") (bytes_of "    1 *nat:=PN:type                                                     \n    2 *F:=[x,nat]nat:type                                               \n")
    -- exactly 66 bytes: one row, not two
    ∷ printed (bytes_of "*wwwwwwwwwwwwwwwwwwwwwwwwwwwwwwww:=PN:type\n*vvvvvvvvvvvvvvvvvvvvvvvvvv:=wwwwwwwwwwwwwwwwwwwwwwwwwwwwwwww:type\n") (bytes_of "    1 *wwwwwwwwwwwwwwwwwwwwwwwwwwwwwwww:=PN:type                        \n    2 *vvvvvvvvvvvvvvvvvvvvvvvvvv:=wwwwwwwwwwwwwwwwwwwwwwwwwwwwwwww:type\n")
    -- 67 bytes: a second row with six blanks and one byte
    ∷ printed (bytes_of "*wwwwwwwwwwwwwwwwwwwwwwwwwwwwwwww:=PN:type\n*vvvvvvvvvvvvvvvvvvvvvvvvvvv:=wwwwwwwwwwwwwwwwwwwwwwwwwwwwwwww:type\n") (bytes_of "    1 *wwwwwwwwwwwwwwwwwwwwwwwwwwwwwwww:=PN:type                        \n    2 *vvvvvvvvvvvvvvvvvvvvvvvvvvv:=wwwwwwwwwwwwwwwwwwwwwwwwwwwwwwww:typ\n      e                                                                 \n")
    -- 132 bytes: two full rows
    ∷ printed (bytes_of "*a:=PN:type\n*bbbbbbbbbbbbbbbbbbbbbbb:=[x,a][x,a][x,a][x,a][x,a][x,a][x,a][x,a][x,a][x,a][x,a][x,a][x,a][x,a][x,a][x,a][x,a][x,a][x,a][x,a]a:type\n") (bytes_of "    1 *a:=PN:type                                                       \n    2 *bbbbbbbbbbbbbbbbbbbbbbb:=[x,a][x,a][x,a][x,a][x,a][x,a][x,a][x,a]\n      [x,a][x,a][x,a][x,a][x,a][x,a][x,a][x,a][x,a][x,a][x,a][x,a]a:type\n")
    -- 133 bytes: three rows
    ∷ printed (bytes_of "*a:=PN:type\n*bbbbbbbbbbbbbbbbbbbbbbbb:=[x,a][x,a][x,a][x,a][x,a][x,a][x,a][x,a][x,a][x,a][x,a][x,a][x,a][x,a][x,a][x,a][x,a][x,a][x,a][x,a]a:type\n") (bytes_of "    1 *a:=PN:type                                                       \n    2 *bbbbbbbbbbbbbbbbbbbbbbbb:=[x,a][x,a][x,a][x,a][x,a][x,a][x,a][x,a\n      ][x,a][x,a][x,a][x,a][x,a][x,a][x,a][x,a][x,a][x,a][x,a][x,a]a:typ\n      e                                                                 \n")
    -- a name may be cut by the end of a row
    ∷ printed (bytes_of "*wwwwwwwwwwwwwwwwwwwwwwwwwwwwwwww:=PN:type\n*f:=[xxxxxxxxxxxx,wwwwwwwwwwwwwwwwwwwwwwwwwwwwwwww]wwwwwwwwwwwwwwwwwwwwwwwwwwwwwwww:type\n") (bytes_of "    1 *wwwwwwwwwwwwwwwwwwwwwwwwwwwwwwww:=PN:type                        \n    2 *f:=[xxxxxxxxxxxx,wwwwwwwwwwwwwwwwwwwwwwwwwwwwwwww]wwwwwwwwwwwwwww\n      wwwwwwwwwwwwwwwww:type                                            \n")
    -- numbers are right-justified in five columns
    ∷ printed (bytes_of "*a1:=PN:type\n*a2:=PN:type\n*a3:=PN:type\n*a4:=PN:type\n*a5:=PN:type\n*a6:=PN:type\n*a7:=PN:type\n*a8:=PN:type\n*a9:=PN:type\n*a10:=PN:type\n*a11:=PN:type\n*a12:=PN:type\n") (bytes_of "    1 *a1:=PN:type                                                      \n    2 *a2:=PN:type                                                      \n    3 *a3:=PN:type                                                      \n    4 *a4:=PN:type                                                      \n    5 *a5:=PN:type                                                      \n    6 *a6:=PN:type                                                      \n    7 *a7:=PN:type                                                      \n    8 *a8:=PN:type                                                      \n    9 *a9:=PN:type                                                      \n   10 *a10:=PN:type                                                     \n   11 *a11:=PN:type                                                     \n   12 *a12:=PN:type                                                     \n")
    -- arguments left out stay left out: the page holds the bytes, not the completed form
    ∷ printed (bytes_of "*nat:=PN:type\n*n:=EB:nat\nn*suc:=PN:nat\nn*t:=suc:nat\n") (bytes_of "    1 *nat:=PN:type                                                     \n    2 *n:=EB:nat                                                        \n    3 n*suc:=PN:nat                                                     \n    4 n*t:=suc:nat                                                      \n")
    -- a paragraph line has blank columns 1 to 5, and lines are numbered without it
    ∷ printed (bytes_of "*a:=PN:type\n+ p\n*b:=PN:a\n-p\n") (bytes_of "    1 *a:=PN:type                                                       \n      +p                                                                \n    2 *b:=PN:a                                                          \n      -p                                                                \n")
    -- behind a line of 66 bytes it is told apart by the sign in column 7
    ∷ printed (bytes_of "*wwwwwwwwwwwwwwwwwwwwwwwwwwwwwwww:=PN:type\n*vvvvvvvvvvvvvvvvvvvvvvvvvv:=wwwwwwwwwwwwwwwwwwwwwwwwwwwwwwww:type\n+p\n-p\n") (bytes_of "    1 *wwwwwwwwwwwwwwwwwwwwwwwwwwwwwwww:=PN:type                        \n    2 *vvvvvvvvvvvvvvvvvvvvvvvvvv:=wwwwwwwwwwwwwwwwwwwwwwwwwwwwwwww:type\n      +p                                                                \n      -p                                                                \n")
    ∷ []
