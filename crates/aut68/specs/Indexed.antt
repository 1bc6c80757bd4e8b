-- Paper 2, the index: its worked cases of the check, with the rows, the term cells and the index that are left. Outcomes has them
-- computed.
use Rattle.std.specs.Prelude.{ℕ, List, [], ◌∷◌, ◌++◌}
use Rattle.aut68.specs.Language.{aut68}
use Rattle.aut68.specs.Stores.{lending}
use Rattle.aut68.specs.Cases.{Case, Kept, indexed, bytes_of, sample, under, usual}

-- the sample's rows, cells and index
unfoldable pub sample_rows : List ℕ
sample_rows = 1 ∷ 3 ∷ 0 ∷ 0 ∷ 1 ∷ 0 ∷ 0 ∷ 1 ∷ 0 ∷ 15 ∷ 3 ∷ 0 ∷ 0 ∷ 1 ∷ 1 ∷ 1 ∷ 2 ∷ 0 ∷ 28 ∷ 1 ∷ 0 ∷ 0 ∷ 0 ∷ 2 ∷ 2 ∷ 3 ∷ 0 ∷ 40 ∷ 3 ∷ 3 ∷ 1 ∷ 1 ∷ 3 ∷ 3 ∷ 4 ∷ 0 ∷ 53 ∷ 3 ∷ 0 ∷ 0 ∷ 2 ∷ 4 ∷ 6 ∷ 7 ∷ 0 ∷ 72 ∷ 1 ∷ 0 ∷ 0 ∷ 2 ∷ 7 ∷ 10 ∷ 11 ∷ 0 ∷ 92 ∷ 5 ∷ 0 ∷ 0 ∷ 2 ∷ 11 ∷ 16 ∷ 17 ∷ 0 ∷ 121 ∷ 4 ∷ 0 ∷ 0 ∷ 2 ∷ 17 ∷ 20 ∷ 21 ∷ 0 ∷ []

unfoldable pub sample_cells : List ℕ
sample_cells = 0 ∷ 11 ∷ 11 ∷ 11 ∷ 35 ∷ 19 ∷ 11 ∷ 5 ∷ 11 ∷ 11 ∷ 0 ∷ 5 ∷ 11 ∷ 35 ∷ 35 ∷ 2 ∷ 51 ∷ 4 ∷ 43 ∷ 59 ∷ 11 ∷ []

unfoldable pub sample_index : List ℕ
sample_index = 0 ∷ 1 ∷ 1 ∷ 1 ∷ 1 ∷ 2 ∷ 1 ∷ 3 ∷ 3 ∷ 1 ∷ 2 ∷ 4 ∷ 1 ∷ 1 ∷ 3 ∷ 1 ∷ 4 ∷ 6 ∷ 3 ∷ 1 ∷ 5 ∷ 7 ∷ []

-- under the listing program's stores, with an index of so many cells
unfoldable pub with_index : ℕ → List ℕ → ℕ → ℕ → ℕ → Case
with_index n = under aut68 (lending 100000 128 16380 16384 16384 n)

unfoldable pub index_cells : List Kept
index_cells =
    -- the sample with its index: a line that names nothing is the one cell 0; nat twice in a line is there once
    indexed (usual aut68 sample 0 8 2)
    sample_rows sample_cells sample_index
    ∷  -- the index just large enough: 22 cells
    indexed (with_index 22 sample 0 8 2)
    sample_rows sample_cells sample_index
    ∷  -- one cell short: 12 at line 8, before its steps are all taken
    indexed (with_index 21 sample 12 8 1)
    (1 ∷ 3 ∷ 0 ∷ 0 ∷ 1 ∷ 0 ∷ 0 ∷ 1 ∷ 0 ∷ 15 ∷ 3 ∷ 0 ∷ 0 ∷ 1 ∷ 1 ∷ 1 ∷ 2 ∷ 0 ∷ 28 ∷ 1 ∷ 0 ∷ 0 ∷ 0 ∷ 2 ∷ 2 ∷ 3 ∷ 0 ∷ 40 ∷ 3 ∷ 3 ∷ 1 ∷ 1 ∷ 3 ∷ 3 ∷ 4 ∷ 0 ∷ 53 ∷ 3 ∷ 0 ∷ 0 ∷ 2 ∷ 4 ∷ 6 ∷ 7 ∷ 0 ∷ 72 ∷ 1 ∷ 0 ∷ 0 ∷ 2 ∷ 7 ∷ 10 ∷ 11 ∷ 0 ∷ 92 ∷ 5 ∷ 0 ∷ 0 ∷ 2 ∷ 11 ∷ 16 ∷ 17 ∷ 0 ∷ []) (0 ∷ 11 ∷ 11 ∷ 11 ∷ 35 ∷ 19 ∷ 11 ∷ 5 ∷ 11 ∷ 11 ∷ 0 ∷ 5 ∷ 11 ∷ 35 ∷ 35 ∷ 2 ∷ 51 ∷ []) (0 ∷ 1 ∷ 1 ∷ 1 ∷ 1 ∷ 2 ∷ 1 ∷ 3 ∷ 3 ∷ 1 ∷ 2 ∷ 4 ∷ 1 ∷ 1 ∷ 3 ∷ 1 ∷ 4 ∷ 6 ∷ [])
    ∷  -- no index at all: 12 at line 1
    indexed (with_index 0 sample 12 1 0)
    [] [] []
    ∷  -- the empty book needs none
    indexed (with_index 0 [] 0 0 0)
    [] [] []
    ∷  -- the storage comes before the categories: 12 and not 9
    indexed (with_index 2 (bytes_of "*a:=PN:type\n*b:=a:a\n") 12 2 0)
    (1 ∷ 1 ∷ 0 ∷ 0 ∷ 1 ∷ 0 ∷ 0 ∷ 1 ∷ 0 ∷ []) (0 ∷ []) (0 ∷ [])
    ∷  -- ... and after the names: 5
    indexed (with_index 2 (bytes_of "*a:=PN:type\n*b:=c:a\n") 5 2 0)
    (1 ∷ 1 ∷ 0 ∷ 0 ∷ 1 ∷ 0 ∷ 0 ∷ 1 ∷ 0 ∷ []) (0 ∷ []) (0 ∷ [])
    ∷  -- the completed line counts: t names suc, nat and, by what is put in, n; n is its indicator as well
    indexed (usual aut68 (bytes_of "*nat:=PN:type\n*n:=EB:nat\nn*suc:=PN:nat\nn*t:=suc:nat\n") 0 4 0)
    (1 ∷ 3 ∷ 0 ∷ 0 ∷ 1 ∷ 0 ∷ 0 ∷ 1 ∷ 0 ∷ 15 ∷ 1 ∷ 0 ∷ 0 ∷ 0 ∷ 1 ∷ 1 ∷ 2 ∷ 0 ∷ 27 ∷ 3 ∷ 2 ∷ 1 ∷ 1 ∷ 2 ∷ 2 ∷ 3 ∷ 0 ∷ 41 ∷ 1 ∷ 2 ∷ 1 ∷ 2 ∷ 3 ∷ 5 ∷ 6 ∷ 0 ∷ []) (0 ∷ 11 ∷ 11 ∷ 27 ∷ 17 ∷ 11 ∷ []) (0 ∷ 1 ∷ 1 ∷ 2 ∷ 1 ∷ 2 ∷ 3 ∷ 1 ∷ 2 ∷ 3 ∷ [])
    ∷  -- what is put in counts even where it is not the indicator: t names n, m, add, nat
    indexed (usual aut68 (bytes_of "*nat:=PN:type\n*n:=EB:nat\nn*suc:=PN:nat\nn*m:=EB:nat\nm*add:=PN:nat\nm*t:=add:nat\n") 0 6 0)
    (1 ∷ 3 ∷ 0 ∷ 0 ∷ 1 ∷ 0 ∷ 0 ∷ 1 ∷ 0 ∷ 15 ∷ 1 ∷ 0 ∷ 0 ∷ 0 ∷ 1 ∷ 1 ∷ 2 ∷ 0 ∷ 27 ∷ 3 ∷ 2 ∷ 1 ∷ 1 ∷ 2 ∷ 2 ∷ 3 ∷ 0 ∷ 41 ∷ 1 ∷ 2 ∷ 1 ∷ 0 ∷ 3 ∷ 3 ∷ 4 ∷ 0 ∷ 53 ∷ 3 ∷ 4 ∷ 2 ∷ 1 ∷ 4 ∷ 4 ∷ 5 ∷ 0 ∷ 67 ∷ 1 ∷ 4 ∷ 2 ∷ 2 ∷ 5 ∷ 8 ∷ 9 ∷ 0 ∷ []) (0 ∷ 11 ∷ 11 ∷ 11 ∷ 11 ∷ 43 ∷ 17 ∷ 33 ∷ 11 ∷ []) (0 ∷ 1 ∷ 1 ∷ 2 ∷ 1 ∷ 2 ∷ 2 ∷ 1 ∷ 2 ∷ 2 ∷ 1 ∷ 4 ∷ 4 ∷ 1 ∷ 2 ∷ 4 ∷ 5 ∷ [])
    ∷  -- a bound name is not named: G names nat, and F by its category alone
    indexed (usual aut68 (bytes_of "*nat:=PN:type\n*F:=[y,nat]nat:type\n*G:=[F,nat]F:F\n") 0 3 1)
    (1 ∷ 3 ∷ 0 ∷ 0 ∷ 1 ∷ 0 ∷ 0 ∷ 1 ∷ 0 ∷ 15 ∷ 1 ∷ 0 ∷ 0 ∷ 2 ∷ 1 ∷ 4 ∷ 5 ∷ 0 ∷ 35 ∷ 1 ∷ 0 ∷ 0 ∷ 2 ∷ 5 ∷ 8 ∷ 9 ∷ 0 ∷ []) (0 ∷ 5 ∷ 11 ∷ 11 ∷ 0 ∷ 5 ∷ 11 ∷ 2 ∷ 19 ∷ []) (0 ∷ 1 ∷ 1 ∷ 2 ∷ 1 ∷ 2 ∷ [])
    ∷  -- ... here F is not named at all
    indexed (usual aut68 (bytes_of "*nat:=PN:type\n*F:=[y,nat]nat:type\n*G:=[F,nat]F:[F,nat]nat\n") 0 3 0)
    (1 ∷ 3 ∷ 0 ∷ 0 ∷ 1 ∷ 0 ∷ 0 ∷ 1 ∷ 0 ∷ 15 ∷ 1 ∷ 0 ∷ 0 ∷ 2 ∷ 1 ∷ 4 ∷ 5 ∷ 0 ∷ 35 ∷ 1 ∷ 0 ∷ 0 ∷ 2 ∷ 5 ∷ 8 ∷ 11 ∷ 0 ∷ []) (0 ∷ 5 ∷ 11 ∷ 11 ∷ 0 ∷ 5 ∷ 11 ∷ 2 ∷ 5 ∷ 11 ∷ 11 ∷ []) (0 ∷ 1 ∷ 1 ∷ 1 ∷ 1 ∷ [])
    ∷  -- of a refused line nothing is in the index
    indexed (usual aut68 (sample ++ bytes_of "*u:=one:F\n") 9 9 3)
    sample_rows sample_cells sample_index
    ∷  -- the lines reached from two, all others deleted: a correct book
    indexed (usual aut68 (bytes_of "*nat:=PN:type\n*one:=PN:nat\n*n:=EB:nat\nn*suc:=PN:nat\n*two:=suc(one):nat\n") 0 5 0)
    (1 ∷ 3 ∷ 0 ∷ 0 ∷ 1 ∷ 0 ∷ 0 ∷ 1 ∷ 0 ∷ 15 ∷ 3 ∷ 0 ∷ 0 ∷ 1 ∷ 1 ∷ 1 ∷ 2 ∷ 0 ∷ 28 ∷ 1 ∷ 0 ∷ 0 ∷ 0 ∷ 2 ∷ 2 ∷ 3 ∷ 0 ∷ 40 ∷ 3 ∷ 3 ∷ 1 ∷ 1 ∷ 3 ∷ 3 ∷ 4 ∷ 0 ∷ 53 ∷ 3 ∷ 0 ∷ 0 ∷ 2 ∷ 4 ∷ 6 ∷ 7 ∷ 0 ∷ []) (0 ∷ 11 ∷ 11 ∷ 11 ∷ 35 ∷ 19 ∷ 11 ∷ []) (0 ∷ 1 ∷ 1 ∷ 1 ∷ 1 ∷ 2 ∷ 1 ∷ 3 ∷ 3 ∷ 1 ∷ 2 ∷ 4 ∷ [])
    ∷  -- the lines reached from t alone, where n was only put in: the rest deleted
    indexed (usual aut68 (bytes_of "*nat:=PN:type\n*n:=EB:nat\nn*suc:=PN:nat\nn*t:=suc:nat\n") 0 4 0)
    (1 ∷ 3 ∷ 0 ∷ 0 ∷ 1 ∷ 0 ∷ 0 ∷ 1 ∷ 0 ∷ 15 ∷ 1 ∷ 0 ∷ 0 ∷ 0 ∷ 1 ∷ 1 ∷ 2 ∷ 0 ∷ 27 ∷ 3 ∷ 2 ∷ 1 ∷ 1 ∷ 2 ∷ 2 ∷ 3 ∷ 0 ∷ 41 ∷ 1 ∷ 2 ∷ 1 ∷ 2 ∷ 3 ∷ 5 ∷ 6 ∷ 0 ∷ []) (0 ∷ 11 ∷ 11 ∷ 27 ∷ 17 ∷ 11 ∷ []) (0 ∷ 1 ∷ 1 ∷ 2 ∷ 1 ∷ 2 ∷ 3 ∷ 1 ∷ 2 ∷ 3 ∷ [])
    ∷ []
