-- Calls of the procedure with their outcomes, as tables that the checker computes.
use Rattle.std.specs.Prelude.{ℕ, Bool, true, false, ◌&&◌, List, [], ◌∷◌, eqb}
use Prim.Native.String.{String, [] as end, ◌∷◌ as ◌then◌}
use Prim.Native.Char.{code}
use Rattle.aut68.specs.Language.{Language}
use Rattle.aut68.specs.Stores.{Limits, lending}
use Rattle.aut68.specs.Lines.{table_of, terms_of}
use Rattle.aut68.specs.Index.{index_of}
use Rattle.aut68.specs.Procedure.Run.{Ending, code_at, line_at, steps_at, recorded_at, run}

-- the bytes of a text
unfoldable pub bytes_of : String → List ℕ
bytes_of end = []
bytes_of (◌then◌ c s) = code c ∷ bytes_of s

-- document 01's sample
unfoldable pub sample : List ℕ
sample = bytes_of "*nat:=PN:type\n*one:=PN:nat\n*n:=EB:nat\nn*suc:=PN:nat\n*two:=suc(one):nat\n*F:=[x,nat]nat:type\n*plus2:=[x,nat]suc(suc(x)):F\n*four:=<two>plus2:nat\n"

-- a call and its outcome
pub record Case : Type 0 where
  pub language : Language
  pub book : List ℕ
  pub limits : Limits
  pub end_code : ℕ
  pub end_line : ℕ
  pub end_steps : ℕ

-- the ending has the outcome of the case (a run is handed over, so that it is computed once)
unfoldable pub ends_as : Ending → Case → Bool
ends_as e c = eqb (code_at e) c.end_code && eqb (line_at e) c.end_line && eqb (steps_at e) c.end_steps

unfoldable pub holds : Case → Bool
holds c = ends_as (run c.language c.book c.limits) c

unfoldable pub all_hold : List Case → Bool
all_hold [] = true
all_hold (c ∷ cs) = elim (holds c) [ true ↦ all_hold cs | false ↦ false ]

-- a call and its outcome, with the cells of table and term store that it records; with those of the index, too
pub data Kept : Type 0 where
  kept : Case → List ℕ → List ℕ → Kept
  indexed : Case → List ℕ → List ℕ → List ℕ → Kept

unfoldable pub same_numbers : List ℕ → List ℕ → Bool
same_numbers [] [] = true
same_numbers [] (y ∷ ys) = false
same_numbers (x ∷ xs) [] = false
same_numbers (x ∷ xs) (y ∷ ys) = elim (eqb x y) [ true ↦ same_numbers xs ys | false ↦ false ]

unfoldable pub records_as : Ending → Case → List ℕ → List ℕ → Bool
records_as e c rows cells =
    let r = recorded_at e in
    ends_as e c && same_numbers (table_of r.firsts r.recorded) rows && same_numbers (terms_of r.recorded) cells

unfoldable pub keeps_as : Ending → Kept → Bool
keeps_as e (kept c rows cells) = records_as e c rows cells
keeps_as e (indexed c rows cells entries) = records_as e c rows cells && same_numbers (index_of (recorded_at e).recorded) entries

unfoldable pub keeps : Kept → Bool
keeps (kept c rows cells) = keeps_as (run c.language c.book c.limits) (kept c rows cells)
keeps (indexed c rows cells entries) = keeps_as (run c.language c.book c.limits) (indexed c rows cells entries)

unfoldable pub all_keep : List Kept → Bool
all_keep [] = true
all_keep (c ∷ cs) = elim (keeps c) [ true ↦ all_keep cs | false ↦ false ]

unfoldable pub under : Language → Limits → List ℕ → ℕ → ℕ → ℕ → Case
under language m book code line steps = record { language = language; book = book; limits = m; end_code = code; end_line = line; end_steps = steps }

-- under the listing program's stores, and under its budget and limit too
unfoldable pub within : Language → ℕ → ℕ → List ℕ → ℕ → ℕ → ℕ → Case
within language N L = under language (lending N L 16380 16384 16384 16384)

unfoldable pub usual : Language → List ℕ → ℕ → ℕ → ℕ → Case
usual language = within language 100000 128
