-- How large the cells on the shelf are, by how many lines are recorded.
use Rattle.std.specs.Prelude.{List, [], ◌∷◌, ℕ, suc, ◌*◌, ◌≤◌, ◌<◌, length}
use Rattle.std.proofs.Common.{arith}
use Rattle.aut68.specs.Language.{Language}
use Rattle.aut68.specs.Sizes.{cell_factor}
use Rattle.aut68.specs.Stores.{Stores}
use Rattle.aut68.specs.Bytes.{Bytes}
use Rattle.aut68.specs.Lines.{Line, Lines, line_cells, terms_of}
use Rattle.aut68.specs.Procedure.Run.{Recorded}
use Rattle.aut68.specs.Rules.Names.{IsLine, first, later}
use Rattle.aut68.specs.Demands.{ShelfWidth}
use Rattle.inclusion.specs.Books.{built_right}
use Rattle.inclusion.proofs.Derivations.{derived_built}
use Rattle.cells.specs.Cells.{Below}
use Rattle.cells.specs.Widths.{below_append, below_fits}
use Rattle.heads.proofs.LinesBelow.{line_below}
use Rattle.records.specs.Reached.{Reached}
use Rattle.records.specs.Runs.{run_reached}

terms_below : (n : ℕ) (ls : Lines) → ((v : ℕ) (l : Line) → IsLine ls v l → Below n (line_cells l)) → Below n (terms_of ls)
unfolding terms_of Below
terms_below n [] h = tt
terms_below n (l ∷ ls) h = below_append n (line_cells l) (terms_of ls) (h 1 l first) (terms_below n ls (λ v k i. h (suc v) k (later i)))

reached_below : {language : Language} {book : Bytes} {N L : ℕ} {s : Stores} {k : Recorded} {at count used : ℕ} {table terms : List ℕ}
    → Reached language book N L s k at count used table terms → (n : ℕ) → length k.recorded < n → L ≤ n → Below (cell_factor * n) (terms_of k.recorded)
reached_below {k = k} h n few l =
    terms_below (cell_factor * n) k.recorded λ v x i.
    let m = (h.small i).middle_size in
    let c = (h.small i).category_size in
    line_below k.recorded (built_right (derived_built h.derived)).resolved_lines n few i (omega arith) (omega arith)

pub shelf_width : (language : Language) → ShelfWidth language
unfolding ShelfWidth
shelf_width language book N L s n few l = below_fits _ _ (reached_below (run_reached language book N L s).1 n few l)
