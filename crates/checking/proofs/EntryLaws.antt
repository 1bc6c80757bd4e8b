-- The lines that a line names, from where they are collected to their entry in the index.
use mathlib.Core.Path.{◌≡◌, sym, ap, ◌∙◌}
use mathlib.Core.List.{List, ◌∷◌}
use Prim.Native.Nat.{ℕ, suc, ◌+◌, ◌*◌, ◌≤◌}
use native.Mathlib.Omega.{arith}
use lib.ListN.{length, take, drop}
use lib.Seq.{slice, sets, take-take, length-slice}
use Rattle.aut68.specs.Sizes.{largest_limit, work_units}
use Rattle.aut68.specs.Bytes.{Bytes}
use Rattle.aut68.specs.Lines.{line_cells}
use Rattle.aut68.specs.Lines as L
use Rattle.aut68.specs.Index.{names_of, entry_of}
use Rattle.aut68.specs.Procedure.CheckLine.{Passed}
use Rattle.cells.specs.Cells.{At, Outside}
use Rattle.cells.specs.Stores.{outside_below, at_taken, at_of_taken}
use Rattle.cells.specs.Slices.{run_is_slice, slice_inside}
use Rattle.cells.specs.Layout.{names_at, line_unit, reader_units, context_unit}
use Rattle.reader.specs.Posts.{LineRead}
use Rattle.reader.specs.declared.lines.Line.{Line}
use Rattle.entries.specs.Posts.{NamesPut, NamesPost, EntryPost}

-- ---- the line's cells stay while its names are collected

at_same : (i m : ℕ) {w w' xs rest : List ℕ} → length xs ≤ m → slice i (i + m) w' ≡ slice i (i + m) w → At w i xs rest → At w' i xs (drop (i + length xs) w')
at_same i m {w} {w'} {xs} {rest} h e a =
    let n = length xs in
    at_of_taken w' i n xs
    (sym (run_is_slice i n w')
    ∙ slice_inside w w' i (i + m) i (i + n) e (omega arith) (omega arith) (omega arith)
    ∙ run_is_slice i n w
    ∙ at_taken a)

module _ {limit size indicator count : ℕ} {w w' : List ℕ} (names : NamesPost limit size indicator w w' count) where
  -- the line that was read is still there
  pub read_still : {bytes : Bytes} {x : Line} {p : Passed} → x.size ≤ 2 * limit → LineRead bytes w (line_unit * limit) x p → LineRead bytes w' (line_unit * limit) x p
  read_still {x = x} {p} h a =
      record {
        first_is = a.first_is;
        len_is = a.len_is;
        within = a.within;
        identifier_is = a.identifier_is;
        indicator_is = a.indicator_is;
        context_is = a.context_is;
        kind_is = a.kind_is;
        middle_is = a.middle_is;
        size_is = a.size_is;
        paragraph_is = a.paragraph_is;
        after = drop (line_unit * limit + length (line_cells p.line)) w';
        cells_at = at_same (line_unit * limit) (2 * limit) (let q = a.size_is in omega arith) names.cells_stay a.cells_at;
      }

  -- what lies below the names is as it was before the line was read
  pub below_names : {w₀ : List ℕ} (w₂ : List ℕ) → Outside (context_unit * limit) (reader_units * limit) w₀ w → take (line_unit * limit) w₂ ≡ take (line_unit * limit) w'
      → take (names_at limit) w₂ ≡ take (names_at limit) w₀
  below_names {w₀} w₂ o e =
      sym (take-take (names_at limit) (line_unit * limit) w₂ (omega arith))
      ∙ ap (take (names_at limit)) e
      ∙ take-take (names_at limit) (line_unit * limit) w' (omega arith)
      ∙ names.ahead
      ∙ outside_below {n = names_at limit} (omega arith) o

-- ---- the entry

module _ {l : L.Line} {limit count : ℕ} {w : List ℕ} (large : 1 ≤ limit) (enough : work_units * limit ≤ length w) (put : NamesPut l limit count w) where
  count_is_lem : count ≡ length (names_of l)
  count_is_lem =
      let f = put.fits in
      sym (omega (arith, length-slice (names_at limit) (names_at limit + count) w (omega arith))) ∙ ap length put.are

  pub entry_long : suc count ≡ length (entry_of l)
  unfolding entry_of
  entry_long = ap suc count_is_lem

  -- it is written, from a store that still has the names
  pub entry_put : (ix : List ℕ) (entries : ℕ) {w₂ ix' : List ℕ} {at : ℕ} → at ≡ names_at limit → length w₂ ≡ length w → take (line_unit * limit) w₂ ≡ take (line_unit * limit) w
      → limit ≤ largest_limit → entries + suc count ≤ length ix → EntryPost ix entries w₂ at count ix' → ix' ≡ sets ix entries (entry_of l)
  unfolding entry_of
  entry_put ix entries {w₂} a long same small room post =
      let f = put.fits in
      post.put room (omega arith) (omega arith)
      ∙ ap (λ (i : ℕ). sets ix entries (count ∷ slice i (i + count) w₂)) a
      ∙ ap (λ (x : List ℕ). sets ix entries (count ∷ x)) (names_same ∙ put.are)
      ∙ ap (λ (i : ℕ). sets ix entries (i ∷ names_of l)) count_is_lem
    where
      names_same : slice (names_at limit) (names_at limit + count) w₂ ≡ slice (names_at limit) (names_at limit + count) w
      names_same =
          let f = put.fits in
          ap (drop (names_at limit))
          (sym (take-take (names_at limit + count) (line_unit * limit) w₂ (omega arith))
          ∙ ap (take (names_at limit + count)) same
          ∙ take-take (names_at limit + count) (line_unit * limit) w (omega arith))
