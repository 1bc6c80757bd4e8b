-- A constant's arguments kept, and what is made of them: its category, and the wanted category of an argument.
use mathlib.Core.Path.{◌≡◌, sym, ◌∙◌}
use mathlib.Core.Logic.{◌≢◌}
use mathlib.Core.Bool.{Bool, true, false}
use mathlib.Core.List.{List}
use Prim.Native.Nat.{ℕ, ◌+◌, ◌≤◌, ◌<◌}
use native.Mathlib.Omega.{arith}
use lib.Dec.{leb}
use lib.ListN.{length, take, drop}
use Rattle.aut68.specs.Sizes.{cell_values, line_limit, largest_limit, nesting, at_context, at_category}
use Rattle.aut68.specs.Procedure.Answer.{done, and_then, ensure, too_large}
use Rattle.aut68.specs.Expr.{Expr, Exprs, size, sizes, cells, cellss, count_exprs}
use Rattle.aut68.specs.Substitution.{instantiate}
use Rattle.aut68.specs.Lines.{Line, Lines, row_cell}
use Rattle.aut68.specs.Rules.Names.{IsLine}
use Rattle.aut68.specs.Procedure.Category.{made}
use Rattle.calculus.specs.Resolved.{AllKnown, KnownCategory}
use Rattle.calculus.specs.Known.{known_wanted}
use Rattle.cells.specs.Cells.{Formed, RightCount, Wfs, Below, copy_cells}
use Rattle.cells.specs.Layout.{levels, unit_at, level_unit, result_unit, result_ends}
use Rattle.cells.specs.Forests.{sizes_is_length}
use Rattle.cells.specs.Results.{then_refused, then_passed}
use Rattle.cells.specs.Stores.{outside_same, at_before}
use Rattle.cells.specs.CopyLaws.{copy_outside}
use Rattle.terms.specs.Made.{Numbered, ArgumentsLie, Made, InstantiatePost}
use Rattle.heads.specs.Book.{Book, all_known_wf}
use Rattle.reduction.specs.Depths.{instantiated_below}
use Rattle.reduction.specs.Places.{category_numbered}
use Rattle.reduction.specs.Frames.{frame_of}
use Rattle.levels.specs.Places.{LieAll}
use Rattle.levels.specs.FoundPosts.{MadePost}
use Rattle.levels.specs.Spots.{frames, level_result}
use Rattle.levels.proofs.Making.{made_held, spans_none}
use Rattle.levels.specs.ArgumentPosts.{KeptArgument, ConstantPost}

-- ---- an argument kept

module _ {s : List ℕ} {at n : ℕ} {w : List ℕ} {base : ℕ} where
  pub kept_copied : {w' : List ℕ} → w' ≡ copy_cells s at n w (base + at) → KeptArgument s at n w base w'
  kept_copied e = record { frame = rw e (copy_outside s at n w (base + at)); copied = λ k. e }

-- ---- arguments that lie in a level's unit

module _ {tb w : List ℕ} {limit level base count : ℕ} {starts : List ℕ} (xs : Exprs) (pb : base ≡ unit_at limit (level_unit level)) (f : Wfs tb xs)
    (c : count_exprs xs ≡ count) (L : LieAll w limit level starts xs) where
  pub arguments_lie : ArgumentsLie tb w base count starts xs
  arguments_lie = record { formed = f; counted = c; started = L.started; rest = L.behind; lies = rw pb L.at }

  pub arguments_below : {to : ℕ} → unit_at limit (level_unit level) + limit ≤ to → ArgumentsLie tb (take to w) base count starts xs
  arguments_below {to} h = record {
    formed = f;
    counted = c;
    started = L.started;
    rest = drop (unit_at limit (level_unit level) + length (cellss xs)) (take to w);
    lies = rw pb (at_before {n = to} (omega (arith, sizes_is_length xs, L.small)) L.at);
  }

-- ---- what is made of them

-- nothing but the value is made
pub made_is : (L : ℕ) (e : Expr) (b : ℕ) (a : Expr) (b' : ℕ) → made L e b ≡ done a b' → a ≡ e
unfolding made and_then ensure
made_is L e b a b' h = go (leb (size e) L) h
  where
    go : (t : Bool) → and_then (λ _ s. done e s) (ensure t too_large b) ≡ done a b' → a ≡ e
    go true q = cc
    go false q = cc

instance_below : (ls : Lines) (few : length ls < line_limit) (k : ℕ) (vs : List ℕ) (xs : Exprs) (c : Expr)
    → KnownCategory ls k (instantiate vs xs 0 c) → k ≤ nesting → sizes xs ≤ largest_limit → size c ≤ largest_limit
    → Below cell_values (cells (instantiate vs xs 0 c))
instance_below ls few k vs xs c w h x y = instantiated_below ls few k vs xs c w (omega arith) x y

-- the category of the line u with the arguments put in
pub instance_made : {tb ts w w₁ : List ℕ} {limit level from base count : ℕ} {starts : List ℕ} {to n : ℕ} → InstantiatePost tb ts w w₁ from base count starts to limit n
    → {ls : Lines} {k u : ℕ} {d : Line} (vs : List ℕ) (xs : Exprs) → Book ls limit tb ts → to + limit ≤ length w → unit_at limit (level_unit level) + limit ≤ to
    → IsLine ls u d → Formed (Numbered tb vs xs) (RightCount tb) d.category → base ≡ unit_at limit (level_unit level) → count_exprs xs ≡ count → k ≤ nesting
    → AllKnown ls k xs → LieAll w limit level starts xs → from ≡ row_cell tb u at_category → Made limit (instantiate vs xs 0 d.category) n to w w₁
instance_made P {ls} {k} {u} {d} vs xs B room below j f pb c kk kn L pf =
    let C = B.stored.cells_of j in
    let y : KnownCategory ls k (instantiate vs xs 0 d.category) = known_wanted ls B.resolved k vs xs j kn in
    P.made vs xs d.category C.after_category room f (arguments_below xs pb (all_known_wf B.rows k xs kn) c L below) (rw pf C.category_at)
    (instance_below ls B.few k vs xs d.category y kk (omega (arith, L.small, B.limit)) (omega (arith, B.category_size j, B.limit)))

-- ---- a constant

module _ {tb ts w : List ℕ} {limit passed extent : ℕ} {starts : List ℕ} {budget level v : ℕ} where
  pub constant_refused : {code n whole rest : ℕ} → passed ≢ 0 → code ≡ passed → whole ≡ 0 → rest ≡ budget
      → ConstantPost tb ts w limit passed extent starts budget level v w code n whole rest
  constant_refused n z x q = record {
    frame = λ small. outside_same;
    spans = spans_none (λ y. n (sym z ∙ y)) x;
    means = λ B room i c kk kn m. rw (z, q) (then_refused _ n m);
  }

  pub constant_made : {w₁ w₂ : List ℕ} {from base count to n code size whole rest : ℕ} → level < levels → passed ≡ 0 → from ≡ row_cell tb v at_category
      → count ≡ row_cell tb v at_context → (limit ≤ largest_limit → base ≡ unit_at limit (level_unit level)) → (limit ≤ largest_limit → to ≡ unit_at limit result_unit)
      → InstantiatePost tb ts w w₁ from base count starts to limit n → MadePost w₁ limit budget level n (extent + 1) w₂ code size whole rest
      → ConstantPost tb ts w limit passed extent starts budget level v w₂ code size whole rest
  constant_made {w₁} {w₂} {from} {base} {count} {to} {n} l z pf pc pb pt P M = record {
    frame = λ small. frames (omega arith) (frame_of P.confined.outside (omega (arith, pt small, level_result limit l))) (M.frame small);
    spans = M.spans;
    means = λ {ls} {l = d} {k} {xs} {m} B room i c kk kn x. then_passed _ z x (λ _ K.
        let small = B.limit in
        let T = unit_at limit result_unit in
        let r : length w₁ ≡ length w = P.confined.outside.long in
        let P₁ : InstantiatePost tb ts w w₁ from base count starts T limit n = rw (pt small) at P in
        let g = instance_made P₁ d.context xs B (omega (arith, result_ends limit)) (level_result limit l) i (category_numbered B i xs) (pb small)
        (c ∙ sym (B.rows.row i).context_is ∙ sym pc) kk kn K.0 pf
        in
        M.means small (omega arith) (made_held (instantiate d.context xs 0 d.category) room small g));
  }
