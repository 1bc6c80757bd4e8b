-- A line's cells exchanged with term cells, checked there, and exchanged back.
use mathlib.Core.Path.{◌≡◌, refl, sym, ap, ◌∙◌}
use mathlib.Core.Logic.{◌≢◌, inl}
use mathlib.Core.List.{List, ◌++◌, append_assoc}
use Prim.Native.Nat.{ℕ, ◌+◌, ◌*◌, ◌≤◌, ◌<◌}
use native.Mathlib.Omega.{arith}
use lib.ListN.{length, take, drop, length-append, take-append-drop}
use lib.Seq.{sets, sets-eq, length-sets, take_at, drop_at, take-add, length-take-le}
use Rattle.aut68.specs.Sizes.{largest_limit}
use Rattle.aut68.specs.Language.{aut68}
use Rattle.aut68.specs.Expr.{Expr, size, cells}
use Rattle.aut68.specs.Lines.{Line, Lines, Kind, variable, primitive, abbreviation, kind_cells, line_cells}
use Rattle.aut68.specs.Procedure.Answer.{Answer}
use Rattle.aut68.specs.Procedure.CheckLine.{check_categories}
use Rattle.cells.specs.Cells.{At, Outside, Below, copy_cells}
use Rattle.cells.specs.Layout.{unit_at, line_unit}
use Rattle.cells.specs.Results.{Result, passed, refused}
use Rattle.cells.specs.Stores.{at_taken, at_sets, at_kept, outside_below}
use Rattle.cells.specs.CopyLaws.{copied, copied_length, copy_whole, copy_outside}
use Rattle.cells.specs.Forests.{size_is_length}
use Rattle.categories.specs.Posts.{CheckCellsPost}
use Rattle.checking.specs.Progress.{ToStore}

-- ---- an exchange and back

module _ (ts w : List ℕ) (used size to : ℕ) (h : used + size ≤ length ts) (k : to + size ≤ length w) where
  terms_exchanged : {xs behind : List ℕ} → At w to xs behind → size ≡ length xs → copy_cells w to size ts used ≡ sets ts used xs
  unfolding copied
  terms_exchanged {xs} a e =
      copy_whole w to size ts used k h
      ∙ ap (sets ts used) (ap (λ (n : ℕ). take n (drop to w)) e ∙ at_taken a)

  -- the term cells that were displaced
  displaced : List ℕ
  displaced = take size (drop used ts)

  work_exchanged : At (copy_cells ts used size w to) to displaced (drop (to + length displaced) w)
  unfolding copied displaced
  work_exchanged =
      let l : length displaced ≡ size = copied_length ts used size w to h in
      rw (copy_whole ts used size w to h k) (at_sets w displaced to (omega (arith, l)))

-- a run written over another, and the first again
sets_back : (ts xs : List ℕ) (i n : ℕ) → length xs ≡ n → i + n ≤ length ts → sets (sets ts i xs) i (take n (drop i ts)) ≡ ts
sets_back ts xs i n e h =
    let ys = take n (drop i ts) in
    let t = sets ts i xs in
    let l : length ys ≡ n = copied_length ts i n ts 0 h in
    let a : t ≡ take i ts ++ xs ++ drop (i + length xs) ts = sets-eq xs ts i (omega arith) in
    let f : length (take i ts) ≡ i = length-take-le i ts (omega arith) in
    let front : take i t ≡ take i ts = ap (take i) (a ∙ append_assoc (take i ts) xs (drop (i + length xs) ts)) ∙ take_at (take i ts) (xs ++ drop (i + length xs) ts) i f in
    let g : length (take i ts ++ xs) ≡ i + length ys = omega (arith, length-append (take i ts) xs) in
    let back : drop (i + length ys) t ≡ drop (i + n) ts = ap (drop (i + length ys)) a ∙ drop_at (take i ts ++ xs) (drop (i + length xs) ts) (i + length ys) g ∙ ap (λ (m : ℕ). drop (i + m) ts) e in
    sets-eq ys t i (omega (arith, length-sets ts i xs))
    ∙ ap (λ (x : List ℕ). x ++ ys ++ drop (i + length ys) t) front
    ∙ ap (λ (x : List ℕ). take i ts ++ ys ++ x) back
    ∙ ap (λ (x : List ℕ). x ++ drop (i + n) ts) (sym (take-add i n ts))
    ∙ take-append-drop (i + n) ts

module _ (ts w : List ℕ) (used size to : ℕ) (h : used + size ≤ length ts) (k : to + size ≤ length w) where
  -- what was displaced still stands in the working store
  pub exchanged_back : {from end : ℕ} (ts' w' w'' : List ℕ) → ts' ≡ copy_cells w to size ts used → w' ≡ copy_cells ts used size w to
      → to + size ≤ from → Outside from end w' w'' → copy_cells w'' to size ts' used ≡ ts
  unfolding copied displaced
  exchanged_back ts' w' w'' p q f o =
      let xs = take size (drop to w) in
      let l : length xs ≡ size = copied_length w to size ts used k in
      let m : length (take size (drop used ts)) ≡ size = copied_length ts used size w to h in
      let e : ts' ≡ sets ts used xs = p ∙ copy_whole w to size ts used k h in
      let stood = rw (← q) at (work_exchanged ts w used size to h k) in
      let same : take size (drop to w'') ≡ take size (drop used ts) =
      ap (λ (n : ℕ). take n (drop to w'')) (sym m) ∙ at_taken (at_kept o (inl (omega arith)) stood)
      in
      let long : length w'' ≡ length w = o.long ∙ ap length q ∙ (copy_outside ts used size w to).long in
      ap (λ (x : List ℕ). copy_cells w'' to size x used) e
      ∙ copy_whole w'' to size (sets ts used xs) used (omega arith) (omega (arith, length-sets ts used xs))
      ∙ ap (sets (sets ts used xs) used) same
      ∙ sets_back ts xs used size l h

-- ---- the hints lie below all that is exchanged and checked

module _ (limit to used size : ℕ) (t : limit ≤ largest_limit → to ≡ unit_at limit line_unit) where
  below_exchange : (ts w : List ℕ) {w' : List ℕ} → w' ≡ copy_cells ts used size w to → limit ≤ largest_limit → take (line_unit * limit) w' ≡ take (line_unit * limit) w
  unfolding unit_at
  below_exchange ts w e small =
      let q : to ≡ line_unit * limit = t small in
      ap (take (line_unit * limit)) e ∙ outside_below {n = line_unit * limit} (omega arith) (copy_outside ts used size w to)

  module _ (ts w : List ℕ) {w' w'' : List ℕ} (e : w' ≡ copy_cells ts used size w to)
      {tb s : List ℕ} {start at budget code left : ℕ} (post : CheckCellsPost tb s start at w' limit budget w'' code left) where
    pub hints_stay : limit ≤ largest_limit → take (line_unit * limit) w'' ≡ take (line_unit * limit) w
    unfolding unit_at
    hints_stay small = outside_below {n = line_unit * limit} (omega arith) (post.frame small) ∙ below_exchange ts w e small

    pub hints_stay_back : (ts' : List ℕ) {w''' : List ℕ} → w''' ≡ copy_cells ts' used size w'' to → limit ≤ largest_limit → take (line_unit * limit) w''' ≡ take (line_unit * limit) w
    hints_stay_back ts' f small = below_exchange ts' w'' f small ∙ hints_stay small

-- ---- the check between them

pub result_refused : {A : Type 0} {R : A → Type 0} {Q : A → Type 0} {code left : ℕ} {m : Answer ℕ A} → code ≢ 0 → Result R code left m → Result Q code left m
result_refused n (passed e h) = absurd (n e)
result_refused n (refused e) = refused e

-- a row written, with another name for one of its cells
pub row_with : (t t' : List ℕ) (i n : ℕ) {x y : ℕ} (row : ℕ → List ℕ) → x ≡ y → (Below n (row x) → t' ≡ sets t i (row x)) → Below n (row y) → t' ≡ sets t i (row y)
row_with t t' i n row e f b = rw (← e) (f (rw (← e) at b))

kind_small : (limit : ℕ) (k : Kind) → ((m : Expr) → k ≡ abbreviation m → size m ≤ limit) → length (kind_cells k) ≤ limit
unfolding kind_cells
kind_small limit variable h = omega arith
kind_small limit primitive h = omega arith
kind_small limit (abbreviation m) h = omega (arith, h m refl, size_is_length m)

module _ {ls : Lines} {l : Line} {limit used middle size : ℕ} {tb ts w : List ℕ} (s : ToStore ls l limit used middle size tb ts w) (h : used + size ≤ length ts)
    {to : ℕ} (t : limit ≤ largest_limit → to ≡ unit_at limit line_unit) where
  place : to ≡ line_unit * limit
  unfolding unit_at
  place = t s.book.limit

  -- a line's cells are at most two units
  two_units : size ≤ 2 * limit
  unfolding line_cells
  two_units =
      let q = s.size_is in
      let m = kind_small limit l.kind (λ m e. (s.cells.middle_small m e).0) in
      let c = s.cells.category_small.0 in
      omega (arith, q, m, c, size_is_length l.category, length-append (kind_cells l.kind) (cells l.category))

  size_fits : to + size ≤ length w
  size_fits = let q = s.enough in omega (arith, two_units, place)

  pub cells_stored : (ts' : List ℕ) → ts' ≡ copy_cells w to size ts used → ts' ≡ sets ts used (line_cells l)
  cells_stored ts' e =
      let a : At w to (line_cells l) s.behind = record { is = ap (λ (i : ℕ). drop i w) place ∙ s.cells_at.is } in
      e ∙ terms_exchanged ts w used size to h size_fits a s.size_is

  pub category_starts : used + middle < 4294967296
  unfolding line_cells
  category_starts =
      let q = s.size_is in
      let e = s.cells.ends in
      let f = s.few in
      omega (arith, q, e, f, length-append (kind_cells l.kind) (cells l.category))

  pub checked : (ts' w' w'' : List ℕ) (category budget code left : ℕ) → ts' ≡ copy_cells w to size ts used → w' ≡ copy_cells ts used size w to
      → (used + middle < 4294967296 → category ≡ used + middle)
      → CheckCellsPost tb (take (used + size) ts') used category w' limit budget w'' code left
      → Result (λ _. Unit {0}) code left (check_categories aut68 ls limit l budget)
  unfolding check_categories
  checked ts' w' w'' category budget code left p q r post =
      post.means {ls = ls} {l = l} (rw (cells_stored ts' p) s.book) (let e = s.enough in omega (arith, ap length q, (copy_outside ts used size w to).long))
      (rw (cells_stored ts' p, r category_starts) s.cells)

  pub put_back : (ts' w' w'' : List ℕ) (category budget code left : ℕ) → ts' ≡ copy_cells w to size ts used → w' ≡ copy_cells ts used size w to
      → CheckCellsPost tb (take (used + size) ts') used category w' limit budget w'' code left
      → {ts'' : List ℕ} → ts'' ≡ copy_cells w'' to size ts' used → ts'' ≡ ts
  unfolding unit_at
  put_back ts' w' w'' category budget code left p q post e =
      e ∙ exchanged_back ts w used size to h size_fits ts' w' w'' p q (omega (arith, two_units, place)) (post.frame s.book.limit)
