-- Cells compared with an expression whose arguments are put in as it is read: what is passed is the beginning of the instance, until
-- nothing is left of it.
use Prim.Native.Nat.{ℕ, ◌+◌, ◌-◌, ◌%◌, ◌≤◌, ◌<◌}
use mathlib.Core.Path.{◌≡◌, sym, ap, ap₂, ◌∙◌}
use mathlib.Core.Bool.{true, false, false≢true}
use mathlib.Core.List.{List, [], ◌∷◌, ◌++◌, append-nil, append_assoc}
use native.Mathlib.Omega.{arith}
use lib.Dec.{eqb}
use lib.ListN.{length, get_or, take, drop, length-append, length-drop}
use lib.Seq.{slice, slice_empty, take-add, take-append-le, drop-append-le, drop-drop, drop-cons, length-take-le}
use borrow.Author.Tests.{eqb-true}
use Rattle.aut68.specs.Sizes.{cell_factor}
use Rattle.aut68.specs.Expr.{Expr, Exprs, nil, cons, size, first_cell, parts, cells, cellss}
use Rattle.aut68.specs.Substitution.{instantiate, instantiates}
use Rattle.cells.specs.Cells.{AllFormed, RightCount, At, same_run}
use Rattle.cells.specs.Forests.{cells_split, cells_long, cells_one, size_is_length, join, cells_join, formed_join, formed_parts, at_head, at_tail, at_one}
use Rattle.cells.specs.Slices.{run_is_slice}
use Rattle.cells.specs.SameCells.{same_run_means}
use Rattle.terms.specs.Made.{ArgumentsLie, InstancePost}
use Rattle.terms.specs.Grafts.{instantiating, graft, grafts, Allowed, Fit, Fits}
use Rattle.matching.specs.Runs.{Stays, Replaced}
use Rattle.terms.proofs.WalkLaws.{grafts_join, one_cells}

-- ---- runs

-- a part and the run behind it
slice_then : (at j n : ℕ) (f : List ℕ) → at ≤ j → j ≤ length f → slice at (j + n) f ≡ slice at j f ++ take n (drop j f)
slice_then at j n f l h = ap (drop at) (take-add j n f) ∙ drop-append-le at (take j f) (take n (drop j f)) (omega (arith, length-take-le j f h))

run_one : (j : ℕ) (f : List ℕ) → j < length f → take 1 (drop j f) ≡ get_or f j 0 ∷ []
run_one j f h = ap (take 1) (drop-cons f j 0 h)

-- a run of what lies in a store is one of the store
run_within : {w : List ℕ} {base : ℕ} {xs rest : List ℕ} (start n : ℕ) → At w base xs rest → start + n ≤ length xs
    → take n (drop (base + start) w) ≡ take n (drop start xs)
run_within {w} {base} {xs} {rest} start n a h =
    ap (take n) (sym (drop-drop start base w) ∙ ap (drop start) a.is ∙ drop-append-le start xs rest (omega arith))
    ∙ take-append-le n (drop start xs) rest (omega (arith, length-drop start xs))

regroup : (p q r t : List ℕ) → p ++ (q ++ r ++ t) ≡ p ++ q ++ (r ++ t)
regroup p q r t = simp append_assoc

-- ---- the invariant

module _ (tb s : List ℕ) (from stop : ℕ) (w : List ℕ) (base count : ℕ) (starts f : List ℕ) (at : ℕ) where
  -- what is left of the expression x, and that its instance is what is passed and the instance of the rest
  pub record Rest (vs : List ℕ) (xs : Exprs) (x : Expr) (rx : List ℕ) (i j : ℕ) : Type 0 where
    pub todo : Exprs
    pub fit : Fits tb (instantiating vs xs) todo
    pub lies : At s i (cellss todo) rx
    pub ends : stop ≡ i + length (cellss todo)
    pub same : cells (instantiate vs xs 0 x) ≡ slice at j f ++ cellss (instantiates vs xs 0 todo)

  pub record Passed (i j : ℕ) : Type 0 where
    pub ahead : at ≤ j
    pub room : j ≤ length f
    pub means : (vs : List ℕ) (xs : Exprs) (x : Expr) (rx : List ℕ) → Fit tb (instantiating vs xs) x → ArgumentsLie tb w base count starts xs
        → At s from (cells x) rx → stop ≡ from + size x → Rest vs xs x rx i j

module _ {tb s : List ℕ} {from stop : ℕ} {w : List ℕ} {base count : ℕ} {starts f : List ℕ} {at : ℕ} where
  pub passed_none : at ≤ length f → Passed tb s from stop w base count starts f at from at
  unfolding AllFormed graft grafts
  passed_none h = record {
    ahead = omega arith;
    room = h;
    means = λ vs xs x rx fx A ax e. record {
      todo = cons x nil;
      fit = (fx, tt);
      lies = at_one x ax;
      ends = omega (arith, e, size_is_length x, ap length (cells_one x));
      same = sym (ap (λ (l : List ℕ). l ++ cellss (instantiates vs xs 0 (cons x nil))) (slice_empty at f) ∙ one_cells (instantiating vs xs) 0 x);
    };
  }

  -- one cell of the expression, for which the n cells of f from j on stand
  pub passed_more : {i j : ℕ} (n : ℕ) → Passed tb s from stop w base count starts f at i j → i < stop → j + n ≤ length f
      → ((vs : List ℕ) (xs : Exprs) → ArgumentsLie tb w base count starts xs → (e : Expr) → first_cell e ≡ get_or s i 0 → Fit tb (instantiating vs xs) e
      → cells (instantiate vs xs 0 e) ≡ take n (drop j f) ++ cellss (instantiates vs xs 0 (parts e)))
      → Passed tb s from stop w base count starts f at (i + 1) (j + n)
  unfolding cellss AllFormed instantiates grafts
  passed_more {i} {j} n P lt h run = record {
    ahead = omega (arith, P.ahead);
    room = h;
    means = λ vs xs x rx fx A ax e.
        let R = P.means vs xs x rx fx A ax e in next vs xs x rx A R.todo R.fit R.lies R.ends R.same;
  }
    where
      next : (vs : List ℕ) (xs : Exprs) (x : Expr) (rx : List ℕ) → ArgumentsLie tb w base count starts xs → (es : Exprs) → Fits tb (instantiating vs xs) es
          → At s i (cellss es) rx → stop ≡ i + length (cellss es) → cells (instantiate vs xs 0 x) ≡ slice at j f ++ cellss (instantiates vs xs 0 es)
          → Rest tb s from stop w base count starts f at vs xs x rx (i + 1) (j + n)
      next vs xs x rx A nil fs a e q = absurd (omega arith)
      next vs xs x rx A (cons y es) fs a e q =
          let k = instantiating vs xs in
          let a' : drop i s ≡ first_cell y ∷ (cellss (parts y) ++ cellss es ++ rx) = a.is ∙ rw (cells_split y) in
          record {
            todo = join (parts y) es;
            fit = formed_join (Allowed tb k) (RightCount tb) (parts y) es (formed_parts (Allowed tb k) (RightCount tb) y fs.0) fs.1;
            lies = record { is = rw cells_join (at_tail s i _ _ a') };
            ends = omega (arith, e, length-append (cells y) (cellss es), ap length (cells_split y), ap length (cells_join (parts y) es), length-append (cellss (parts y)) (cellss es));
            same =
                q
                ∙ ap (λ (l : List ℕ). slice at j f ++ (l ++ cellss (instantiates vs xs 0 es))) (run vs xs A y (sym (at_head s i _ _ a')) fs.0)
                ∙ regroup (slice at j f) (take n (drop j f)) (cellss (instantiates vs xs 0 (parts y))) (cellss (instantiates vs xs 0 es))
                ∙ ap₂ (λ (p r : List ℕ). p ++ r) (sym (slice_then at j n f P.ahead P.room))
                (sym (ap cellss (grafts_join k 0 (parts y) es) ∙ cells_join (instantiates vs xs 0 (parts y)) (instantiates vs xs 0 es)));
          }

  module _ {i j x : ℕ} (P : Passed tb s from stop w base count starts f at i j) (lt : i < stop) (is : x ≡ get_or s i 0) where
    -- the cell itself
    pub passed_itself : Stays tb x count → (x % cell_factor ≡ 5 → ⊥) → j < length f → get_or f j 0 ≡ x
        → Passed tb s from stop w base count starts f at (i + 1) (j + 1)
    passed_itself R n₅ h q =
        passed_more 1 P lt (omega arith) λ vs xs A e xe fe.
        R.is n₅ vs xs A.counted e (xe ∙ sym is) fe
        ∙ ap (λ (l : List ℕ). l ++ cellss (instantiates vs xs 0 (parts e))) (ap (λ (c : ℕ). c ∷ []) (sym q) ∙ sym (run_one j f h))

    -- the argument that stands for it
    pub passed_argument : {start len : ℕ} → Replaced tb x count starts start len → same_run w (base + start) f j len ≡ true
        → Passed tb s from stop w base count starts f at (i + 1) (j + len)
    unfolding instantiates cellss
    passed_argument {start} {len} R t =
        let m = same_run_means w (base + start) f j len t in
        passed_more len P lt m.1 λ vs xs A e xe fe.
        let r = R.is vs xs A.counted A.started e (xe ∙ sym is) fe in
        r.2
        ∙ sym (run_within start len A.lies r.1)
        ∙ (sym (run_is_slice (base + start) len w) ∙ m.2 ∙ run_is_slice j len f)
        ∙ sym (append-nil (take len (drop j f)))
        ∙ ap (λ (es : Exprs). take len (drop j f) ++ cellss (instantiates vs xs 0 es)) (sym r.0)

  -- nothing is left
  pub passed_all : {i j n : ℕ} → Passed tb s from stop w base count starts f at i j → stop ≤ i → InstancePost tb s from stop w base count starts f at n (eqb (j - at) n)
  unfolding cellss instantiates
  passed_all {i} {j} {n} P ge = record {
    is = λ t vs xs x rx fx A ax e.
        let R = P.means vs xs x rx fx A ax e in
        let k : at + n ≡ j = omega (arith, eqb-true (j - at) n t, P.ahead) in
        (omega (arith, P.room), ap (λ (m : ℕ). slice at m f) k ∙ sym (whole vs xs x rx R.todo R.ends R.same));
  }
    where
      whole : (vs : List ℕ) (xs : Exprs) (x : Expr) (rx : List ℕ) (es : Exprs) → stop ≡ i + length (cellss es)
          → cells (instantiate vs xs 0 x) ≡ slice at j f ++ cellss (instantiates vs xs 0 es) → cells (instantiate vs xs 0 x) ≡ slice at j f
      whole vs xs x rx nil e q = q ∙ append-nil (slice at j f)
      whole vs xs x rx (cons y es) e q = absurd (omega (arith, cells_long y, length-append (cells y) (cellss es)))

  pub instance_no : {n : ℕ} → InstancePost tb s from stop w base count starts f at n false
  instance_no = record { is = λ t. absurd (false≢true t) }
