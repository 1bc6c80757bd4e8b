-- The turns of a walk over a forest, for any choice of what stands at the leaves: what is written and what is left to do make up
-- the whole, until nothing is left or the store is full.
use Prim.Native.Nat.{ℕ, suc, ◌+◌, ◌≤◌, ◌<◌, ◌%◌}
use mathlib.Core.Path.{◌≡◌, refl, sym, ap, ◌∙◌}
use mathlib.Core.List.{List, [], ◌∷◌, ◌++◌, append-nil, append_assoc}
use native.Mathlib.Omega.{arith}
use lib.ListN.{length, get_or, drop}
use Rattle.aut68.specs.Sizes.{cell_factor}
use Rattle.aut68.specs.Expr.{Expr, Exprs, abs, nil, cons, first_cell, parts, cells, cellss, count_exprs}
use Rattle.cells.specs.Cells.{AllFormed, At, Below, Wrote}
use Rattle.cells.specs.Forests.{cells_split, join, at_head, at_tail, at_one}
use Rattle.terms.specs.Kinds.{of_leaf, of_branch}
use Rattle.terms.specs.Grafts.{Choice, graft, grafts, Fit, Fits, Kept, Full, Grafted, Ended, Stopped, graft_prop, graft_const, graft_app, graft_abs, grafts_nil, grafts_cons}
use Rattle.terms.proofs.Writes.{kept_none, kept_more, wrote_none, wrote_more, full_more, full_longer, below_front, below_back}

-- ---- a walk over trees

pub grafts_join : (k : Choice) (c : ℕ) (es fs : Exprs) → grafts k c (join es fs) ≡ join (grafts k c es) (grafts k c fs)
unfolding join
grafts_join k c nil fs = rw grafts_nil
grafts_join k c (cons e es) fs = rw (grafts_cons c k e (join es fs), grafts_cons c k e es) (ap (cons (graft k c e)) (grafts_join k c es fs))

-- the cell of `prop`, a constant or an application stays, and the walk goes on in its parts
pub branch_cells : (k : Choice) (c : ℕ) (e : Expr) → 3 ≤ first_cell e % cell_factor → (first_cell e % cell_factor ≡ 5 → ⊥)
    → cells (graft k c e) ≡ first_cell e ∷ cellss (grafts k c (parts e))
unfolding first_cell parts cells cellss
branch_cells k c =
    of_branch (λ e. cells (graft k c e) ≡ first_cell e ∷ cellss (grafts k c (parts e)))
    (rw (graft_prop, grafts_nil))
    (λ v xs. rw graft_const)
    (λ a b. rw (graft_app, grafts_cons, grafts_cons, grafts_nil) (ap (λ (l : List ℕ). 4 ∷ cells (graft k c a) ++ l) (sym (append-nil (cells (graft k c b))))))

pub abs_cells : (k : Choice) (c : ℕ) (p t : Expr) → cells (graft k c (abs p t)) ≡ 5 ∷ cells (graft k c p) ++ cells (graft k (c + 1) t)
unfolding cells
abs_cells k c p t = rw graft_abs

cons_cells : (k : Choice) (c : ℕ) (e : Expr) (es : Exprs) → cellss (grafts k c (cons e es)) ≡ cells (graft k c e) ++ cellss (grafts k c es)
unfolding cellss
cons_cells k c e es = rw grafts_cons

pub one_cells : (k : Choice) (c : ℕ) (e : Expr) → cellss (grafts k c (cons e nil)) ≡ cells (graft k c e)
unfolding cellss
one_cells k c e = rw (grafts_cons, grafts_nil) (append-nil (cells (graft k c e)))

pub leaf_at : (s : List ℕ) (i : ℕ) (e : Expr) (l : List ℕ) → first_cell e % cell_factor < 3 → drop i s ≡ cells e ++ l → drop (i + 1) s ≡ l
unfolding cells
leaf_at s i e l h a =
    of_leaf (λ e. drop i s ≡ cells e ++ l → drop (i + 1) s ≡ l) (at_tail s i _ l) (λ v. at_tail s i _ l) (λ v. at_tail s i _ l) e h a

pub first_at : (s : List ℕ) (i : ℕ) (e : Expr) (l rest : List ℕ) → At s i (cells e ++ l) rest → get_or s i 0 ≡ first_cell e
first_at s i e l rest a = at_head s i (first_cell e) (cellss (parts e) ++ l ++ rest) (a.is ∙ rw (cells_split e))

-- ---- the invariant

module _ (top : ℕ) (P : List ℕ → Choice → Type 0) (tb low s : List ℕ) (from : ℕ) (w₀ : List ℕ) (to cut : ℕ) where
  -- what is still to do of the expression x, and what is written of its result
  pub record Rest (k : Choice) (x : Expr) (rest w : List ℕ) (i at pending : ℕ) : Type 0 where
    pub todo : Exprs
    pub counted : count_exprs todo ≡ pending
    pub fit : Fits tb k todo
    pub lies : At s i (cellss todo) rest
    pub vs : List ℕ
    pub wrote : Wrote w₀ w to at vs
    pub same : cells (graft k cut x) ≡ vs ++ cellss (grafts k cut todo)

  pub record Inv (w : List ℕ) (i at pending : ℕ) : Type 0 where
    pub past : from ≤ i
    pub within : i ≤ length s
    pub ahead : to ≤ at
    pub room : at ≤ length w₀
    pub kept : Kept w₀ w to
    pub means : (k : Choice) → P low k → (x : Expr) (rest : List ℕ) → Fit tb k x → At s from (cells x) rest → Below top (cells (graft k cut x))
        → Rest k x rest w i at pending

-- the first pending expression is e, the others are es: us is written, for e or for its cell
pub record Turn (tb s : List ℕ) (cut : ℕ) (k : Choice) (e : Expr) (es : Exprs) (rest w w' : List ℕ) (i' at at' pending' : ℕ) : Type 0 where
  pub todo : Exprs
  pub counted : count_exprs todo ≡ pending'
  pub fit : Fits tb k todo
  pub lies : At s i' (cellss todo) rest
  pub us : List ℕ
  pub wrote : Wrote w w' at at' us
  pub same : cells (graft k cut e) ++ cellss (grafts k cut es) ≡ us ++ cellss (grafts k cut todo)

-- there is no room for e, or for its cell
pub record Last (cut : ℕ) (k : Choice) (e : Expr) (w w' : List ℕ) (at : ℕ) : Type 0 where
  pub us : List ℕ
  pub full : Full w w' at us
  pub tail : List ℕ
  pub same : cells (graft k cut e) ≡ us ++ tail

-- whatever the choice and the pending expressions are
abbrev pub Each : (top : ℕ) (P : List ℕ → Choice → Type 0) (tb low s : List ℕ) (cut i pending : ℕ) → (Choice → Expr → Exprs → List ℕ → Type 0) → Type 0
Each top P tb low s cut i pending R =
    (k : Choice) → P low k → (e : Expr) (es : Exprs) (rest : List ℕ) → suc (count_exprs es) ≡ pending → Fit tb k e → Fits tb k es
    → At s i (cells e ++ cellss es) rest → Below top (cells (graft k cut e)) → R k e es rest

module _ {top : ℕ} {P : List ℕ → Choice → Type 0} {tb low s : List ℕ} {from : ℕ} {w₀ : List ℕ} {to cut : ℕ} where
  pub start : to ≤ length w₀ → from ≤ length s → Inv top P tb low s from w₀ to cut w₀ from to 1
  unfolding count_exprs AllFormed
  start h l = record {
    past = omega arith;
    within = l;
    ahead = omega arith;
    room = h;
    kept = kept_none;
    means = λ k pk x rest f a b. record {
      todo = cons x nil;
      counted = refl;
      fit = (f, tt);
      lies = at_one x a;
      vs = [];
      wrote = wrote_none h;
      same = sym (one_cells k cut x);
    };
  }

  -- what the invariant says of the first pending expression
  first_pending : {w : List ℕ} {i at pending : ℕ} (R : Choice → Expr → Exprs → List ℕ → Type 0) (G : Type 0)
      → Inv top P tb low s from w₀ to cut w i at pending → 0 < pending → Each top P tb low s cut i pending R
      → (k : Choice) → P low k → (x : Expr) (rest : List ℕ) → Fit tb k x → At s from (cells x) rest → Below top (cells (graft k cut x))
      → ((e : Expr) (td : Exprs) (vs : List ℕ) → Wrote w₀ w to at vs → cells (graft k cut x) ≡ vs ++ (cells (graft k cut e) ++ cellss (grafts k cut td))
      → R k e td rest → G)
      → G
  unfolding count_exprs AllFormed cellss
  first_pending {w} {i} {at} {pending} R G I pos st k pk x rest f a b g =
      let L = I.means k pk x rest f a b in go L.todo L.counted L.fit L.lies L.vs L.wrote L.same
    where
      go : (td : Exprs) → count_exprs td ≡ pending → Fits tb k td → At s i (cellss td) rest → (vs : List ℕ) → Wrote w₀ w to at vs
          → cells (graft k cut x) ≡ vs ++ cellss (grafts k cut td) → G
      go nil c' f' a' vs W sm = absurd (omega arith)
      go (cons e td) c' f' a' vs W sm =
          let sm' : cells (graft k cut x) ≡ vs ++ (cells (graft k cut e) ++ cellss (grafts k cut td)) = sm ∙ ap (λ (l : List ℕ). vs ++ l) (cons_cells k cut e td) in
          let b' : Below top (cells (graft k cut e) ++ cellss (grafts k cut td)) = below_back top vs _ (rw sm' at b) in
          g e td vs W sm' (st k pk e td rest c' f'.0 f'.1 a' (below_front top (cells (graft k cut e)) _ b'))

  -- a turn
  pub stepped : {w w' : List ℕ} {i i' at at' pending pending' : ℕ} → Inv top P tb low s from w₀ to cut w i at pending → 0 < pending
      → i ≤ i' → i' ≤ length s → at ≤ at' → at' ≤ length w → Kept w w' at
      → Each top P tb low s cut i pending (λ k e es rest. Turn tb s cut k e es rest w w' i' at at' pending')
      → Inv top P tb low s from w₀ to cut w' i' at' pending'
  stepped {w} {w'} {i} {i'} {at} {at'} {pending} {pending'} I pos le inside le' rm K st = record {
    past = omega (arith, I.past);
    within = inside;
    ahead = omega (arith, I.ahead);
    room = omega (arith, I.kept.long);
    kept = kept_more I.ahead I.kept K;
    means = λ k pk x rest f a b.
        first_pending (λ k e es rest. Turn tb s cut k e es rest w w' i' at at' pending') (Rest top P tb low s from w₀ to cut k x rest w' i' at' pending')
        I pos st k pk x rest f a b
        λ e td vs W sm T. record {
          todo = T.todo;
          counted = T.counted;
          fit = T.fit;
          lies = T.lies;
          vs = vs ++ T.us;
          wrote = wrote_more W T.wrote;
          same = sm ∙ ap (λ (l : List ℕ). vs ++ l) T.same ∙ sym (append_assoc vs T.us _);
        };
  }

  -- the walk ends for want of room
  pub stopped : {w w' : List ℕ} {i at pending : ℕ} → Inv top P tb low s from w₀ to cut w i at pending → 0 < pending → Kept w w' at
      → Each top P tb low s cut i pending (λ k e es rest. Last cut k e w w' at) → Stopped top P tb low s w₀ w' from to cut
  stopped {w} {w'} {i} {at} {pending} I pos K st = record {
    kept = kept_more I.ahead I.kept K;
    means = λ k pk x rest f a b.
        first_pending (λ k e es rest. Last cut k e w w' at) (Full w₀ w' to (cells (graft k cut x))) I pos st k pk x rest f a b
        λ e td vs W sm T.
        let q : cells (graft k cut x) ≡ vs ++ (T.us ++ (T.tail ++ cellss (grafts k cut td))) =
        sm ∙ ap (λ (l : List ℕ). vs ++ (l ++ cellss (grafts k cut td))) T.same ∙ ap (λ (l : List ℕ). vs ++ l) (append_assoc T.us T.tail _)
        in
        rw q (full_more W (full_longer (T.tail ++ cellss (grafts k cut td)) T.full));
  }

  -- all is written
  pub finish : {w : List ℕ} {i at pending : ℕ} → Inv top P tb low s from w₀ to cut w i at pending → pending ≡ 0 → Ended top P tb low s w₀ w from to cut i at
  unfolding count_exprs cellss
  finish {w} {i} {at} {pending} I z = record {
    past = I.past;
    within = I.within;
    ahead = I.ahead;
    room = I.room;
    kept = I.kept;
    means = λ k pk x rest f a b.
        let L = I.means k pk x rest f a b in go k x rest L.todo L.counted L.lies L.vs L.wrote L.same;
  }
    where
      go : (k : Choice) (x : Expr) (rest : List ℕ) (td : Exprs) → count_exprs td ≡ pending → At s i (cellss td) rest → (vs : List ℕ) → Wrote w₀ w to at vs
          → cells (graft k cut x) ≡ vs ++ cellss (grafts k cut td) → Grafted s w₀ w rest (cells (graft k cut x)) to i at
      go k x rest nil c a vs W sm =
          let q : cells (graft k cut x) ≡ vs = sm ∙ ap (λ (l : Exprs). vs ++ cellss l) (grafts_nil cut k) ∙ append-nil vs in
          record { wrote = rw q W; read = a }
      go k x rest (cons e td) c a vs W sm = absurd (omega arith)
