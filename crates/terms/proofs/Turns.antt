-- The turns of a walk, and its refusals. What it puts in lies below `end` in the store that it writes to; S says where it reads:
-- there too, or in another store.
use Prim.Native.Nat.{ℕ, suc, ◌+◌, ◌-◌, ◌≤◌, ◌<◌, ◌%◌}
use mathlib.Core.Path.{◌≡◌, refl, sym, ap, ◌∙◌}
use mathlib.Core.List.{List, [], ◌∷◌, ◌++◌, append-nil, append_assoc}
use native.Mathlib.Omega.{arith}
use lib.ListN.{length, get_or, set, take, drop, length-append}
use Rattle.aut68.specs.Sizes.{cell_factor}
use Rattle.aut68.specs.Expr.{Expr, Exprs, abs, first_cell, parts, cells, cellss, count_exprs}
use Rattle.cells.specs.Cells.{parts_after, Formed, RightCount, At, Below}
use Rattle.cells.specs.Forests.{cells_split, cells_long, count_long, join, cells_join, count_join, formed_join, formed_parts, parts_count, at_head, at_tail, at_length, at_inside}
use Rattle.terms.specs.Kinds.{of_abstraction_lem}
use Rattle.terms.specs.declared.leaves.Change.TheVariants.{Lift}
use Rattle.terms.specs.declared.leaves.Leaf.TheVariants.{One, Expression, TooHigh}
use Rattle.terms.specs.Grafts.{Choice, lifting, Stands, raises, graft, grafts, Allowed, Fit, Fits, Kept, Full, LeafPost, Grafted, Ended, Stopped}
use Rattle.terms.proofs.Writes.{kept_none, kept_one, kept_more, kept_below, wrote_one, wrote_more, full_here, full_more, below_front, below_back}
use Rattle.terms.proofs.WalkLaws.{grafts_join, branch_cells, abs_cells, leaf_at, first_at, Inv, Turn, Last, Each, stepped, stopped}

regroup_parts : (p t es rest : List ℕ) → p ++ t ++ es ++ rest ≡ p ++ (t ++ (es ++ rest))
regroup_parts p t es rest = simp append_assoc

-- ---- the two parts of an abstraction at i

domain_lies : (s : List ℕ) (i : ℕ) (p t : Expr) (es : Exprs) (rest : List ℕ) → At s i (cells (abs p t) ++ cellss es) rest
    → At s (i + 1) (cells p) (cells t ++ (cellss es ++ rest))
unfolding cells
domain_lies s i p t es rest a = record { is = at_tail s i _ _ a.is ∙ regroup_parts (cells p) (cells t) (cellss es) rest }

parts_below : (top cut : ℕ) (k : Choice) (p t : Expr) → Below top (cells (graft k cut (abs p t)))
    → Below top (cells (graft k cut p)) × Below top (cells (graft k (cut + 1) t))
unfolding Below
parts_below top cut k p t b =
    let b' = rw (abs_cells k cut p t) at b in
    (below_front top (cells (graft k cut p)) _ b'.1, below_back top (cells (graft k cut p)) _ b'.1)

module _ {top : ℕ} {P : List ℕ → Choice → Type 0} {tb low s : List ℕ} {i : ℕ} (cut : ℕ) (k : Choice) (pk : P low k) (p t : Expr) (es : Exprs) (rest : List ℕ)
    (f : Fit tb k (abs p t)) (a : At s i (cells (abs p t) ++ cellss es) rest) (b : Below top (cells (graft k cut (abs p t)))) where
  module _ {w w' : List ℕ} {to : ℕ} where
    domain_grafted : {j at : ℕ} → Ended top P tb low s w w' (i + 1) to cut j at
        → Grafted s w w' (cells t ++ (cellss es ++ rest)) (cells (graft k cut p)) to j at
    unfolding Formed
    domain_grafted A = A.means k pk p (cells t ++ (cellss es ++ rest)) f.0 (domain_lies s i p t es rest a) (parts_below top cut k p t b).0

    domain_full : Stopped top P tb low s w w' (i + 1) to cut → Full w w' to (cells (graft k cut p))
    unfolding Formed
    domain_full A = A.means k pk p (cells t ++ (cellss es ++ rest)) f.0 (domain_lies s i p t es rest a) (parts_below top cut k p t b).0

    body_grafted : {from j at : ℕ} → At s from [] (cells t ++ (cellss es ++ rest)) → Ended top P tb low s w w' from to (cut + 1) j at
        → Grafted s w w' (cellss es ++ rest) (cells (graft k (cut + 1) t)) to j at
    unfolding Formed
    body_grafted q B = B.means k pk t (cellss es ++ rest) f.1 (record { is = q.is }) (parts_below top cut k p t b).1

    body_full : {from : ℕ} → At s from [] (cells t ++ (cellss es ++ rest)) → Stopped top P tb low s w w' from to (cut + 1)
        → Full w w' to (cells (graft k (cut + 1) t))
    unfolding Formed
    body_full q B = B.means k pk t (cellss es ++ rest) f.1 (record { is = q.is }) (parts_below top cut k p t b).1

-- ---- where the walk stops

module _ {top : ℕ} {P : List ℕ → Choice → Type 0} {tb low s : List ℕ} {from : ℕ} {w₀ : List ℕ} {to cut : ℕ} where
  -- the source ends before it begins, or before the pending expressions do: that is not met
  pub stop_start : length s < from → Stopped top P tb low s w₀ w₀ from to cut
  stop_start l = record { kept = kept_none; means = λ k pk e rest f a b. absurd (omega (arith, at_inside e a)) }

  pub stop_source : {w : List ℕ} {i at pending : ℕ} → Inv top P tb low s from w₀ to cut w i at pending → length s - i < pending
      → Stopped top P tb low s w₀ w from to cut
  stop_source I l =
      stopped I (omega arith) kept_none λ k pk e es rest c f fs a b.
      absurd (omega (arith, at_length a, length-append (cells e) (cellss es), cells_long e, count_long es))

  -- the store is full
  pub stop_full : {w : List ℕ} {i at pending : ℕ} → Inv top P tb low s from w₀ to cut w i at pending → 0 < pending → length w ≤ at
      → Stopped top P tb low s w₀ w from to cut
  stop_full I pos l =
      stopped I pos kept_none λ k pk e es rest c f fs a b.
      record { us = cells (graft k cut e); full = full_here l (cells_long (graft k cut e)); tail = []; same = sym (append-nil _) }

-- ---- a turn

-- the cell x is read at i, and there is room for one
pub record Ready (top : ℕ) (P : List ℕ → Choice → Type 0) (tb : List ℕ) (end from : ℕ) (w₀ : List ℕ) (to cut : ℕ) (S : List ℕ → List ℕ) (w : List ℕ) (x i at pending : ℕ) : Type 0 where
  pub below : end ≤ to
  pub inv : Inv top P tb (take end w₀) (S (take end w₀)) from w₀ to cut w i at pending
  pub some : 0 < pending
  pub room : at < length w
  pub inside : i < length (S (take end w₀))
  pub read : x ≡ get_or (S (take end w)) i 0

module _ {top : ℕ} {P : List ℕ → Choice → Type 0} {tb : List ℕ} {end from : ℕ} {w₀ : List ℕ} {to cut : ℕ} {S : List ℕ → List ℕ} {w : List ℕ} {x i at pending : ℕ}
    (Y : Ready top P tb end from w₀ to cut S w x i at pending) where
  -- the source is as it was
  same_low : take end w ≡ take end w₀
  same_low = kept_below end Y.below Y.inv.kept

  reads : x ≡ get_or (S (take end w₀)) i 0
  reads = Y.read ∙ ap (λ (l : List ℕ). get_or (S l) i 0) same_low

  -- a constant or an application: its cell
  pub turn_branch : 3 ≤ x % cell_factor → (x % cell_factor ≡ 5 → ⊥) → Inv top P tb (take end w₀) (S (take end w₀)) from w₀ to cut (set w at x) (i + 1) (at + 1) (pending - 1 + parts_after tb x)
  turn_branch ge ne =
      stepped Y.inv Y.some (omega arith) (omega arith) (omega arith) (omega arith) (kept_one x) λ k pk e es rest c f fs a b.
      let s = S (take end w₀) in
      let a' : drop i s ≡ first_cell e ∷ (cellss (parts e) ++ cellss es ++ rest) = a.is ∙ rw (cells_split e) in
      let q : x ≡ first_cell e = reads ∙ at_head s i _ _ a' in
      record {
        todo = join (parts e) es;
        counted = rw (q, parts_count (Allowed tb k) tb e f, count_join) (omega arith);
        fit = formed_join (Allowed tb k) (RightCount tb) (parts e) es (formed_parts (Allowed tb k) (RightCount tb) e f) fs;
        lies = record { is = rw cells_join (at_tail s i _ _ a') };
        us = x ∷ [];
        wrote = wrote_one Y.room;
        same = rw (branch_cells k cut e (rw q at ge) (rw q at ne), grafts_join, cells_join, q);
      }

  -- a leaf
  module _ (lf : x % cell_factor < 3) where
    -- what is so of the leaf is so of the first pending expression
    of_leaf_first : (G : Choice → Expr → Exprs → List ℕ → Type 0)
        → ((k : Choice) → P (take end w) k → (e : Expr) (es : Exprs) (rest : List ℕ) → suc (count_exprs es) ≡ pending → first_cell e ≡ x → Fit tb k e → Fits tb k es
        → At (S (take end w₀)) (i + 1) (cellss es) rest → Below top (cells (graft k cut e)) → G k e es rest)
        → Each top P tb (take end w₀) (S (take end w₀)) cut i pending G
    of_leaf_first G g k pk e es rest c f fs a b =
        let q : first_cell e ≡ x = sym (reads ∙ first_at (S (take end w₀)) i e (cellss es) rest a) in
        g k (rw same_low pk) e es rest c q f fs
        (record { is = leaf_at (S (take end w₀)) i e (cellss es ++ rest) (rw q lf) (a.is ∙ append_assoc (cells e) (cellss es) rest) }) b

    -- one cell
    pub turn_cell : {cell : ℕ} → LeafPost top (P (take end w)) tb (take end w) x cut (One cell)
        → Inv top P tb (take end w₀) (S (take end w₀)) from w₀ to cut (set w at cell) (i + 1) (at + 1) (pending - 1)
    turn_cell {cell} L =
        stepped Y.inv Y.some (omega arith) (omega arith) (omega arith) (omega arith) (kept_one cell)
        (of_leaf_first (λ k e es rest. Turn tb (S (take end w₀)) cut k e es rest w (set w at cell) (i + 1) at (at + 1) (pending - 1))
        λ k pk e es rest c q f fs a b. record {
          todo = es;
          counted = omega arith;
          fit = fs;
          lies = a;
          us = cell ∷ [];
          wrote = wrote_one Y.room;
          same = ap (λ (l : List ℕ). l ++ cellss (grafts k cut es)) (L k pk e q f);
        })

    -- its number is too high for a cell: that is not met
    pub stop_high : LeafPost top (P (take end w)) tb (take end w) x cut TooHigh → Stopped top P tb (take end w₀) (S (take end w₀)) w₀ w from to cut
    stop_high L =
        stopped Y.inv Y.some kept_none
        (of_leaf_first (λ k e es rest. Last cut k e w w at) λ k pk e es rest c q f fs a b. absurd (L k pk e q b))

    -- an expression, lifted
    module _ {w' : List ℕ} {at₀ : ℕ} (L : LeafPost top (P (take end w)) tb (take end w) x cut (Expression at₀)) where
      pub turn_put : {i' at' : ℕ} → Ended top (Stands tb (Lift cut)) tb (take end w) (take end w) w w' at₀ at 0 i' at'
          → Inv top P tb (take end w₀) (S (take end w₀)) from w₀ to cut w' (i + 1) at' (pending - 1)
      unfolding graft
      turn_put {i'} {at'} R =
          stepped Y.inv Y.some (omega arith) (omega arith) R.ahead R.room R.kept
          (of_leaf_first (λ k e es rest. Turn tb (S (take end w₀)) cut k e es rest w w' (i + 1) at at' (pending - 1))
          λ k pk e es rest c q f fs a b.
          let p = L k pk e q f in
          record {
            todo = es;
            counted = omega arith;
            fit = fs;
            lies = a;
            us = cells (graft k cut e);
            wrote = rw p.is (R.means (lifting cut) (raises refl) p.whole p.rest p.formed p.lies (rw p.is at b)).wrote;
            same = refl;
          })

      pub stop_put : Stopped top (Stands tb (Lift cut)) tb (take end w) (take end w) w w' at₀ at 0
          → Stopped top P tb (take end w₀) (S (take end w₀)) w₀ w' from to cut
      unfolding graft
      stop_put R =
          stopped Y.inv Y.some R.kept
          (of_leaf_first (λ k e es rest. Last cut k e w w' at) λ k pk e es rest c q f fs a b.
          let p = L k pk e q f in
          record {
            us = cells (graft k cut e);
            full = rw p.is (R.means (lifting cut) (raises refl) p.whole p.rest p.formed p.lies (rw p.is at b));
            tail = [];
            same = sym (append-nil _);
          })

  -- an abstraction: its cell, its domain, its body one binding deeper
  module _ (is5 : x % cell_factor ≡ 5) where
    -- what is so of every abstraction is so of the first pending expression
    of_first : (G : Choice → Expr → Exprs → List ℕ → Type 0)
        → ((k : Choice) → P (take end w₀) k → (p t : Expr) (es : Exprs) (rest : List ℕ) → suc (count_exprs es) ≡ pending → x ≡ 5 → Fit tb k (abs p t) → Fits tb k es
        → At (S (take end w₀)) i (cells (abs p t) ++ cellss es) rest → Below top (cells (graft k cut (abs p t))) → G k (abs p t) es rest)
        → Each top P tb (take end w₀) (S (take end w₀)) cut i pending G
    unfolding first_cell
    of_first G g k pk e es rest c f fs a b =
        let q : x ≡ first_cell e = reads ∙ first_at (S (take end w₀)) i e (cellss es) rest a in
        of_abstraction_lem (λ e. x ≡ first_cell e → Fit tb k e → At (S (take end w₀)) i (cells e ++ cellss es) rest → Below top (cells (graft k cut e)) → G k e es rest)
        (λ p t x₁ f₁ a₁ b₁. g k pk p t es rest c x₁ f₁ fs a₁ b₁) e (rw q at is5) q f a b

    same_domain : take end (set w at x) ≡ take end w₀
    same_domain = kept_below end Y.below (kept_more Y.inv.ahead Y.inv.kept (kept_one x))

    -- no room for the domain
    pub stop_domain : {w₁ : List ℕ} → Stopped top P tb (take end (set w at x)) (S (take end (set w at x))) (set w at x) w₁ (i + 1) (at + 1) cut
        → Stopped top P tb (take end w₀) (S (take end w₀)) w₀ w₁ from to cut
    stop_domain {w₁} A =
        let A' : Stopped top P tb (take end w₀) (S (take end w₀)) (set w at x) w₁ (i + 1) (at + 1) cut = rw same_domain at A in
        stopped Y.inv Y.some (kept_more (omega arith) (kept_one x) A.kept) (of_first (λ k e es rest. Last cut k e w w₁ at) λ k pk p t es rest c q f fs a b. record {
          us = (x ∷ []) ++ cells (graft k cut p);
          full = full_more (wrote_one Y.room) (domain_full cut k pk p t es rest f a b A');
          tail = cells (graft k (cut + 1) t);
          same = rw (abs_cells k cut p t, q);
        })

    module _ {w₁ : List ℕ} {i₁ at₁ : ℕ} (A : Ended top P tb (take end (set w at x)) (S (take end (set w at x))) (set w at x) w₁ (i + 1) (at + 1) cut i₁ at₁) where
      kept_domain : Kept w w₁ at
      kept_domain = kept_more (omega arith) (kept_one x) A.kept

      domain_post : Ended top P tb (take end w₀) (S (take end w₀)) (set w at x) w₁ (i + 1) (at + 1) cut i₁ at₁
      domain_post = rw same_domain at A

      same_body : take end w₁ ≡ take end w₀
      same_body = kept_below end Y.below (kept_more Y.inv.ahead Y.inv.kept kept_domain)

      module _ {w₂ : List ℕ} where
        -- no room for the body
        pub stop_body : Stopped top P tb (take end w₁) (S (take end w₁)) w₁ w₂ i₁ at₁ (cut + 1) → Stopped top P tb (take end w₀) (S (take end w₀)) w₀ w₂ from to cut
        stop_body B =
            let B' : Stopped top P tb (take end w₀) (S (take end w₀)) w₁ w₂ i₁ at₁ (cut + 1) = rw same_body at B in
            stopped Y.inv Y.some (kept_more (omega (arith, A.ahead)) kept_domain B.kept)
            (of_first (λ k e es rest. Last cut k e w w₂ at) λ k pk p t es rest c q f fs a b.
            let D = domain_grafted cut k pk p t es rest f a b domain_post in
            record {
              us = (x ∷ []) ++ cells (graft k cut p) ++ cells (graft k (cut + 1) t);
              full = full_more (wrote_more (wrote_one Y.room) D.wrote) (body_full cut k pk p t es rest f a b D.read B');
              tail = [];
              same = rw (abs_cells k cut p t, q) (sym (append-nil _));
            })

        pub turn_abstraction : {i₂ at₂ : ℕ} → Ended top P tb (take end w₁) (S (take end w₁)) w₁ w₂ i₁ at₁ (cut + 1) i₂ at₂
            → Inv top P tb (take end w₀) (S (take end w₀)) from w₀ to cut w₂ i₂ at₂ (pending - 1)
        turn_abstraction {i₂} {at₂} B =
            let B' : Ended top P tb (take end w₀) (S (take end w₀)) w₁ w₂ i₁ at₁ (cut + 1) i₂ at₂ = rw same_body at B in
            stepped Y.inv Y.some (omega (arith, A.past, B.past)) B'.within (omega (arith, A.ahead, B.ahead)) (omega (arith, B.room, kept_domain.long))
            (kept_more (omega (arith, A.ahead)) kept_domain B.kept)
            (of_first (λ k e es rest. Turn tb (S (take end w₀)) cut k e es rest w w₂ i₂ at at₂ (pending - 1)) λ k pk p t es rest c q f fs a b.
            let D = domain_grafted cut k pk p t es rest f a b domain_post in
            let E = body_grafted cut k pk p t es rest f a b D.read B' in
            record {
              todo = es;
              counted = omega arith;
              fit = fs;
              lies = record { is = E.read.is };
              us = (x ∷ []) ++ cells (graft k cut p) ++ cells (graft k (cut + 1) t);
              wrote = wrote_more (wrote_more (wrote_one Y.room) D.wrote) E.wrote;
              same = rw (abs_cells k cut p t, q);
            })
