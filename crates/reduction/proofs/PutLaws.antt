-- What is made in the result unit, a substitution or a middle with its arguments put in; and a middle put in place.
use mathlib.Core.Path.{◌≡◌, refl, sym, ap, subst, ◌∙◌}
use Rattle.std.specs.Prelude.{Option, Some, None}
use mathlib.Core.List.{List, ◌∷◌, ◌++◌}
use Prim.Native.Nat.{ℕ, ◌+◌, ◌-◌, ◌*◌, ◌≤◌, ◌<◌}
use native.Mathlib.Omega.{arith}
use lib.ListN.{length, get_or, drop, length-append}
use lib.Seq.{sets, take_all}
use Rattle.aut68.specs.Sizes.{cell_factor, largest_limit, work_units, at_context, at_middle, at_category}
use Rattle.aut68.specs.Expr.{Expr, const, app, abs, nil, cons, size, cells, cellss, count_exprs}
use Rattle.aut68.specs.Substitution.{instantiate}
use Rattle.aut68.specs.Lines.{Line, Lines, abbreviation, kind_cells, row_cell}
use Rattle.aut68.specs.Rules.Names.{IsLine}
use Rattle.aut68.specs.Procedure.HeadStep.{left}
use Rattle.aut68.specs.Rules.Resolved.{Scoped, ConstantOf, VariableLine}
use Rattle.calculus.specs.Scoped.{scoped_category}
use Rattle.calculus.specs.Known.{known_category_head}
use Rattle.calculus.specs.Resolved.{KnownCategory}
use Rattle.cells.specs.Cells.{AllFormed, Wf, At, copy_cells}
use Rattle.cells.specs.CopyLaws.{copy_outside, copy_at}
use Rattle.cells.specs.Forests.{at_inside, at_tail, at_front, at_second, at_one, cells_one, cells_long, size_is_length, sizes_is_length}
use Rattle.cells.specs.Layout.{unit_at, scratch_unit, result_unit, unit_below, unit_inside}
use Rattle.cells.specs.Posts.{Skipped}
use Rattle.cells.specs.Stores.{outside_same, outside_more, at_sets, at_before}
use Rattle.terms.specs.Made.{size_in, WithinRoom, Made, Confined, SubstitutePost, InstantiatePost}
use Rattle.heads.specs.Book.{Book, right_count, all_known_wf}
use Rattle.heads.specs.Heads.{const_unfolds}
use Rattle.reduction.specs.Depths.{instantiated_below}
use Rattle.reduction.specs.Frames.{Quiet, Lies, framed_same, framed_then, outside_quiet}
use Rattle.reduction.specs.Places.{middle_numbered}
use Rattle.reduction.specs.Posts.{MadeAt, Prepared, ArgumentsAtPost, ContractedPost, UnfoldedPost, InPlacePost}

-- ---- the result unit

module _ (limit : ℕ) where
  pub scratch_below_result : unit_at limit scratch_unit + limit ≤ unit_at limit result_unit
  scratch_below_result = unit_below limit (omega arith)

  pub result_inside : unit_at limit result_unit + limit ≤ work_units * limit
  result_inside = unit_inside limit (omega arith)

-- nothing was done
pub prepared_none : {limit room : ℕ} {w : List ℕ} → Prepared limit room None w w
prepared_none = record { quiet = framed_same; within = tt }

-- something was made at or above the scratch unit
pub prepared_by : {limit room n : ℕ} {r : Option ℕ} {w w₁ w' : List ℕ} {to : ℕ} → Quiet (unit_at limit scratch_unit) w w₁ → to ≡ unit_at limit result_unit
    → Confined w₁ w' to room n → WithinRoom room r → Prepared limit room r w w'
prepared_by {limit} q e c h =
    record { quiet = framed_then q (outside_quiet (omega (arith, scratch_below_result limit)) c.outside); within = h }

pub in_result : (limit : ℕ) {room : ℕ} {e : Expr} {r to : ℕ} {w w' : List ℕ} → to ≡ unit_at limit result_unit → to + room ≤ length w → Made room e r to w w'
    → MadeAt (unit_at limit result_unit) room e r w'
in_result limit {room} {e} {r} {to} {w} {w'} q h m = record {
  fits = λ s. (
    m.fits s,
    record {
      rest = drop (to + length (cells e)) w;
      at =
          subst (λ (i : ℕ). At w' i (cells e) (drop (to + length (cells e)) w)) q
          (subst (λ (l : List ℕ). At l to (cells e) (drop (to + length (cells e)) w)) (written s) (at_sets w (cells e) to (omega (arith, size_is_length e))));
    },
  );
  large = λ s. m.large s;
}
  where
    written : size e ≤ room → sets w to (cells e) ≡ w'
    written s = ap (sets w to) (sym (take_all room (cells e) (omega (arith, size_is_length e)))) ∙ sym m.cells_are

-- ---- a contraction

-- <A>[x,P]T from index `at` on: where A, the abstraction and T start
pub record Contracting (tb w : List ℕ) (at f : ℕ) (a p t : Expr) (rest : List ℕ) : Type 0 where
  pub argument : At w (at + 1) (cells a) (5 ∷ (cells p ++ cells t) ++ rest)
  pub inside : f + 1 + length (cells p) + length (cells t) ≤ length w
  pub body : {g : ℕ} → Skipped tb w (f + 1) 1 g → (g ≡ f + 1 + length (cells p)) × At w g (cells t) rest

pub contracting : {tb w : List ℕ} {at f : ℕ} (a p t : Expr) {rest : List ℕ} → Wf tb a → Wf tb p → At w at (cells (app a (abs p t))) rest → Skipped tb w (at + 1) 1 f
    → Contracting tb w at f a p t rest
unfolding cells count_exprs AllFormed
contracting {tb} {w} {at} {f} a p t {rest} wa wp h s =
    let inner : At w (at + 1) (cells a ++ (5 ∷ (cells p ++ cells t))) rest = record { is = at_tail w at 4 ((cells a ++ (5 ∷ (cells p ++ cells t))) ++ rest) h.is } in
    let first : At w (at + 1) (cells a) (5 ∷ (cells p ++ cells t) ++ rest) = at_front (cells a) (5 ∷ (cells p ++ cells t)) inner in
    let q : f ≡ at + 1 + length (cells a) =
    s.ends (cons a nil) (5 ∷ (cells p ++ cells t) ++ rest) refl (wa, tt) (at_one a first) ∙ ap (λ (l : List ℕ). at + 1 + length l) (cells_one a) in
    let fun : At w f (5 ∷ (cells p ++ cells t)) rest =
    subst (λ (m : ℕ). At w m (5 ∷ (cells p ++ cells t)) rest) (sym q) (at_second (cells a) (5 ∷ (cells p ++ cells t)) inner) in
    let parts : At w (f + 1) (cells p ++ cells t) rest = record { is = at_tail w f 5 ((cells p ++ cells t) ++ rest) fun.is } in
    record {
      argument = first;
      inside = omega (arith, q, at_inside (app a (abs p t)) h, length-append (cells a) (5 ∷ (cells p ++ cells t)), length-append (cells p) (cells t));
      body = λ {g} z.
          let b : g ≡ f + 1 + length (cells p) =
          z.ends (cons p nil) (cells t ++ rest) refl (wp, tt) (at_one p (at_front (cells p) (cells t) parts)) ∙ ap (λ (l : List ℕ). f + 1 + length l) (cells_one p) in
          (b, subst (λ (m : ℕ). At w m (cells t) rest) (sym b) (at_second (cells p) (cells t) parts));
    }

-- a redex that the store has no cells for is none
pub contracted_none : {tb w : List ℕ} {limit at room : ℕ} → length w ≤ at → ContractedPost tb w w limit at room None
contracted_none h = record {
  prepared = prepared_none;
  made = λ l m a p t wa wp wt z b o. absurd (omega (arith, at_inside (app a (abs p t)) z, cells_long (app a (abs p t))));
}

pub contracted_no_function : {tb w : List ℕ} {limit at room f : ℕ} → Skipped tb w (at + 1) 1 f → length w ≤ f → ContractedPost tb w w limit at room None
contracted_no_function s h = record {
  prepared = prepared_none;
  made = λ l m a p t wa wp wt z b o. absurd (omega (arith, (contracting a p t wa wp z s).inside));
}

pub contracted_law : {tb w w' : List ℕ} {limit at room : ℕ} {r : Option ℕ} {f g result : ℕ} → result ≡ unit_at limit result_unit → Skipped tb w (at + 1) 1 f → Skipped tb w (f + 1) 1 g
    → SubstitutePost tb w w' g (at + 1) result room (size_in r) × WithinRoom room r → ContractedPost tb w w' limit at room r
unfolding cells size count_exprs AllFormed
contracted_law {tb} {w} {limit = limit} {at} {f = f} {g} {result} q s z (S, fits) = record {
  prepared = prepared_by framed_same q S.confined fits;
  made = λ l m a p t wa wp wt h b o.
      let C = contracting a p t wa wp h s in
      let T = C.body z in
      let E = result_inside limit in
      let U = scratch_below_result limit in
      let n : at + (1 + (length (cells a) + (1 + (length (cells p) + length (cells t))))) ≤ unit_at limit scratch_unit =
      omega (arith, size_is_length a, size_is_length p, size_is_length t) in
      let k : f ≡ at + 1 + length (cells a) = omega (arith, s.ends (cons a nil) _ refl (wa, tt) (at_one a C.argument), ap length (cells_one a)) in
      in_result limit q (omega arith) (S.made t a _ _ (omega arith) wt wa (at_before {n = result} (omega arith) T.1) (at_before {n = result} (omega arith) C.argument) o);
}

-- ---- an unfolding

pub unfolded_none : {tb ts w : List ℕ} {limit at v room : ℕ} → length w ≤ at → UnfoldedPost tb ts w w limit at v room None
unfolded_none {v = v} h = record {
  prepared = prepared_none;
  made = λ l m B k xs i g W z a b s. absurd (omega (arith, at_inside (const v xs) a, cells_long (const v xs)));
}

pub unfolded_law : {tb ts w w' : List ℕ} {limit at v room : ℕ} {r : Option ℕ} {from count result : ℕ} {starts starts' : List ℕ} → limit ≤ largest_limit → from ≡ row_cell tb v at_middle → count ≡ row_cell tb v at_context
    → length starts ≡ 64 → get_or starts 0 0 ≡ 0 → ArgumentsAtPost tb w (at + 1) count starts starts' → result ≡ unit_at limit result_unit
    → InstantiatePost tb ts w w' from (at + 1) count starts' result room (size_in r) × WithinRoom room r → UnfoldedPost tb ts w w' limit at v room r
unfolding cells size Scoped kind_cells left
unfolded_law {tb} {ts} {w} {limit = limit} {at} {v} {count = count} {result} small ef ec places first A t (I, fits) = record {
  prepared = prepared_by framed_same t I.confined fits;
  made = λ h d {ls} B k xs {l} {m} {rest} j g W z a b s.
      let S = B.stored.cells_of j in
      let e : kind_cells l.kind ≡ cells m = ap kind_cells g in
      let long : length (cells m) ≤ limit = omega (arith, B.middle_size j, ap length e) in
      let known : KnownCategory ls k (instantiate l.context xs 0 m) =
      known_category_head ls B.resolved k (const v xs) _ (ap left (const_unfolds ls v xs j g)) (scoped_category (VariableLine ls) (ConstantOf ls) k (const v xs) W)
      in
      let E = result_inside limit in
      let U = scratch_below_result limit in
      let n : count_exprs xs ≡ count = right_count B.rows v (count_exprs xs) W.0 ∙ sym ec in
      let f = all_known_wf B.rows k xs W.1 in
      let p : At w (at + 1) (cellss xs) rest = record { is = at_tail w at (cell_factor * v + 3) (cellss xs ++ rest) a.is } in
      in_result limit t (omega arith)
      (I.made l.context xs m _ (omega arith) (middle_numbered B j xs m g)
      (record {
        formed = f;
        counted = n;
        started = A.started places first xs n f p (omega (arith, sizes_is_length xs));
        rest = _;
        lies = at_before {n = result} (omega (arith, sizes_is_length xs)) p;
      })
      (subst (λ (i : ℕ). At ts i (cells m) S.after_middle) (sym ef) (subst (λ (c : List ℕ). At ts (row_cell tb v at_middle) c S.after_middle) e S.middle_at))
      (instantiated_below ls B.few k l.context xs m known z (omega arith) (omega (arith, size_is_length m))));
}

-- ---- an abbreviation without arguments

-- the middle's size is told by where the category starts
middle_size_lem : {tb ts : List ℕ} {v from end : ℕ} → from ≡ row_cell tb v at_middle → end ≡ row_cell tb v at_category
    → {ls : Lines} {limit : ℕ} → Book ls limit tb ts → {l : Line} {m : Expr} → IsLine ls v l → l.kind ≡ abbreviation m
    → (end ≡ from + size m) × Lies ts from m
unfolding kind_cells
middle_size_lem ef ee B {l} {m} j g =
    let S = B.stored.cells_of j in
    let e : kind_cells l.kind ≡ cells m = ap kind_cells g in (
      omega (arith, S.middle_ends, ap length e, size_is_length m),
      record { rest = S.after_middle; at = rw (ef, sym e) S.middle_at },
    )

module _ {tb ts w : List ℕ} {at v room from end : ℕ} (ef : from ≡ row_cell tb v at_middle) (ee : end ≡ row_cell tb v at_category) where
  pub in_place_none : (from ≤ end → room < end - from) → InPlacePost tb ts w w at v room None
  in_place_none h = record {
    outside = outside_same;
    refused = λ l. refl;
    within = tt;
    made = λ B j g q. let M = middle_size_lem ef ee B j g in
        record { fits = λ s. absurd (omega (arith, M.0, h (omega (arith, M.0)))); large = λ s. refl };
  }

  pub in_place_law : {w' : List ℕ} → from ≤ end → end - from ≤ room → w' ≡ copy_cells ts from (end - from) w at → InPlacePost tb ts w w' at v room (Some (end - from))
  in_place_law {w'} l h e = record {
    outside = rw e (outside_more (omega arith) (omega arith) (copy_outside ts from (end - from) w at));
    refused = λ k. absurd (cc);
    within = h;
    made = λ {ls} {limit} B {l} {m} j g q. let M = middle_size_lem ef ee B j g in
        record {
          fits = λ s. (omega (arith, M.0), stands m M.0 M.1 q);
          large = λ s. absurd (omega (arith, M.0));
        };
  }
    where
      stands : (m : Expr) → end ≡ from + size m → Lies ts from m → at + room ≤ length w → Lies w' at m
      stands m n L q =
          let k : end - from ≡ length (cells m) = omega (arith, size_is_length m) in
          record {
            rest = drop (at + length (cells m)) w;
            at = rw (e ∙ ap (λ (i : ℕ). copy_cells ts from i w at) k) (copy_at ts from w at L.at (omega (arith, at_inside m L.at)) (omega arith));
          }
