-- A head step in place: the redex made anew in the result unit and moved to where it was.
use mathlib.Core.Path.{◌≡◌, refl, sym, ap, subst, ◌∙◌}
use mathlib.Core.Logic.{inl}
use mathlib.Core.Option.{some}
use Rattle.std.specs.Prelude.{Option, Some, None}
use mathlib.Core.List.{List, ◌++◌, append_assoc}
use Prim.Native.Nat.{ℕ, suc, ◌+◌, ◌-◌, ◌*◌, ◌≤◌, ◌<◌}
use native.Mathlib.Omega.{arith}
use lib.ListN.{length, drop}
use Rattle.aut68.specs.Sizes.{largest_limit, work_units, at_context}
use Rattle.aut68.specs.Expr.{Expr, Exprs, const, app, abs, size, cells}
use Rattle.aut68.specs.Substitution.{substitute, instantiate}
use Rattle.aut68.specs.Lines.{Lines, row_cell}
use Rattle.aut68.specs.Procedure.HeadStep.{head_step, left}
use Rattle.aut68.specs.Rules.Resolved.{Scoped, ConstantOf, VariableLine, Known}
use Rattle.calculus.specs.Scoped.{scoped_category}
use Rattle.calculus.specs.Known.{known_category_head}
use Rattle.calculus.specs.Resolved.{KnownCategory}
use Rattle.cells.specs.Cells.{At, Outside, move_cells}
use Rattle.cells.specs.CopyLaws.{move_outside, move_at}
use Rattle.cells.specs.Forests.{at_front, at_second, size_is_length}
use Rattle.cells.specs.Layout.{unit_at, scratch_unit, result_unit}
use Rattle.cells.specs.Stores.{at_kept, at_rest}
use Rattle.terms.specs.Made.{no_room, size_in}
use Rattle.instances.specs.Unchanged.{instantiate_empty}
use Rattle.heads.specs.Book.{Book, known_wf}
use Rattle.heads.specs.Heads.{HeadIs, no_head, contraction, unfolding_of, applied, front, cells_applied, size_applied, known_applied, stepped_known, app_contracts}
use Rattle.heads.specs.Posts.{kind_of, line_of}
use Rattle.heads.specs.declared.heads.Head.{Head}
use Rattle.heads.specs.declared.heads.HeadStep.{HeadStep}
use Rattle.heads.specs.declared.heads.HeadStep.TheVariants.{Contraction, Unfolding}
use Rattle.reduction.specs.Depths.{substituted_below}
use Rattle.reduction.specs.Frames.{Lies, framed_same, framed_then, framed_more, quiet_framed, outside_framed, at_framed}
use Rattle.reduction.specs.Posts.{ContractedPost, UnfoldedPost, InPlacePost, Redex, RedexPost, Stepped, StepPost}
use Rattle.reduction.proofs.PutLaws.{scratch_below_result, result_inside}

-- a run of cells, and another one right behind it
at_join : {w : List ℕ} {i : ℕ} (xs ys : List ℕ) {rest rest' : List ℕ} → At w i xs rest → At w (i + length xs) ys rest' → At w i (xs ++ ys) rest'
at_join xs ys {rest' = rest'} a b =
    record { is = a.is ∙ ap (λ (l : List ℕ). xs ++ l) (at_rest a ∙ b.is) ∙ sym (append_assoc xs ys rest') }

-- the redex of a known category is known
known_redex : (ls : Lines) (k : ℕ) (fs : Exprs) (h : Expr) {e n : Expr} → e ≡ applied fs h → left (head_step ls e) ≡ some n → KnownCategory ls k e → Known ls k h
known_redex ls k fs h {e} {n} w q K = known_applied ls k fs h (subst (Known ls k) w (stepped_known ls k e n q K))

-- where the redex lies
redex_at : {w : List ℕ} {start at : ℕ} {e : Expr} {rest : List ℕ} (fs : Exprs) (h : Expr) → e ≡ applied fs h → at ≡ start + length (front fs) → At w start (cells e) rest
    → At w at (cells h) rest
redex_at {w} {start} {at} {e} {rest} fs h q p a =
    subst (λ (i : ℕ). At w i (cells h) rest) (sym p)
    (at_second (front fs) (cells h) (subst (λ (c : List ℕ). At w start c rest) (ap cells q ∙ cells_applied fs h) a))

redex_size : {e : Expr} (fs : Exprs) (h : Expr) → e ≡ applied fs h → size e ≡ length (front fs) + size h
redex_size fs h q = ap size q ∙ size_applied fs h

-- a head step has a kind
pub stepping : (s : HeadStep) → kind_of s ≡ 0 → ⊥
stepping Contraction q = omega arith
stepping (Unfolding v) q = omega arith

-- ---- the redex

module _ {tb ts w w' : List ℕ} {limit : ℕ} (h : Head) {room : ℕ} {r : Option ℕ} where
  pub contracted_redex : kind_of h.step ≡ 1 → ContractedPost tb w w' limit h.at room r → RedexPost tb ts w w' limit h room r
  unfolding size Scoped left
  contracted_redex one C = record {
    prepared = C.prepared;
    made = λ l m B k e K z s a u H. go l m B k e K z s a u H;
  }
    where
      go : work_units * limit ≤ length w → room ≤ limit → {ls : Lines} → Book ls limit tb ts → (k : ℕ) (e : Expr) {start : ℕ} {rest : List ℕ} → KnownCategory ls k e → k ≤ largest_limit
          → size e ≤ limit → At w start (cells e) rest → start + limit ≤ unit_at limit scratch_unit
          → HeadIs ls start (kind_of h.step) h.at h.kept (line_of h.step) e → Redex ls (unit_at limit result_unit) room e h.kept (size_in r) w'
      go l m B k e K z s a u (no_head q o) = absurd (stepping h.step o)
      go l m B k e K z s a u (unfolding_of fs xs q x y i g t o p d) = absurd (omega arith)
      go l m {ls} B k e K z s a u (contraction fs x p t q i o d f) =
          let W = known_redex ls k fs (app x (abs p t)) q (ap left i) K in
          let S = redex_size fs (app x (abs p t)) q in
          record {
            fs = fs;
            old = app x (abs p t);
            made = substitute x 0 t;
            was = q;
            becomes = ap left i;
            keeps = f;
            stands = C.made l m x p t (known_wf B.rows k x W.0) (known_wf B.rows k p W.1.0) (known_wf B.rows (suc k) t W.1.1)
                (redex_at fs (app x (abs p t)) q d a)
                (omega arith)
                (substituted_below ls B.few k x t
                (known_category_head ls B.resolved k (app x (abs p t)) _ (ap left (app_contracts ls x p t))
                (scoped_category (VariableLine ls) (ConstantOf ls) k (app x (abs p t)) W)) z (omega (arith, B.limit)) (omega (arith, B.limit)));
          }

  pub unfolded_redex : {line : ℕ} → h.step ≡ Unfolding line → UnfoldedPost tb ts w w' limit h.at line room r → RedexPost tb ts w w' limit h room r
  unfolding left
  unfolded_redex two V = record {
    prepared = U.prepared;
    made = λ l m B k e K z s a u H. go l m B k e K z s a u H;
  }
    where
      U : UnfoldedPost tb ts w w' limit h.at (line_of h.step) room r
      U = rw (ap line_of two) V

      go : work_units * limit ≤ length w → room ≤ limit → {ls : Lines} → Book ls limit tb ts → (k : ℕ) (e : Expr) {start : ℕ} {rest : List ℕ} → KnownCategory ls k e → k ≤ largest_limit
          → size e ≤ limit → At w start (cells e) rest → start + limit ≤ unit_at limit scratch_unit
          → HeadIs ls start (kind_of h.step) h.at h.kept (line_of h.step) e → Redex ls (unit_at limit result_unit) room e h.kept (size_in r) w'
      go l m B k e K z s a u (no_head q o) = absurd (stepping h.step o)
      go l m B k e K z s a u (contraction fs x p t q i o d f) = absurd (omega (arith, ap kind_of two))
      go l m {ls} B k e K z s a u (unfolding_of fs xs line x q j g i o d f) =
          let W = known_redex ls k fs (const (line_of h.step) xs) q (ap left i) K in
          let S = redex_size fs (const (line_of h.step) xs) q in
          record {
            fs = fs;
            old = const (line_of h.step) xs;
            made = instantiate line.context xs 0 x;
            was = q;
            becomes = ap left i;
            keeps = f;
            stands = U.made l m B k xs j g W z (redex_at fs (const (line_of h.step) xs) q d a) (omega arith) (omega arith);
          }

-- an abbreviation that takes no arguments, in place
pub in_place_redex : {tb ts w w' : List ℕ} {limit : ℕ} (h : Head) {room : ℕ} {r : Option ℕ} {line : ℕ} → h.step ≡ Unfolding line → row_cell tb line at_context ≡ 0 → room ≡ limit - h.kept
    → InPlacePost tb ts w w' h.at line room r → work_units * limit ≤ length w → {ls : Lines} → Book ls limit tb ts → (e : Expr) {start : ℕ}
    → start + limit ≤ unit_at limit scratch_unit → h.kept ≤ limit → HeadIs ls start (kind_of h.step) h.at h.kept (line_of h.step) e → Redex ls h.at room e h.kept (size_in r) w'
unfolding left
in_place_redex h is empty free U l B e u s (no_head q o) = absurd (omega (arith, ap kind_of is))
in_place_redex h is empty free U l B e u s (contraction fs x p t q i o d f) = absurd (omega (arith, ap kind_of is))
in_place_redex {tb} {ts} {w} {w'} {limit = limit} h {room} {r} {line} is empty free V long B e u s (unfolding_of fs xs l x q j g i o d f) =
    let U : InPlacePost tb ts w w' h.at (line_of h.step) room r = rw (ap line_of is) V in
    let none : row_cell tb (line_of h.step) at_context ≡ 0 = rw (ap line_of is) empty in
    let E = result_inside limit in
    let S = scratch_below_result limit in
    let n : instantiate l.context xs 0 x ≡ x = instantiate_empty l.context xs 0 x (sym (B.rows.row j).context_is ∙ none) in
    record {
      fs = fs;
      old = const (line_of h.step) xs;
      made = x;
      was = q;
      becomes = ap left i ∙ ap (λ (y : Expr). some (applied fs y)) n;
      keeps = f;
      stands = U.made B j g (omega arith);
    }

-- ---- the step

-- where the redex starts, and that it does so inside the expression
head_placed : {ls : Lines} {start kind at kept v : ℕ} {e : Expr} → HeadIs ls start kind at kept v e → (kind ≡ 0 → ⊥) → (at ≡ start + kept) × (kept ≤ size e)
head_placed (no_head q o) n = absurd (n o)
head_placed (contraction fs a p t q i o d f) n = (omega arith, omega (arith, redex_size fs (app a (abs p t)) q))
head_placed (unfolding_of fs xs l m q j g i o d f) n = (omega arith, omega (arith, redex_size fs (const _ xs) q))

-- what is before the redex stays, and `next` stands behind it
lies_applied : {w w' : List ℕ} {start at end : ℕ} {rest : List ℕ} (e : Expr) (fs : Exprs) (old next : Expr) → e ≡ applied fs old → at ≡ start + length (front fs)
    → At w start (cells e) rest → Outside at end w w' → Lies w' at next → Lies w' start (applied fs next)
lies_applied {w} {w'} {start} {at} {rest = rest} e fs old next q p a o z = record {
  rest = z.rest;
  at = subst (λ (c : List ℕ). At w' start c z.rest) (sym (cells_applied fs next))
      (at_join (front fs) (cells next)
      (at_kept o (inl (omega arith)) (at_front (front fs) (cells old) (subst (λ (c : List ℕ). At w start c rest) (ap cells q ∙ cells_applied fs old) a)))
      (subst (λ (i : ℕ). At w' i (cells next) z.rest) p z.at));
}

module _ {limit kept room : ℕ} (small : limit ≤ largest_limit) (within : kept ≤ limit) (free : room ≡ limit - kept) {ls : Lines} {place m : ℕ} {e : Expr} {w₁ : List ℕ}
    (X : Redex ls place room e kept m w₁) where
  -- the redex has more cells than the room: the expression has more than the limit
  stepped_refused : {start : ℕ} → room < m → Stepped ls limit start e None w₁
  stepped_refused g = record {
    next = applied X.fs X.made;
    is = X.becomes;
    fits = λ d. let S = size_applied X.fs X.made in
        let o : size X.made ≤ room = omega (arith, X.keeps) in
        absurd (omega (arith, (X.stands.fits o).0));
    large = λ d. refl;
  }

  stepped_made : {start : ℕ} {w₂ : List ℕ} → m ≤ room → (m ≡ size X.made → Lies w₁ place X.made → Lies w₂ start (applied X.fs X.made))
      → Stepped ls limit start e (Some (kept + m)) w₂
  unfolding no_room
  stepped_made g lies =
      let S = size_applied X.fs X.made in
      record {
        next = applied X.fs X.made;
        is = X.becomes;
        fits = λ d.
            let o : size X.made ≤ room = omega (arith, X.keeps) in
            let y = X.stands.fits o in
            let n : kept + m ≡ size (applied X.fs X.made) = omega (arith, y.0, X.keeps) in
            (ap Some n, lies y.0 y.1);
        large = λ d.
            let o : room < size X.made = omega (arith, X.keeps) in
            absurd (omega (arith, X.stands.large o));
      }

module _ {tb ts w : List ℕ} {limit : ℕ} {h : Head} where
  -- no unit, or no place for the redex
  pub step_none : (limit ≤ largest_limit → limit < h.kept) → StepPost tb ts w w limit h None
  step_none g = record {
    framed = framed_same;
    refused = λ e. framed_same;
    within = tt;
    made = λ l B k e K z s a u H. absurd (omega (arith, g B.limit, (head_placed H (stepping h.step)).1));
  }

  -- the redex is made in the result unit
  module _ {w₁ : List ℕ} {room : ℕ} (small : limit ≤ largest_limit) (kept : h.kept ≤ limit) (free : room ≡ limit - h.kept) where
    -- it has more cells than the room
    pub step_refused : RedexPost tb ts w w₁ limit h room None → StepPost tb ts w w₁ limit h None
    unfolding no_room
    step_refused R = record {
      framed = quiet_framed R.prepared.quiet;
      refused = λ e. R.prepared.quiet;
      within = tt;
      made = λ l B k e K z s a u H. stepped_refused small kept free (R.made l (omega arith) B k e K z s a u H) (omega arith);
    }

    -- it is moved in place
    module _ {w₂ : List ℕ} {m result : ℕ} (R : RedexPost tb ts w w₁ limit h room (Some m)) (at-result : result ≡ unit_at limit result_unit) (moved : w₂ ≡ move_cells w₁ result m h.at) where
      move_there : Outside h.at (h.at + m) w₁ w₂
      move_there = subst (λ (l : List ℕ). Outside h.at (h.at + m) w₁ l) (sym moved) (move_outside w₁ result m h.at)

      -- where it was made, the expression is as it was
      moved_lies : {start : ℕ} {rest : List ℕ} (e : Expr) → work_units * limit ≤ length w → start + limit ≤ unit_at limit scratch_unit → At w start (cells e) rest → size e ≤ limit
          → h.at ≡ start + h.kept → (fs : Exprs) (old next : Expr) → e ≡ applied fs old → h.kept ≡ length (front fs) → m ≡ size next → Lies w₁ (unit_at limit result_unit) next
          → Lies w₂ start (applied fs next)
      moved_lies {start} {rest} e l u a s p fs old next q f d z =
          lies_applied e fs old next q (omega arith)
          (at_framed R.prepared.quiet (omega (arith, size_is_length e)) (inl (omega (arith, size_is_length e))) a)
          move_there (record { rest = drop (h.at + length (cells next)) w₁; at = behind })
        where
          behind : At w₂ h.at (cells next) (drop (h.at + length (cells next)) w₁)
          behind =
              let n : m ≡ length (cells next) = d ∙ size_is_length next in
              let S = scratch_below_result limit in
              let E = result_inside limit in
              subst (λ (l : List ℕ). At l h.at (cells next) (drop (h.at + length (cells next)) w₁))
              (sym (moved ∙ ap (λ (k : ℕ). move_cells w₁ result k h.at) n))
              (move_at w₁ result h.at (subst (λ (i : ℕ). At w₁ i (cells next) z.rest) (sym at-result) z.at)
              (omega (arith, R.prepared.quiet.long, R.prepared.within)) (omega (arith, R.prepared.quiet.long, R.prepared.within)) (inl (omega arith)))

      pub step_made : StepPost tb ts w w₂ limit h (Some (h.kept + m))
      step_made = record {
        framed = framed_then (quiet_framed R.prepared.quiet) (framed_more (omega arith) (omega arith) (omega (arith, R.prepared.within)) (outside_framed {top = unit_at limit scratch_unit} move_there));
        refused = λ e. absurd (cc);
        within = omega (arith, R.prepared.within);
        made = λ l B k e K z s a u H.
            let X = R.made l (omega arith) B k e K z s a u H in
            stepped_made small kept free X R.prepared.within (moved_lies e l u a s (head_placed H (stepping h.step)).0 X.fs X.old X.made X.was X.keeps);
      }

  -- the redex is an abbreviation without arguments, and its middle is put in its place
  module _ {w₁ : List ℕ} {room : ℕ} (small : limit ≤ largest_limit) (kept : h.kept ≤ limit) (free : room ≡ limit - h.kept) {line : ℕ} (is : h.step ≡ Unfolding line)
      (empty : row_cell tb line at_context ≡ 0) where
    pub in_place_refused : InPlacePost tb ts w w₁ h.at line room None → StepPost tb ts w w₁ limit h None
    unfolding no_room
    in_place_refused U = record {
      framed = rw (U.refused refl) framed_same;
      refused = λ e. rw (U.refused refl) framed_same;
      within = tt;
      made = λ l B k e K z s a u H. stepped_refused small kept free (in_place_redex h is empty free U l B e u kept H) (omega arith);
    }

    pub in_place_made : {m : ℕ} → InPlacePost tb ts w w₁ h.at line room (Some m) → StepPost tb ts w w₁ limit h (Some (h.kept + m))
    in_place_made {m} U = record {
      framed = framed_more (omega arith) (omega arith) (omega arith) (outside_framed {top = unit_at limit scratch_unit} U.outside);
      refused = λ e. absurd (cc);
      within = omega (arith, U.within);
      made = λ l B k e K z s a u H.
          let X = in_place_redex h is empty free U l B e u kept H in
          stepped_made small kept free X U.within λ d y.
          lies_applied e X.fs X.old X.made X.was (omega (arith, (head_placed H (stepping h.step)).0, X.keeps)) a U.outside y;
    }
