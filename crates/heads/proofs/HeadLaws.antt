-- The search for a head step: past the A's of <A1>..<An>H to H, or to the last <An>H where H is an abstraction.
use mathlib.Core.Path.{◌≡◌, refl, sym, ap, subst, ◌∙◌}
use mathlib.Core.List.{List, ◌∷◌, ◌++◌}
use Prim.Native.Nat.{ℕ, ◌+◌, ◌-◌, ◌*◌, ◌/◌, ◌%◌, ◌<◌}
use native.Mathlib.Omega.{arith}
use lib.ListN.{length, get_or, length-append}
use Rattle.aut68.specs.Sizes.{cell_factor, at_kind}
use Rattle.aut68.specs.Expr.{Expr, Exprs, type, prop, var, bound, const, app, abs, nil, cons, snoc, size, first_cell, cells, count_exprs, shape, other}
use Rattle.aut68.specs.Substitution.{substitute, instantiate}
use Rattle.aut68.specs.Lines.{Line, Lines, Kind, variable, primitive, abbreviation, kind_number, row_cell}
use Rattle.aut68.specs.Rules.Names.{IsLine}
use Rattle.aut68.specs.Procedure.HeadStep.{no_step, head_step}
use Rattle.aut68.specs.Rules.Resolved.{Scoped, ConstantOf, VariableLine, Known}
use Rattle.lookup.specs.LineNumbers.{line_line_of, primitive≢abbreviation, variable≢abbreviation}
use Rattle.calculus.specs.Scoped.{ScopedCategory, scoped_category}
use Rattle.calculus.specs.Resolved.{KnownCategory}
use Rattle.cells.specs.Cells.{AllFormed, At}
use Rattle.cells.specs.Forests.{at_first, at_front, at_second, at_one, at_tail, cells_one, size_is_length, size_positive, number_of, kind_of}
use Rattle.cells.specs.Posts.{Skipped}
use Rattle.heads.specs.Book.{Book, known_wf}
use Rattle.heads.specs.Heads.{applied, front, wrapped, applied_snoc, front_snoc, wrapped_snoc, wrapped_none, wrapped_beta, wrapped_delta}
use Rattle.heads.specs.Heads.{app_contracts, app_passes, const_unfolds, const_stays, HeadIs, no_head, contraction, unfolding_of}
use Rattle.heads.specs.Posts.{CellStep}

-- the A's fs of e, which has n cells from index `start` on, are passed; at index i stands the rest of it, `head`
pub record Searching (ls : Lines) (k : ℕ) (w : List ℕ) (start i n : ℕ) (e : Expr) : Type 0 where
  pub fs : Exprs
  pub head : Expr
  pub whole : e ≡ applied fs head
  pub step_is : head_step ls e ≡ wrapped fs (head_step ls head)
  pub known : KnownCategory ls k head
  pub placed : i ≡ start + length (front fs)
  pub rest : List ℕ
  pub at : At w i (cells head) rest
  pub ends : i + size head ≡ start + n

-- so it is for whatever expression of n cells stands at `start`
pub record Search (tb w : List ℕ) (start n i : ℕ) : Type 0 where
  pub of : {ls : Lines} {L : ℕ} {ts : List ℕ} → Book ls L tb ts → (k : ℕ) (e : Expr) {rest : List ℕ} → KnownCategory ls k e → At w start (cells e) rest → n ≡ size e
      → Searching ls k w start i n e

pub search_starts : {ls : Lines} (k : ℕ) {w : List ℕ} {start n : ℕ} (e : Expr) {rest : List ℕ} → KnownCategory ls k e → At w start (cells e) rest → n ≡ size e
    → Searching ls k w start start n e
unfolding applied front wrapped
search_starts k e {rest} K a q = record {
  fs = nil;
  head = e;
  whole = refl;
  step_is = refl;
  known = K;
  placed = omega arith;
  rest = rest;
  at = a;
  ends = omega arith;
}

-- something is left
pub search_inside : {ls : Lines} {k : ℕ} {w : List ℕ} {start i n : ℕ} {e : Expr} → Searching ls k w start i n e → i < start + n
search_inside s = omega (arith, s.ends, size_positive s.head)

-- ---- no application

module _ {ls : Lines} {L : ℕ} {tb ts : List ℕ} (B : Book ls L tb ts) {kind at kept line : ℕ} (start i : ℕ) (z : kind ≡ 2 → (at ≡ i) × (kept ≡ i - start)) where
  stays_put : (fs : Exprs) (v : ℕ) (xs : Exprs) (e : Expr) (l : Line) → head_step ls e ≡ wrapped fs (head_step ls (const v xs)) → IsLine ls v l
      → ((m : Expr) → l.kind ≡ abbreviation m → ⊥) → kind_number l.kind < 2 → CellStep tb (cell_factor * v + 3) kind line
      → HeadIs ls start kind at kept line e
  stays_put fs v xs e l s j n u h =
      no_head (s ∙ ap (wrapped fs) (const_stays ls v xs (λ m g. n m (ap (λ (x : Line). x.kind) (sym (line_line_of j)) ∙ g))) ∙ wrapped_none fs)
      (h.stays (λ a b. omega (arith, (B.rows.row j).kind_is, ap (λ (n : ℕ). row_cell tb n at_kind) (number_of v 3 (omega arith)))))

  -- a constant, by the kind of its line
  of_constant_lem : (fs : Exprs) (v : ℕ) (xs : Exprs) (e : Expr) (l : Line) (q : Kind) → e ≡ applied fs (const v xs)
      → head_step ls e ≡ wrapped fs (head_step ls (const v xs)) → i ≡ start + length (front fs) → IsLine ls v l → l.kind ≡ q
      → CellStep tb (cell_factor * v + 3) kind line → HeadIs ls start kind at kept line e
  unfolding kind_number
  of_constant_lem fs v xs e l (abbreviation m) w s p j g h =
      let row : row_cell tb ((cell_factor * v + 3) / cell_factor) at_kind ≡ 2 = ap (λ (n : ℕ). row_cell tb n at_kind) (number_of v 3 (omega arith)) ∙ (B.rows.row j).kind_is ∙ ap kind_number g in
      let u = h.unfolds (kind_of v 3 (omega arith)) row in
      let same : line ≡ v = u.1 ∙ number_of v 3 (omega arith) in
      subst (λ (n : ℕ). HeadIs ls start kind at kept n e) (sym same)
      (unfolding_of fs xs l m w j g (s ∙ ap (wrapped fs) (const_unfolds ls v xs j g) ∙ wrapped_delta fs v (instantiate l.context xs 0 m))
      u.0
      ((z u.0).0 ∙ p)
      ((z u.0).1 ∙ omega arith))
  of_constant_lem fs v xs e l variable w s p j g h = stays_put fs v xs e l s j (λ m n. variable≢abbreviation (sym g ∙ n)) (omega (arith, ap kind_number g)) h
  of_constant_lem fs v xs e l primitive w s p j g h = stays_put fs v xs e l s j (λ m n. primitive≢abbreviation (sym g ∙ n)) (omega (arith, ap kind_number g)) h

  no_step_lem : (fs : Exprs) (x : ℕ) (e : Expr) (g : Expr) → head_step ls g ≡ no_step → head_step ls e ≡ wrapped fs (head_step ls g)
      → (x % cell_factor ≡ 3 → ⊥) → CellStep tb x kind line → HeadIs ls start kind at kept line e
  no_step_lem fs x e g q s n h = no_head (s ∙ ap (wrapped fs) q ∙ wrapped_none fs) (h.stays (λ a b. n a))

  of_cell : (k : ℕ) (fs : Exprs) (e g : Expr) → e ≡ applied fs g → head_step ls e ≡ wrapped fs (head_step ls g) → i ≡ start + length (front fs)
      → KnownCategory ls k g → (first_cell g ≡ 4 → ⊥) → CellStep tb (first_cell g) kind line → HeadIs ls start kind at kept line e
  unfolding first_cell head_step ScopedCategory
  of_cell k fs e type w s p K n h = no_step_lem fs 0 e type refl s (λ y. omega arith) h
  of_cell k fs e prop w s p K n h = no_step_lem fs 6 e prop refl s (λ y. omega arith) h
  of_cell k fs e (var v) w s p K n h = no_step_lem fs (cell_factor * v + 1) e (var v) refl s (λ y. omega arith) h
  of_cell k fs e (bound v) w s p K n h = no_step_lem fs (cell_factor * v + 2) e (bound v) refl s (λ y. omega arith) h
  of_cell k fs e (const v xs) w s p K n h =
      let c = K.0 in
      of_constant_lem fs v xs e c.line c.line.kind w s p c.is_line refl h
  of_cell k fs e (app a b) w s p K n h = absurd (n refl)
  of_cell k fs e (abs a b) w s p K n h = no_step_lem fs 5 e (abs a b) refl s (λ y. omega arith) h

-- the search ends at a cell that is no application's
pub search_ends : {ls : Lines} {L : ℕ} {tb ts : List ℕ} → Book ls L tb ts → {kind at kept line k : ℕ} {w : List ℕ} {start i n : ℕ} {e : Expr}
    → (kind ≡ 2 → (at ≡ i) × (kept ≡ i - start)) → Searching ls k w start i n e → (get_or w i 0 ≡ 4 → ⊥) → CellStep tb (get_or w i 0) kind line
    → HeadIs ls start kind at kept line e
search_ends {tb = tb} B {kind} {line = line} {k} {start = start} {i} {e = e} z s d h =
    let f = at_first s.head s.at in
    of_cell B start i z k s.fs e s.head s.whole s.step_is s.placed s.known (λ q. d (f ∙ q)) (subst (λ (x : ℕ). CellStep tb x kind line) f h)

-- ---- an application

-- an expression with another first cell is no abstraction
pub not_abs : (b : Expr) → (first_cell b ≡ 5 → ⊥) → shape b ≡ other
unfolding first_cell shape
not_abs type n = refl
not_abs prop n = refl
not_abs (var v) n = refl
not_abs (bound v) n = refl
not_abs (const v xs) n = refl
not_abs (app a b) n = refl
not_abs (abs p t) n = absurd (n refl)

-- <A>B, whose B starts at index j
pub record Applying (ls : Lines) (k : ℕ) (w : List ℕ) (start i j n : ℕ) (e : Expr) : Type 0 where
  pub fs : Exprs
  pub a : Expr
  pub b : Expr
  pub whole : e ≡ applied fs (app a b)
  pub step_is : head_step ls e ≡ wrapped fs (head_step ls (app a b))
  pub known : Known ls k (app a b)
  pub placed : i ≡ start + length (front fs)
  pub behind : j ≡ i + 1 + length (cells a)
  pub rest : List ℕ
  pub at : At w j (cells b) rest
  pub ends : j + size b ≡ start + n

module _ {ls : Lines} {L : ℕ} {tb ts : List ℕ} (B : Book ls L tb ts) where
  applying : (k : ℕ) {w : List ℕ} {start i j n : ℕ} {e : Expr} (fs : Exprs) (g : Expr) {rest : List ℕ} → e ≡ applied fs g → head_step ls e ≡ wrapped fs (head_step ls g)
      → KnownCategory ls k g → i ≡ start + length (front fs) → At w i (cells g) rest → i + size g ≡ start + n → first_cell g ≡ 4 → Skipped tb w (i + 1) 1 j
      → Applying ls k w start i j n e
  unfolding first_cell cells size Scoped ScopedCategory count_exprs AllFormed
  applying k fs type q s K p a z f d = absurd (omega arith)
  applying k fs prop q s K p a z f d = absurd (omega arith)
  applying k fs (var v) q s K p a z f d = absurd (omega arith)
  applying k fs (bound v) q s K p a z f d = absurd (omega arith)
  applying k fs (const v xs) q s K p a z f d = absurd (omega arith)
  applying k fs (abs x y) q s K p a z f d = absurd (omega arith)
  applying k {w} {start} {i} {j} {n} {e} fs (app x y) {rest} q s K p a z f d =
      let inner : At w (i + 1) (cells x ++ cells y) rest = record { is = at_tail w i 4 ((cells x ++ cells y) ++ rest) a.is } in
      let b : j ≡ i + 1 + length (cells x) = d.ends (cons x nil) (cells y ++ rest) refl (known_wf B.rows k x K.0, tt) (at_one x (at_front (cells x) (cells y) inner))
      ∙ ap (λ (l : List ℕ). i + 1 + length l) (cells_one x) in
      record {
        fs = fs;
        a = x;
        b = y;
        whole = q;
        step_is = s;
        known = K;
        placed = p;
        behind = b;
        rest = rest;
        at = subst (λ (m : ℕ). At w m (cells y) rest) (sym b) (at_second (cells x) (cells y) inner);
        ends = omega (arith, b, size_is_length x);
      }

  pub search_application : {k : ℕ} {w : List ℕ} {start i j n : ℕ} {e : Expr} → Searching ls k w start i n e → get_or w i 0 ≡ 4 → Skipped tb w (i + 1) 1 j
      → Applying ls k w start i j n e
  search_application {k} s f d =
      applying k s.fs s.head s.whole s.step_is s.known s.placed s.at s.ends (sym (at_first s.head s.at) ∙ f) d

  pub applying_inside : {k : ℕ} {w : List ℕ} {start i j n : ℕ} {e : Expr} → Applying ls k w start i j n e → j < start + n
  applying_inside s = omega (arith, s.ends, size_positive s.b)

  -- B is an abstraction
  applying_abs : (k : ℕ) (start i kind at kept v : ℕ) (e : Expr) (fs : Exprs) (a b : Expr) → e ≡ applied fs (app a b) → head_step ls e ≡ wrapped fs (head_step ls (app a b))
      → i ≡ start + length (front fs) → first_cell b ≡ 5 → kind ≡ 1 → at ≡ i → kept ≡ i - start → HeadIs ls start kind at kept v e
  unfolding first_cell
  applying_abs k start i kind at kept v e fs a type q s p f x y z = absurd (omega arith)
  applying_abs k start i kind at kept v e fs a prop q s p f x y z = absurd (omega arith)
  applying_abs k start i kind at kept v e fs a (var u) q s p f x y z = absurd (omega arith)
  applying_abs k start i kind at kept v e fs a (bound u) q s p f x y z = absurd (omega arith)
  applying_abs k start i kind at kept v e fs a (const u xs) q s p f x y z = absurd (omega arith)
  applying_abs k start i kind at kept v e fs a (app b c) q s p f x y z = absurd (omega arith)
  applying_abs k start i kind at kept v e fs a (abs b t) q s p f x y z =
      contraction fs a b t q (s ∙ ap (wrapped fs) (app_contracts ls a b t) ∙ wrapped_beta fs (substitute a 0 t)) x (y ∙ p) (omega arith)

  pub search_contracts : {k : ℕ} {w : List ℕ} {start i j n kind at kept v : ℕ} {e : Expr} → Applying ls k w start i j n e → get_or w j 0 ≡ 5 → kind ≡ 1 → at ≡ i → kept ≡ i - start
      → HeadIs ls start kind at kept v e
  search_contracts {k} {w} {start} {i} {j} {n} {kind} {at} {kept} {v} {e} s f x y z =
      applying_abs k start i kind at kept v e s.fs s.a s.b s.whole s.step_is s.placed (sym (at_first s.b s.at) ∙ f) x y z

  -- or not: the search goes on in B
  pub search_passes : {k : ℕ} {w : List ℕ} {start i j n : ℕ} {e : Expr} → Applying ls k w start i j n e → (get_or w j 0 ≡ 5 → ⊥) → Searching ls k w start j n e
  unfolding Scoped
  search_passes {k} {w} {start} {i} {j} {n} {e} s d = record {
    fs = snoc s.fs s.a;
    head = s.b;
    whole = s.whole ∙ sym (applied_snoc s.fs s.a s.b);
    step_is = s.step_is ∙ ap (wrapped s.fs) (app_passes ls s.a s.b (not_abs s.b (λ q. d (at_first s.b s.at ∙ q)))) ∙ sym (wrapped_snoc s.fs s.a (head_step ls s.b));
    known = scoped_category (VariableLine ls) (ConstantOf ls) k s.b s.known.1;
    placed = omega (arith, s.behind, s.placed, ap length (front_snoc s.fs s.a), length-append (front s.fs) (4 ∷ cells s.a));
    rest = s.rest;
    at = s.at;
    ends = s.ends;
  }
