-- Where the head step of an expression lies: <A1>..<An>H with the redex H, or <An>H, behind some of the A's.
use Rattle.std.specs.Prelude.{◌≡◌, refl, List, [], ◌∷◌, ◌++◌, ℕ, ◌+◌}
use Rattle.std.proofs.Common.{sym, ap, ◌∙◌, append-nil, append_assoc, length-append}
use Rattle.std.proofs.Math.Option.{some, none-ne-some}
use Rattle.std.proofs.Math.ListN.{length}
use Rattle.aut68.specs.Expr.{Expr, Exprs, type, prop, var, bound, const, app, abs, nil, cons, snoc, size, cells, shape, other}
use Rattle.aut68.specs.Substitution.{substitute, instantiate}
use Rattle.aut68.specs.Lines.{Line, Lines, Kind, variable, primitive, abbreviation, line_of}
use Rattle.aut68.specs.Rules.Names.{IsLine}
use Rattle.aut68.specs.Procedure.HeadStep.{Head, no_step, beta, delta, under, head_step, left}
use Rattle.aut68.specs.Rules.Resolved.{Scoped, Known}
use Rattle.lookup.specs.LineNumbers.{line_line_of}
use Rattle.calculus.specs.Scoped.{ScopedCategory}
use Rattle.calculus.specs.Resolved.{KnownCategory}
use Rattle.cells.specs.Forests.{size_is_length}

-- <A1>..<An>h
unfoldable pub applied : Exprs → Expr → Expr
applied nil h = h
applied (cons a fs) h = app a (applied fs h)

-- the cells before h
unfoldable pub front : Exprs → List ℕ
front nil = []
front (cons a fs) = 4 ∷ cells a ++ front fs

pub cells_applied : (fs : Exprs) (h : Expr) → cells (applied fs h) ≡ front fs ++ cells h
unfolding applied front cells
cells_applied nil h = refl
cells_applied (cons a fs) h = ap (λ l. 4 ∷ cells a ++ l) (cells_applied fs h) ∙ ap (λ l. 4 ∷ l) (sym (append_assoc (cells a) (front fs) (cells h)))

pub size_applied : (fs : Exprs) (h : Expr) → size (applied fs h) ≡ length (front fs) + size h
size_applied fs h =
    size_is_length (applied fs h) ∙ ap length (cells_applied fs h) ∙ length-append (front fs) (cells h) ∙ ap (λ n. length (front fs) + n) (sym (size_is_length h))

-- h is known where the whole is
pub known_applied : (ls : Lines) (k : ℕ) (fs : Exprs) (h : Expr) → Known ls k (applied fs h) → Known ls k h
unfolding applied Scoped
known_applied ls k nil h w = w
known_applied ls k (cons a fs) h w = known_applied ls k fs h w.1

-- a category that has a head step is known
pub stepped_known : (ls : Lines) (k : ℕ) (e n : Expr) → left (head_step ls e) ≡ some n → KnownCategory ls k e → Known ls k e
unfolding head_step left Scoped ScopedCategory
stepped_known ls k type n q w = absurd (none-ne-some n q)
stepped_known ls k prop n q w = absurd (none-ne-some n q)
stepped_known ls k (var v) n q w = w
stepped_known ls k (bound i) n q w = w
stepped_known ls k (const v xs) n q w = w
stepped_known ls k (app a b) n q w = w
stepped_known ls k (abs p t) n q w = absurd (none-ne-some n q)

-- one A more, the innermost
pub applied_snoc : (fs : Exprs) (a h : Expr) → applied (snoc fs a) h ≡ applied fs (app a h)
unfolding applied snoc
applied_snoc nil a h = refl
applied_snoc (cons b fs) a h = ap (app b) (applied_snoc fs a h)

pub front_snoc : (fs : Exprs) (a : Expr) → front (snoc fs a) ≡ front fs ++ (4 ∷ cells a)
unfolding front snoc
front_snoc nil a = ap (λ l. 4 ∷ l) (append-nil (cells a))
front_snoc (cons b fs) a = ap (λ l. 4 ∷ cells b ++ l) (front_snoc fs a) ∙ ap (λ l. 4 ∷ l) (sym (append_assoc (cells b) (front fs) (4 ∷ cells a)))

-- the head step of the whole, from that of h
unfoldable pub wrapped : Exprs → Head → Head
wrapped nil s = s
wrapped (cons a fs) s = under a (wrapped fs s)

pub wrapped_snoc : (fs : Exprs) (a : Expr) (s : Head) → wrapped (snoc fs a) s ≡ wrapped fs (under a s)
unfolding wrapped snoc
wrapped_snoc nil a s = refl
wrapped_snoc (cons b fs) a s = ap (under b) (wrapped_snoc fs a s)

pub wrapped_none : (fs : Exprs) → wrapped fs no_step ≡ no_step
unfolding wrapped under
wrapped_none nil = refl
wrapped_none (cons a fs) = ap (under a) (wrapped_none fs)

pub wrapped_beta : (fs : Exprs) (r : Expr) → wrapped fs (beta r) ≡ beta (applied fs r)
unfolding wrapped under applied
wrapped_beta nil r = refl
wrapped_beta (cons a fs) r = ap (under a) (wrapped_beta fs r)

pub wrapped_delta : (fs : Exprs) (v : ℕ) (r : Expr) → wrapped fs (delta v r) ≡ delta v (applied fs r)
unfolding wrapped under applied
wrapped_delta nil v r = refl
wrapped_delta (cons a fs) v r = ap (under a) (wrapped_delta fs v r)

-- ---- the step of an application

pub app_contracts : (ls : Lines) (a p t : Expr) → head_step ls (app a (abs p t)) ≡ beta (substitute a 0 t)
unfolding head_step shape
app_contracts ls a p t = refl

pub app_passes : (ls : Lines) (a b : Expr) → shape b ≡ other → head_step ls (app a b) ≡ under a (head_step ls b)
unfolding head_step
app_passes ls a b e = rw (e, head_step)

pub const_unfolds : (ls : Lines) (v : ℕ) (xs : Exprs) {l : Line} {m : Expr} → IsLine ls v l → l.kind ≡ abbreviation m
    → head_step ls (const v xs) ≡ delta v (instantiate l.context xs 0 m)
unfolding head_step
const_unfolds ls v xs {l} {m} i e =
    let q : (line_of ls v).kind ≡ abbreviation m = ap (λ (z : Line). z.kind) (line_line_of i) ∙ e in
    rw (q, head_step) (ap (λ (z : Line). delta v (instantiate z.context xs 0 m)) (line_line_of i))

pub const_stays : (ls : Lines) (v : ℕ) (xs : Exprs) → ((m : Expr) → (line_of ls v).kind ≡ abbreviation m → ⊥) → head_step ls (const v xs) ≡ no_step
unfolding head_step
const_stays ls v xs n = go (line_of ls v).kind refl
  where
    go : (k : Kind) → (line_of ls v).kind ≡ k
        → elim k as (λ _. Head) [ variable ↦ no_step | primitive ↦ no_step | abbreviation m ↦ delta v (instantiate (line_of ls v).context xs 0 m) ] ≡ no_step
    go variable e = refl
    go primitive e = refl
    go (abbreviation m) e = absurd (n m e)

-- The head step of e, as found in the cells from index `start` on. kind 0: none; 1: a contraction; 2: the unfolding of the
-- constant of line v. at: where the redex starts; kept: the cells before it.
pub data HeadIs (ls : Lines) (start kind at kept v : ℕ) (e : Expr) : Type 0 where
  no_head : head_step ls e ≡ no_step → kind ≡ 0 → HeadIs ls start kind at kept v e
  contraction : (fs : Exprs) (a p t : Expr) → e ≡ applied fs (app a (abs p t)) → head_step ls e ≡ beta (applied fs (substitute a 0 t))
      → kind ≡ 1 → at ≡ start + length (front fs) → kept ≡ length (front fs) → HeadIs ls start kind at kept v e
  unfolding_of : (fs : Exprs) (xs : Exprs) (l : Line) (m : Expr) → e ≡ applied fs (const v xs) → IsLine ls v l → l.kind ≡ abbreviation m
      → head_step ls e ≡ delta v (applied fs (instantiate l.context xs 0 m)) → kind ≡ 2 → at ≡ start + length (front fs) → kept ≡ length (front fs)
      → HeadIs ls start kind at kept v e
