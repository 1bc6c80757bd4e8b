-- An argument among the arguments of a constant, and where it starts.
use mathlib.Core.Path.{◌≡◌, refl, sym, ap, ◌∙◌}
use mathlib.Core.List.{List, ◌++◌, append-nil, append_assoc}
use Prim.Native.Nat.{ℕ, zero, suc, ◌+◌, ◌*◌, ◌≤◌, ◌<◌, max}
use native.Mathlib.Omega.{arith}
use native.Mathlib.Decide.{dec_lt}
use native.Mathlib.Nat.{zero-add}
use lib.ListN.{length}
use Rattle.aut68.specs.Sizes.{cell_values, work_units}
use Rattle.aut68.specs.Procedure.Answer.{and_then}
use Rattle.aut68.specs.Expr.{Expr, Exprs, nil, cons, snoc, size, sizes, cells, cellss, count_exprs, levelss}
use Rattle.aut68.specs.Lines.{Line, Lines}
use Rattle.aut68.specs.Rules.Resolved.{Scoped}
use Rattle.calculus.specs.Resolved.{AllKnown}
use Rattle.cells.specs.Cells.{At}
use Rattle.cells.specs.Forests.{join, cells_join, at_front, at_second, at_inside}
use Rattle.cells.specs.Results.{Result}
use Rattle.cells.specs.declared.scope.Scope.{Scope}
use Rattle.terms.specs.Made.{start_of, StartedTo, Started}
use Rattle.terms.specs.Starts.{start_first, started_more, started_past}
use Rattle.heads.specs.Book.{Book}
use Rattle.levels.specs.Places.{Awaits}
use Rattle.levels.specs.FoundPosts.{Frame}
use Rattle.levels.specs.ArgumentPosts.{NextStart}
use Rattle.typing.specs.FittingPosts.{wanted_fits}
use Rattle.categories.specs.AnyDepth.{category68}
use Rattle.categories.specs.Places.{Expression, Arguments}
use Rattle.categories.proofs.Within.{part, part_of, at_part}

-- ---- an argument among the others

-- the argument at the start of e, for the context variable on line `wanted`: what is left when it was looked at
pub record ArgumentPost (tb ts e : List ℕ) (scope : Scope) (w : List ℕ) (limit budget level wanted base count : ℕ) (starts w' : List ℕ) (code extent rest : ℕ) : Type 0 where
  pub frame : Frame limit (level + 1) w w'
  pub within : extent ≤ length e
  pub means : {ls : Lines} {sc : List Expr} {v : ℕ} {l : Line} {earlier : Exprs} (x : Expr) → Book ls limit tb ts → work_units * limit ≤ length w
      → Awaits ls w limit level (length sc) base count starts wanted v l earlier → Expression ls ts e scope limit (level + 1) sc x
      → Result (λ _. extent ≡ size x) code rest (and_then (wanted_fits ls limit l.context earlier wanted) (category68 ls limit sc x budget))

pub known_front : (ls : Lines) (k : ℕ) (es fs : Exprs) → AllKnown ls k (join es fs) → AllKnown ls k es × AllKnown ls k fs
unfolding Scoped join
known_front ls k nil fs w = (tt, w)
known_front ls k (cons e es) fs w = let r = known_front ls k es fs w.1 in ((w.0, r.0), r.1)

pub sizes_join : (es fs : Exprs) → sizes (join es fs) ≡ sizes es + sizes fs
unfolding sizes join
sizes_join nil fs = omega arith
sizes_join (cons e es) fs = omega (arith, sizes_join es fs)

levels_join : (es fs : Exprs) → levelss (join es fs) ≡ max (levelss es) (levelss fs)
unfolding levelss join
levels_join nil fs = omega arith
levels_join (cons e es) fs = omega (arith, levels_join es fs)

pub join_snoc : (es : Exprs) (a : Expr) (fs : Exprs) → join (snoc es a) fs ≡ join es (cons a fs)
unfolding snoc join
join_snoc nil a fs = refl
join_snoc (cons e es) a fs = ap (cons e) (join_snoc es a fs)

pub count_snoc : (es : Exprs) (a : Expr) → count_exprs (snoc es a) ≡ count_exprs es + 1
unfolding snoc count_exprs
count_snoc nil a = refl
count_snoc (cons e es) a = omega (arith, count_snoc es a)

pub cells_snoc : (es : Exprs) (a : Expr) → cellss (snoc es a) ≡ cellss es ++ cells a
unfolding snoc cellss
cells_snoc nil a = append-nil (cells a)
cells_snoc (cons e es) a = ap (λ (l : List ℕ). cells e ++ l) (cells_snoc es a) ∙ sym (append_assoc (cells e) (cellss es) (cells a))

-- argument a, behind the cells of the earlier ones
pub argument_lies : {s behind : List ℕ} (es : Exprs) (a : Expr) (fs : Exprs) → At s 0 (cellss (join es (cons a fs))) behind → At s (length (cellss es)) (cells a) (cellss fs ++ behind)
unfolding cellss
argument_lies {s} {behind} es a fs h =
    let k : At s 0 (cellss es ++ (cells a ++ cellss fs)) behind = rw (cells_join es (cons a fs)) at h in
    let m : At s (0 + length (cellss es)) (cells a ++ cellss fs) behind = at_second (cellss es) (cells a ++ cellss fs) k in
    at_front (cells a) (cellss fs) (rw (zero-add (length (cellss es))) at m)

pub argument_in : {ls : Lines} {ts s : List ℕ} {scope : Scope} {limit level : ℕ} {sc : List Expr} {at : ℕ} (es : Exprs) (a : Expr) (fs : Exprs) → at ≡ length (cellss es)
    → Arguments ls ts s scope limit level sc (join es (cons a fs)) → Expression ls ts (part s at) scope limit (level + 1) sc a
unfolding Scoped sizes levelss
argument_in {ls} {ts} {s} {sc = sc} {at} es a fs q X =
    let h = argument_lies es a fs X.at in
    let k : At s at (cells a) (cellss fs ++ X.behind) = rw q h in
    record {
      part = part_of ts s at (omega (arith, at_inside a k)) X.part;
      behind = _;
      at = at_part k;
      holds = X.holds;
      known_scope = X.known_scope;
      known = (known_front ls (length sc) es (cons a fs) X.known).1.0;
      small = omega (arith, sizes_join es (cons a fs), X.small);
      shallow = omega (arith, levels_join es (cons a fs), X.shallow);
      under = omega (arith, levels_join es (cons a fs), X.under);
    }

-- ---- where the arguments start

start_front : (es fs : Exprs) (i : ℕ) → i ≤ count_exprs es → start_of (join es fs) i ≡ start_of es i
unfolding start_of join count_exprs
start_front nil fs i h = let e : i ≡ 0 = omega arith in rw e (start_first fs)
start_front (cons e es) fs zero h = refl
start_front (cons e es) fs (suc i) h = ap (λ (k : ℕ). size e + k) (start_front es fs i (omega arith))

-- what is noted of a string holds of its front
pub started_front : {starts : List ℕ} (es fs : Exprs) → StartedTo (count_exprs es) (join es fs) starts → Started es starts
started_front es fs S = record { place = λ i h k. S.place i h k ∙ start_front es fs i h }

pub started_next : {xs : Exprs} {starts starts' : List ℕ} {i at : ℕ} → length starts ≡ 64 → StartedTo i xs starts → NextStart starts (i + 1) at starts' → at ≡ start_of xs (i + 1)
    → at < cell_values → StartedTo (i + 1) xs starts'
started_next {xs} {starts} {starts'} {i} {at} long S N e h = go (dec_lt (i + 1) 64)
  where
    go : Dec (i + 1 < 64) → StartedTo (i + 1) xs starts'
    go (yes k) = rw (N.noted k h) (started_more S (omega arith) e)
    go (no k) = rw (N.past (omega arith)) (started_past S (omega arith))
