-- Expressions inside an expression: where they lie, and what is known of them.
use mathlib.Core.Path.{◌≡◌, refl, sym, ap, ◌∙◌}
use mathlib.Core.List.{List, [], ◌∷◌, ◌++◌}
use Prim.Native.Nat.{ℕ, suc, ◌+◌, ◌-◌, ◌≤◌, ◌<◌}
use native.Mathlib.Omega.{arith}
use native.Mathlib.Nat.{add-zero}
use lib.ListN.{length, get_or, take, drop, set, length-drop, length-set}
use lib.Seq.{take_all, drop-drop, get_or-drop, get_or-set_same, get_or-set_other}
use Rattle.aut68.specs.Sizes.{largest_limit, nesting}
use Rattle.aut68.specs.Expr.{Expr, Exprs, type, prop, var, bound, const, app, abs, nil, cons, size, cells, cellss, parts, count_exprs, levels}
use Rattle.aut68.specs.Lines.{Lines}
use Rattle.aut68.specs.Rules.Categories.{DomainAt, innermost, outside}
use Rattle.aut68.specs.Rules.Resolved.{Scoped}
use Rattle.calculus.specs.Scoped.{ScopedScope}
use Rattle.cells.specs.Cells.{At, Formed, Wf}
use Rattle.cells.specs.Forests.{at_inside, at_parts, at_one, cells_one, cells_long}
use Rattle.cells.specs.Posts.{Skipped, Bindable, Bound}
use Rattle.cells.specs.declared.scope.Scope.{Scope}
use Rattle.levels.specs.Places.{DomainCells, ScopeHolds}
use Rattle.levels.specs.Parts.{domain_inside, application_argument, application_function, abstraction_domain, abstraction_body}
use Rattle.categories.specs.Places.{Expression, Arguments}

-- ---- a part of a slice that goes to its end

abbrev pub part : List ℕ → ℕ → List ℕ
part s a = take (length s - a) (drop a s)

pub part_is : (s : List ℕ) (a : ℕ) → part s a ≡ drop a s
part_is s a = take_all (length s - a) (drop a s) (omega (arith, length-drop a s))

pub part_length : (s : List ℕ) (a : ℕ) → length (part s a) ≡ length s - a
part_length s a = ap length (part_is s a) ∙ length-drop a s

pub part_first : (s : List ℕ) (a : ℕ) → get_or (part s a) 0 0 ≡ get_or s a 0
part_first s a = ap (λ (l : List ℕ). get_or l 0 0) (part_is s a) ∙ get_or-drop a s 0 0 ∙ ap (λ (k : ℕ). get_or s k 0) (add-zero a)

pub at_part : {s : List ℕ} {a : ℕ} {xs rest : List ℕ} → At s a xs rest → At (part s a) 0 xs rest
at_part {s} {a} h = record { is = part_is s a ∙ h.is }

-- a part of the last part of the store is one too
pub part_of : (ts e : List ℕ) (a : ℕ) → a ≤ length e → e ≡ drop (length ts - length e) ts → part e a ≡ drop (length ts - length (part e a)) ts
part_of ts e a h p =
    let l : length e ≡ length ts - (length ts - length e) = ap length p ∙ length-drop (length ts - length e) ts in
    let k : length ts - length e + a ≡ length ts - length (part e a) = omega (arith, part_length e a) in
    part_is e a ∙ ap (drop a) p ∙ drop-drop a (length ts - length e) ts ∙ ap (λ (i : ℕ). drop i ts) k

-- what lies in it lies in the store
pub at_store : {ts e : List ℕ} {a : ℕ} {xs rest : List ℕ} → e ≡ drop (length ts - length e) ts → At e a xs rest → At ts (length ts - length e + a) xs rest
at_store {ts} {e} {a} p h = record { is = sym (drop-drop a (length ts - length e) ts) ∙ ap (drop a) (sym p) ∙ h.is }

-- ---- sizes and depths

pub levels_positive : (x : Expr) → 1 ≤ levels x
unfolding levels
levels_positive type = omega arith
levels_positive prop = omega arith
levels_positive (var v) = omega arith
levels_positive (bound i) = omega arith
levels_positive (const v xs) = omega arith
levels_positive (app a b) = omega arith
levels_positive (abs p t) = omega arith

-- the end of one expression
pub skip_one : {tb s : List ℕ} {from r : ℕ} (x : Expr) {rest : List ℕ} → Skipped tb s from 1 r → Wf tb x → At s from (cells x) rest → r ≡ from + length (cells x)
unfolding count_exprs Formed
skip_one {from = from} x {rest} S f a = S.ends (cons x nil) rest refl (f, tt) (at_one x a) ∙ ap (λ (l : List ℕ). from + length l) (cells_one x)

-- ---- a binding more

module _ {ts : List ℕ} {limit : ℕ} {scope inner : Scope} {sc : List Expr} {start len : ℕ} (p : Expr) {rest : List ℕ} (H : ScopeHolds ts limit scope sc) (few : length sc < nesting)
    (B : Bound scope start len inner) (a : At ts start (cells p) rest) (s : len ≡ size p) (m : size p ≤ limit) (small : limit ≤ largest_limit) where
  bindable : Bindable scope start len
  bindable = record {
    shallow = omega (arith, H.deep);
    few = omega (arith, H.counted);
    start_fits = omega (arith, at_inside p a, H.short);
    len_fits = omega arith;
  }

  domain_bound : {q : Expr} {i : ℕ} → DomainAt q (p ∷ sc) i → DomainCells ts limit inner (suc (length sc) - suc i) q
  domain_bound innermost =
      let k : suc (length sc) - 1 ≡ scope.bound = omega (arith, H.counted) in
      let x : get_or inner.starts (suc (length sc) - 1) 0 ≡ start =
      ap (λ (l : List ℕ). get_or l (suc (length sc) - 1) 0) (B.starts_are bindable) ∙ ap (λ (i : ℕ). get_or (set scope.starts scope.bound start) i 0) k
      ∙ get_or-set_same scope.starts scope.bound start 0 (omega (arith, H.starts_long))
      in
      let y : get_or inner.lens (suc (length sc) - 1) 0 ≡ len =
      ap (λ (l : List ℕ). get_or l (suc (length sc) - 1) 0) (B.lens_are bindable) ∙ ap (λ (i : ℕ). get_or (set scope.lens scope.bound len) i 0) k
      ∙ get_or-set_same scope.lens scope.bound len 0 (omega (arith, H.lens_long))
      in
      record { small = m; sized = y ∙ s; behind = rest; at = rw x a }
  domain_bound {q} (outside {i = i} e) =
      let D = H.domain e in
      let h = domain_inside e in
      let k : suc (length sc) - suc (suc i) ≡ length sc - suc i = omega arith in
      let n : (length sc - suc i ≡ scope.bound → ⊥) = λ z. omega (arith, H.counted) in
      let x : get_or inner.starts (suc (length sc) - suc (suc i)) 0 ≡ get_or scope.starts (length sc - suc i) 0 =
      ap (λ (j : ℕ). get_or inner.starts j 0) k ∙ ap (λ (l : List ℕ). get_or l (length sc - suc i) 0) (B.starts_are bindable)
      ∙ get_or-set_other scope.starts scope.bound (length sc - suc i) start 0 n
      in
      let y : get_or inner.lens (suc (length sc) - suc (suc i)) 0 ≡ get_or scope.lens (length sc - suc i) 0 =
      ap (λ (j : ℕ). get_or inner.lens j 0) k ∙ ap (λ (l : List ℕ). get_or l (length sc - suc i) 0) (B.lens_are bindable)
      ∙ get_or-set_other scope.lens scope.bound (length sc - suc i) len 0 n
      in
      record { small = D.small; sized = y ∙ D.sized; behind = D.behind; at = rw x D.at }

  pub scope_bound : ScopeHolds ts limit inner (p ∷ sc)
  scope_bound = record {
    short = H.short;
    counted = omega (arith, B.more bindable, H.counted);
    deep = omega (arith, B.deeper bindable.shallow, H.deep);
    few = omega arith;
    starts_long = ap length (B.starts_are bindable) ∙ length-set scope.starts scope.bound start ∙ H.starts_long;
    lens_long = ap length (B.lens_are bindable) ∙ length-set scope.lens scope.bound len ∙ H.lens_long;
    domain = λ e. domain_bound e;
  }

-- ---- what is known of the parts

module _ {ls : Lines} {ts e : List ℕ} {scope : Scope} {limit level : ℕ} {sc : List Expr} where
  pub argument_of : (a b : Expr) → Expression ls ts e scope limit level sc (app a b) → Expression ls ts (part e 1) scope limit (level + 1) sc a
  unfolding Scoped size levels
  argument_of a b E =
      let h = application_argument a b E.at in
      record {
        part = part_of ts e 1 (omega (arith, at_inside (app a b) E.at, cells_long (app a b))) E.part;
        behind = _;
        at = at_part h;
        holds = E.holds;
        known_scope = E.known_scope;
        known = E.known.0;
        small = omega (arith, E.small);
        shallow = omega (arith, E.shallow);
        under = omega (arith, E.under);
      }

  pub function_in : {i : ℕ} (a b : Expr) → i ≡ 1 + length (cells a) → Expression ls ts e scope limit level sc (app a b) → Expression ls ts (part e i) scope limit level sc b
  unfolding Scoped size levels
  function_in {i} a b q E =
      let h = application_function a b E.at in
      let k : At e i (cells b) E.behind = rw q h in
      record {
        part = part_of ts e i (omega (arith, at_inside b h)) E.part;
        behind = _;
        at = at_part k;
        holds = E.holds;
        known_scope = E.known_scope;
        known = E.known.1;
        small = omega (arith, E.small);
        shallow = omega (arith, E.shallow);
        under = omega (arith, E.under);
      }

  pub domain_in_lem : (p t : Expr) → Expression ls ts e scope limit level sc (abs p t) → Expression ls ts (part e 1) scope limit level sc p
  unfolding Scoped size levels
  domain_in_lem p t E =
      let h = abstraction_domain p t E.at in
      record {
        part = part_of ts e 1 (omega (arith, at_inside (abs p t) E.at, cells_long (abs p t))) E.part;
        behind = _;
        at = at_part h;
        holds = E.holds;
        known_scope = E.known_scope;
        known = E.known.0;
        small = omega (arith, E.small);
        shallow = omega (arith, E.shallow);
        under = omega (arith, E.under);
      }

  pub body_in_lem : {i start len : ℕ} {inner : Scope} (p t : Expr) → limit ≤ largest_limit → i ≡ 1 + length (cells p) → start ≡ length ts - length e + 1 → len ≡ size p
      → Bound scope start len inner → Expression ls ts e scope limit level sc (abs p t) → Expression ls ts (part e i) inner limit level (p ∷ sc) t
  unfolding Scoped ScopedScope size levels
  body_in_lem {i} {start} {len} p t small q r s B E =
      let h = abstraction_body p t E.at in
      let k : At e i (cells t) E.behind = rw q h in
      let d = at_store E.part (abstraction_domain p t E.at) in
      let d₁ : At ts start (cells p) (cells t ++ [] ++ E.behind) = rw r d in
      record {
        part = part_of ts e i (omega (arith, at_inside t h)) E.part;
        behind = _;
        at = at_part k;
        holds = scope_bound p E.holds (omega (arith, E.under)) B d₁ s (omega (arith, E.small)) small;
        known_scope = (E.known.0, E.known_scope);
        known = E.known.1;
        small = omega (arith, E.small);
        shallow = omega (arith, E.shallow);
        under = omega (arith, E.under);
      }

  pub arguments_in : (v : ℕ) (xs : Exprs) → Expression ls ts e scope limit level sc (const v xs) → Arguments ls ts (part e 1) scope limit level sc xs
  unfolding Scoped size levels parts
  arguments_in v xs E =
      let h : At e 1 (cellss xs) E.behind = at_parts (const v xs) E.at in
      record {
        part = part_of ts e 1 (omega (arith, at_inside (const v xs) E.at, cells_long (const v xs))) E.part;
        behind = _;
        at = at_part h;
        holds = E.holds;
        known_scope = E.known_scope;
        known = E.known.1;
        small = omega (arith, E.small);
        shallow = omega (arith, E.shallow);
        under = omega (arith, E.under);
      }
