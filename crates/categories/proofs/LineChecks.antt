-- The checks of the line at hand.
use mathlib.Core.Path.{◌≡◌, refl, sym, ap, subst, ◌∙◌}
use mathlib.Core.Logic.{◌≢◌, ◌⊎◌, inl, inr}
use mathlib.Core.Bool.{true, false, true≢false}
use mathlib.Core.List.{List, [], append-nil}
use Prim.Native.Nat.{ℕ, suc, ◌+◌, ◌*◌, ◌-◌, ◌≤◌, ◌<◌}
use native.Mathlib.Omega.{arith}
use lib.ListN.{length, get_or, drop, replicate}
use borrow.Author.Tests.{eq-eqb, ne_eqb}
use Rattle.aut68.specs.Sizes.{largest_limit, work_units, nesting}
use Rattle.aut68.specs.Language.{aut68}
use Rattle.aut68.specs.Procedure.Answer.{and_then}
use Rattle.aut68.specs.Expr.{Expr, type, size, cells, first_cell, is_type, levels}
use Rattle.aut68.specs.Lines.{Line, Lines, Kind, variable, primitive, abbreviation, kind_cells}
use Rattle.aut68.specs.Rules.Serving.{Supertype, IsType, the_type, a_supertype}
use Rattle.aut68.specs.Rules.Categories.{DomainAt}
use Rattle.aut68.specs.Procedure.Compare.{compare}
use Rattle.aut68.specs.Procedure.CheckLine.{check_written, check_middle}
use Rattle.aut68.specs.Rules.Resolved.{ConstantOf, VariableLine, Known}
use Rattle.calculus.specs.Scoped.{ScopedScope, category_cases}
use Rattle.calculus.specs.Resolved.{KnownCategory}
use Rattle.cells.specs.Cells.{At, Outside, copy_cells}
use Rattle.cells.specs.Layout.{unit_at, level_unit, unit_below}
use Rattle.cells.specs.Forests.{size_is_length, cells_long, at_first, at_inside, at_behind}
use Rattle.cells.specs.Results.{passed, then_refused, then_passed}
use Rattle.cells.specs.Stores.{outside_same}
use Rattle.cells.specs.CopyLaws.{copy_outside}
use Rattle.cells.specs.declared.scope.Scope.{Scope}
use Rattle.heads.specs.Book.{Book}
use Rattle.reduction.specs.Frames.{frame_of}
use Rattle.levels.specs.Places.{FoundAt, DomainCells, ScopeHolds}
use Rattle.levels.specs.FoundPosts.{Passes, FindsKnown, FoundTypePost}
use Rattle.levels.specs.Spots.{frames, level_below, lies_kept, copied_found, is_type_cell}
use Rattle.typing.specs.ComparisonPosts.{ComparePost}
use Rattle.categories.specs.AnyDepth.{category68}
use Rattle.categories.specs.Places.{Expression, LineCells}
use Rattle.categories.specs.Posts.{CategoryPost, CheckWrittenPost, CheckMiddlePost, CheckCellsPost}
use Rattle.categories.proofs.Clauses.{written_type, written_other}
use Rattle.categories.proofs.Within.{part, part_is, part_length, at_part}
use Rattle.categories.proofs.KindLaws.{finds_known}

-- ---- an expression of the line itself

-- no binding is around it
abbrev pub NoBindings : Scope → Type 0
NoBindings scope = (scope.bound ≡ 0) × (scope.depth ≡ 0) × (scope.starts ≡ replicate nesting 0) × (scope.lens ≡ replicate nesting 0)

no_domain : {ts : List ℕ} {limit : ℕ} {scope : Scope} {p : Expr} {i : ℕ} → DomainAt p [] i → DomainCells ts limit scope (0 - suc i) p
no_domain d = elim d [ ]

scope_none : {ts : List ℕ} {limit : ℕ} {scope : Scope} → length ts < 4294967296 → NoBindings scope → ScopeHolds ts limit scope []
scope_none h n = record {
  short = h;
  counted = n.0;
  deep = n.1;
  few = omega arith;
  starts_long = ap length n.2;
  lens_long = ap length n.3;
  domain = λ d. no_domain d;
}

top_expression : {ls : Lines} {ts : List ℕ} {limit at : ℕ} {scope : Scope} (x : Expr) {rest : List ℕ} → length ts < 4294967296 → NoBindings scope → At ts at (cells x) rest
    → Known ls 0 x → size x ≤ limit → levels x ≤ nesting → Expression ls ts (part ts at) scope limit 0 [] x
unfolding ScopedScope
top_expression {ts = ts} {at = at} x h n a k s m =
    let e : at ≡ length ts - length (part ts at) = omega (arith, part_length ts at, at_inside x a, cells_long x) in
    record {
      part = part_is ts at ∙ ap (λ (i : ℕ). drop i ts) e;
      behind = _;
      at = at_part a;
      holds = scope_none h n;
      known_scope = tt;
      known = k;
      small = s;
      shallow = omega arith;
      under = omega arith;
    }

-- ---- the written category

type_there : {ts : List ℕ} {at : ℕ} (c : Expr) {rest : List ℕ} → At ts at (cells c) rest → get_or ts at 0 ≡ 0 → is_type c ≡ true
type_there c a z = is_type_cell c ∙ eq-eqb (first_cell c) 0 (sym (at_first c a) ∙ z)

no_type_there : {ts : List ℕ} {at : ℕ} (c : Expr) {rest : List ℕ} → At ts at (cells c) rest → get_or ts at 0 ≢ 0 → is_type c ≡ false
no_type_there c a n = is_type_cell c ∙ ne_eqb (first_cell c) 0 (λ z. n (at_first c a ∙ z))

type_68 : {c : Expr} → IsType aut68 c → c ≡ type
type_68 the_type = refl
type_68 (a_supertype x y) = elim x [ ]

known_other : (ls : Lines) (k : ℕ) (c : Expr) → is_type c ≡ false → (Supertype c → IsType aut68 c) → KnownCategory ls k c → Known ls k c
unfolding is_type
known_other ls k c e ends w = go (category_cases (VariableLine ls) (ConstantOf ls) k c w)
  where
    go : Supertype c ⊎ Known ls k c → Known ls k c
    go (inl y) = absurd (true≢false (sym (ap is_type (type_68 (ends y))) ∙ e))
    go (inr x) = x

module _ {tb ts : List ℕ} {at : ℕ} {w : List ℕ} {limit budget : ℕ} where
  pub written_past : {code rest : ℕ} → length ts ≤ at → CheckWrittenPost tb ts at w limit budget w code rest
  written_past h = record { frame = λ small. outside_same; means = λ {ls} {c} B room t a k d s n. absurd (omega (arith, at_inside c a, cells_long c)) }

  pub written_is_type : get_or ts at 0 ≡ 0 → CheckWrittenPost tb ts at w limit budget w 0 budget
  written_is_type z = record { frame = λ small. outside_same; means = λ {ls} {c} B room t a k d s n. written_type ls limit c (type_there c a z) refl refl }

  pub written_found : {scope : Scope} {w₁ : List ℕ} {found size extent rest₁ code rest : ℕ} → get_or ts at 0 ≢ 0 → NoBindings scope
      → CategoryPost tb ts (part ts at) scope w limit budget 0 w₁ found size extent rest₁ → FoundTypePost w₁ limit 0 found size rest₁ code rest
      → CheckWrittenPost tb ts at w limit budget w₁ code rest
  written_found n o C T = record {
    frame = C.frame;
    means = λ {ls} {c} B room t a k d s m.
        let e = no_type_there c a n in
        written_other ls limit budget c e (T.means B.limit ((C.means c).finds B room (top_expression c t o a (known_other ls 0 c e d k) s m)));
  }

-- ---- the middle

module _ {ls : Lines} {ts : List ℕ} {limit start at : ℕ} {l : Line} (X : LineCells ls ts limit start at l) where
  category_at_lem : At ts at (cells l.category) []
  category_at_lem =
      let b = at_behind X.cells_are in
      record { is = ap (λ (i : ℕ). drop i ts) X.ends ∙ b.is ∙ sym (append-nil (cells l.category)) }

-- a line with a middle, or one without
middle_less : (ls : Lines) (L : ℕ) (k : Kind) (c : Expr) (n : ℕ) → length (kind_cells k) ≡ 0 → Passes 0 n (check_middle aut68 ls L k c n)
unfolding check_middle kind_cells
middle_less ls L variable c n h = passed refl tt
middle_less ls L primitive c n h = passed refl tt
middle_less ls L (abbreviation m) c n h = absurd (omega (arith, cells_long m))

-- the middle of a line that has one
record Middle (k : Kind) : Type 0 where
  pub middle : Expr
  pub is : k ≡ abbreviation middle

middle_of : (k : Kind) → 1 ≤ length (kind_cells k) → Middle k
unfolding kind_cells
middle_of variable h = absurd (omega arith)
middle_of primitive h = absurd (omega arith)
middle_of (abbreviation m) h = record { middle = m; is = refl }

module _ {tb ts : List ℕ} {start at : ℕ} {w : List ℕ} {limit budget : ℕ} where
  pub middle_none : at ≤ start → CheckMiddlePost tb ts start at w limit budget w 0 budget
  middle_none h = record {
    frame = λ small. outside_same;
    means = λ {ls} {l} B room X. middle_less ls limit l.kind l.category budget (omega (arith, X.ends));
  }

  pub middle_past : {code rest : ℕ} → length ts < at → CheckMiddlePost tb ts start at w limit budget w code rest
  middle_past h = record {
    frame = λ small. outside_same;
    means = λ {ls} {l} B room X. absurd (omega (arith, at_inside l.category (category_at_lem X)));
  }

  module _ {scope : Scope} {w₁ : List ℕ} {found size extent rest₁ : ℕ} (h : start < at) (o : NoBindings scope)
      (C : CategoryPost tb ts (part ts start) scope w limit budget 0 w₁ found size extent rest₁) where
    -- the category of the middle
    middle_found : {ls : Lines} {l : Line} → Book ls limit tb ts → work_units * limit ≤ length w → LineCells ls ts limit start at l → (M : Middle l.kind)
        → FindsKnown ls 0 w₁ limit 0 found size rest₁ (category68 ls limit [] M.middle budget)
    unfolding kind_cells
    middle_found {ls} {l} B room X M =
        let m = M.middle in
        let a : At ts start (cells m) (cells l.category) = subst (λ (k : Kind). At ts start (kind_cells k) (cells l.category)) M.is X.cells_are in
        let s = X.middle_small m M.is in
        let E = top_expression m X.short o a (X.middle m M.is) s.0 s.1 in
        finds_known m budget B E ((C.means m).finds B room E)

    has_middle : {ls : Lines} {l : Line} → LineCells ls ts limit start at l → Middle l.kind
    has_middle {l = l} X = middle_of l.kind (omega (arith, X.ends))

    middle_clause : (ls : Lines) (l : Line) {code rest : ℕ} → (M : Middle l.kind)
        → Passes code rest (and_then (λ k. compare aut68 ls limit k l.category) (category68 ls limit [] M.middle budget))
        → Passes code rest (check_middle aut68 ls limit l.kind l.category budget)
    unfolding check_middle
    middle_clause ls l {code} {rest} M p = subst (λ (k : Kind). Passes code rest (check_middle aut68 ls limit k l.category budget)) (sym M.is) p

    pub middle_refused : found ≢ 0 → CheckMiddlePost tb ts start at w limit budget w₁ found rest₁
    middle_refused n = record {
      frame = C.frame;
      means = λ {ls} {l} B room X. let M = has_middle X in middle_clause ls l M (then_refused _ n (middle_found B room X M));
    }

    pub middle_compared : {to n : ℕ} {w₂ w₃ : List ℕ} {code rest : ℕ} → found ≡ 0 → n ≡ length ts - at → (limit ≤ largest_limit → to ≡ unit_at limit (level_unit 1)) → w₂ ≡ copy_cells ts at n w₁ to
        → ComparePost tb ts w₂ limit rest₁ 0 1 w₃ code rest → CheckMiddlePost tb ts start at w limit budget w₃ code rest
    middle_compared {to} {n} {w₂} {w₃} z q pt e K = record {
      frame = λ small.
          let U = unit_at limit (level_unit 0) in
          let next : U + limit ≤ unit_at limit (level_unit 1) = unit_below limit (omega arith) in
          let o₂ : Outside U (length w₁) w₁ w₂ = rw e (frame_of (copy_outside ts at n w₁ to) (omega (arith, pt small))) in
          let o₃ : Outside U (length w₂) w₂ w₃ = frame_of (K.frame small) (omega (arith, level_below limit {level = 0} (omega arith))) in
          frames (omega arith) (frames (omega arith) (C.frame small) o₂) o₃;
      means = λ {ls} {l} B room X.
          let M = has_middle X in
          let small = B.limit in
          let a = category_at_lem X in
          let s = size_is_length l.category in
          let r₁ = (C.frame small).long in
          let o : Outside to (to + n) w₁ w₂ = rw e (copy_outside ts at n w₁ to) in
          let F : FoundAt w₂ limit 1 n l.category =
          copied_found w₁ l.category a (omega arith) X.category_small.0 (omega arith) (omega (arith, at_inside l.category a)) (pt small) e
          in
          let next : unit_at limit (level_unit 0) + limit ≤ unit_at limit (level_unit 1) = unit_below limit (omega arith) in
          middle_clause ls l M (then_passed _ z (middle_found B room X M) (λ k f.
          K.means B (omega (arith, o.long)) (omega arith) f.1 X.category (lies_kept limit 0 o (omega (arith, pt small)) f.0.lies) F.lies));
    }

-- ---- both

module _ {tb ts : List ℕ} {start at : ℕ} {w w₁ : List ℕ} {limit budget code₁ rest₁ : ℕ} (W : CheckWrittenPost tb ts at w limit budget w₁ code₁ rest₁) where
  written_passes : {ls : Lines} {l : Line} → Book ls limit tb ts → work_units * limit ≤ length w → LineCells ls ts limit start at l
      → Passes code₁ rest₁ (check_written aut68 ls limit l.category budget)
  written_passes B room X = W.means B room X.short (category_at_lem X) X.category X.ends_only X.category_small.0 X.category_small.1

  pub cells_refused : code₁ ≢ 0 → CheckCellsPost tb ts start at w limit budget w₁ code₁ rest₁
  cells_refused n = record { frame = W.frame; means = λ B room X. then_refused _ n (written_passes B room X) }

  pub cells_checked : {w₂ : List ℕ} {code rest : ℕ} → code₁ ≡ 0 → CheckMiddlePost tb ts start at w₁ limit rest₁ w₂ code rest → CheckCellsPost tb ts start at w limit budget w₂ code rest
  cells_checked z M = record {
    frame = λ small. frames (omega arith) (W.frame small) (M.frame small);
    means = λ B room X. then_passed _ z (written_passes B room X) (λ _ _. M.means B (omega (arith, (W.frame B.limit).long)) X);
  }
