-- The category of an expression by its first cell, from what the functions below it leave.
use mathlib.Core.Path.{◌≡◌, refl, sym, ap}
use mathlib.Core.List.{List}
use Prim.Native.Nat.{ℕ, ◌/◌, ◌%◌, ◌≤◌}
use native.Mathlib.Omega.{arith}
use lib.ListN.{length, get_or}
use Rattle.aut68.specs.Expr as Expr
use Rattle.aut68.specs.Sizes.{cell_factor, nesting, at_context}
use Rattle.aut68.specs.Language.{aut68}
use Rattle.aut68.specs.Expr.{Expr, Exprs, type, prop, var, bound, const, app, abs, nil, cons, sizes, first_cell, count_exprs}
use Rattle.aut68.specs.Lines.{Lines, row_cell}
use Rattle.aut68.specs.Rules.Serving.{Basic, a_type, a_prop, itself}
use Rattle.aut68.specs.Rules.Resolved.{Scoped, ConstantOf, VariableLine}
use Rattle.calculus.specs.Scoped.{scoped_ends}
use Rattle.calculus.specs.FoundKnown.{found_known}
use Rattle.cells.specs.Forests.{at_first, at_inside, cells_long}
use Rattle.cells.specs.Stores.{outside_same}
use Rattle.cells.specs.declared.scope.Scope.{Scope}
use Rattle.heads.specs.Book.{Book}
use Rattle.levels.specs.FoundPosts.{Finds, FindsKnown}
use Rattle.levels.specs.LeafPosts.{StoredPost, BoundPost}
use Rattle.levels.specs.Spots.{frames}
use Rattle.levels.specs.Parts.{domain_of}
use Rattle.levels.specs.ArgumentPosts.{ConstantPost}
use Rattle.typing.specs.Answers.{result_and}
use Rattle.categories.specs.AnyDepth.{category68}
use Rattle.categories.specs.Places.{Expression}
use Rattle.categories.specs.Posts.{Categorises, CategoryPost, ApplicationPost, AbstractionPost, ArgumentsPost}
use Rattle.categories.proofs.Clauses.{came, passed_holds, constant_clause, variable_is, alone_is, bound_clause}
use Rattle.categories.proofs.Within.{part, part_length, levels_positive, arguments_in}

-- what is found is known
pub finds_known : {ls : Lines} {tb ts e : List ℕ} {scope : Scope} {limit level : ℕ} {w' : List ℕ} {level' code n rest : ℕ} {sc : List Expr} (x : Expr) (budget : ℕ)
    → Book ls limit tb ts → Expression ls ts e scope limit level sc x → Finds w' limit level' code n rest (category68 ls limit sc x budget)
    → FindsKnown ls (length sc) w' limit level' code n rest (category68 ls limit sc x budget)
finds_known {ls} {limit = limit} {rest = rest} {sc = sc} x budget B E h =
    result_and h (λ c q. found_known aut68 ls B.resolved limit 1 sc E.known_scope x c budget rest E.known q)

-- a string of no expression has no cell
pub no_sizes : (xs : Exprs) → count_exprs xs ≡ 0 → sizes xs ≡ 0
unfolding count_exprs sizes
no_sizes nil h = refl
no_sizes (cons x xs) h = absurd (omega arith)

module _ {tb ts e : List ℕ} {scope : Scope} {w : List ℕ} {limit budget level : ℕ} where
  -- ---- what no known expression is

  pub category_deep : {code n rest : ℕ} → nesting ≤ level → CategoryPost tb ts e scope w limit budget level w code n 0 rest
  category_deep h = record {
    frame = λ small. outside_same;
    within = omega arith;
    means = λ x. record {
      finds = λ B room E. absurd (omega (arith, levels_positive x, E.shallow));
      spans = λ B room E. absurd (omega (arith, levels_positive x, E.shallow));
    };
  }

  pub category_empty : {code n rest : ℕ} → length e ≡ 0 → CategoryPost tb ts e scope w limit budget level w code n 0 rest
  category_empty h = record {
    frame = λ small. outside_same;
    within = omega arith;
    means = λ x. record {
      finds = λ B room E. absurd (omega (arith, at_inside x E.at, cells_long x));
      spans = λ B room E. absurd (omega (arith, at_inside x E.at, cells_long x));
    };
  }

  -- ---- by the first cell

  module _ {w' : List ℕ} {code n extent rest : ℕ} where
    -- an expression of another kind does not lie there
    other_kind : (x : Expr) → (first_cell x % cell_factor ≡ get_or e 0 0 % cell_factor → ⊥) → Categorises tb ts e scope w limit budget level w' code n extent rest x
    other_kind x h = record {
      finds = λ B room E. absurd (h (ap (λ (k : ℕ). k % cell_factor) (sym (at_first x E.at))));
      spans = λ B room E. absurd (h (ap (λ (k : ℕ). k % cell_factor) (sym (at_first x E.at))));
    }

    -- nor does `type` or `prop`, which are no known expressions
    no_sort : {s : Expr} → Basic s → Categorises tb ts e scope w limit budget level w' code n extent rest s
    no_sort {s} b = record {
      finds = λ {ls} {sc} B room E. absurd (scoped_ends (VariableLine ls) (ConstantOf ls) (length sc) s b itself E.known);
      spans = λ {ls} {sc} B room E. absurd (scoped_ends (VariableLine ls) (ConstantOf ls) (length sc) s b itself E.known);
    }

    by_var : (v' v : ℕ) → v ≡ get_or e 0 0 / cell_factor → StoredPost tb ts w limit budget level v w' code n extent rest
        → Categorises tb ts e scope w limit budget level w' code n extent rest (var v')
    unfolding Scoped first_cell Expr.size
    by_var v' v q P = record {
      finds = λ {ls} {sc} B room E.
          let k : v ≡ v' = omega (arith, at_first (var v') E.at) in
          let P₁ : StoredPost tb ts w limit budget level v' w' code n extent rest = rw k at P in
          rw (variable_is ls limit sc budget E.known.is_line) (P₁.means B room E.known.is_line);
      spans = λ B room E. P.spans.is;
    }

    pub by_variable_lem : {v : ℕ} → 1 ≤ length e → get_or e 0 0 % cell_factor ≡ 1 → v ≡ get_or e 0 0 / cell_factor → StoredPost tb ts w limit budget level v w' code n extent rest
        → CategoryPost tb ts e scope w limit budget level w' code n extent rest
    unfolding first_cell
    by_variable_lem {v} m h q P = record { frame = P.frame; within = omega (arith, P.spans.within); means = go }
      where
        go : (x : Expr) → Categorises tb ts e scope w limit budget level w' code n extent rest x
        go type = no_sort a_type
        go prop = no_sort a_prop
        go (var v') = by_var v' v q P
        go (bound i) = other_kind (bound i) (λ z. omega arith)
        go (const u xs) = other_kind (const u xs) (λ z. omega arith)
        go (app a b) = other_kind (app a b) (λ z. omega arith)
        go (abs p t) = other_kind (abs p t) (λ z. omega arith)

    by_index : (i v : ℕ) → v ≡ get_or e 0 0 / cell_factor → BoundPost tb ts scope w limit budget level v w' code n extent rest
        → Categorises tb ts e scope w limit budget level w' code n extent rest (bound i)
    unfolding Scoped first_cell Expr.size
    by_index i v q P = record {
      finds = λ {ls} {sc} B room E.
          let k : v ≡ i = omega (arith, at_first (bound i) E.at) in
          let P₁ : BoundPost tb ts scope w limit budget level i w' code n extent rest = rw k at P in
          let (p, d) = domain_of sc i E.known in
          bound_clause ls limit sc budget d (P₁.means B room E.holds E.known_scope d);
      spans = λ B room E. P.spans.is;
    }

    pub by_bound_lem : {v : ℕ} → 1 ≤ length e → get_or e 0 0 % cell_factor ≡ 2 → v ≡ get_or e 0 0 / cell_factor → BoundPost tb ts scope w limit budget level v w' code n extent rest
        → CategoryPost tb ts e scope w limit budget level w' code n extent rest
    unfolding first_cell
    by_bound_lem {v} m h q P = record { frame = P.frame; within = omega (arith, P.spans.within); means = go }
      where
        go : (x : Expr) → Categorises tb ts e scope w limit budget level w' code n extent rest x
        go type = no_sort a_type
        go prop = no_sort a_prop
        go (var v') = other_kind (var v') (λ z. omega arith)
        go (bound i) = by_index i v q P
        go (const u xs) = other_kind (const u xs) (λ z. omega arith)
        go (app a b) = other_kind (app a b) (λ z. omega arith)
        go (abs p t) = other_kind (abs p t) (λ z. omega arith)

    pub by_application_lem : get_or e 0 0 % cell_factor ≡ 4 → ApplicationPost tb ts e scope w limit budget level w' code n extent rest
        → CategoryPost tb ts e scope w limit budget level w' code n extent rest
    unfolding first_cell
    by_application_lem h P = record { frame = P.frame; within = P.within; means = go }
      where
        go : (x : Expr) → Categorises tb ts e scope w limit budget level w' code n extent rest x
        go type = no_sort a_type
        go prop = no_sort a_prop
        go (var v') = other_kind (var v') (λ z. omega arith)
        go (bound i) = other_kind (bound i) (λ z. omega arith)
        go (const u xs) = other_kind (const u xs) (λ z. omega arith)
        go (app a b) = P.means a b
        go (abs p t) = other_kind (abs p t) (λ z. omega arith)

    pub by_abstraction_lem : get_or e 0 0 % cell_factor ≡ 5 → AbstractionPost tb ts e scope w limit budget level w' code n extent rest
        → CategoryPost tb ts e scope w limit budget level w' code n extent rest
    unfolding first_cell
    by_abstraction_lem h P = record { frame = P.frame; within = P.within; means = go }
      where
        go : (x : Expr) → Categorises tb ts e scope w limit budget level w' code n extent rest x
        go type = no_sort a_type
        go prop = no_sort a_prop
        go (var v') = other_kind (var v') (λ z. omega arith)
        go (bound i) = other_kind (bound i) (λ z. omega arith)
        go (const u xs) = other_kind (const u xs) (λ z. omega arith)
        go (app a b) = other_kind (app a b) (λ z. omega arith)
        go (abs p t) = P.means p t

    -- a constant, by what is found for it
    by_const : get_or e 0 0 % cell_factor ≡ 3 → ((u : ℕ) (xs : Exprs) → Categorises tb ts e scope w limit budget level w' code n extent rest (const u xs)) → (x : Expr)
        → Categorises tb ts e scope w limit budget level w' code n extent rest x
    unfolding first_cell
    by_const h f type = no_sort a_type
    by_const h f prop = no_sort a_prop
    by_const h f (var v') = other_kind (var v') (λ z. omega arith)
    by_const h f (bound i) = other_kind (bound i) (λ z. omega arith)
    by_const h f (const u xs) = f u xs
    by_const h f (app a b) = other_kind (app a b) (λ z. omega arith)
    by_const h f (abs p t) = other_kind (abs p t) (λ z. omega arith)

    -- without arguments: the category on its line
    by_line_lem : (u : ℕ) (xs : Exprs) (v : ℕ) → v ≡ get_or e 0 0 / cell_factor → row_cell tb v at_context ≡ 0 → StoredPost tb ts w limit budget level v w' code n extent rest
        → Categorises tb ts e scope w limit budget level w' code n extent rest (const u xs)
    unfolding Scoped first_cell Expr.size
    by_line_lem u xs v q z P = record {
      finds = λ {ls} {sc} B room E.
          let k : v ≡ u = omega (arith, at_first (const u xs) E.at) in
          let P₁ : StoredPost tb ts w limit budget level u w' code n extent rest = rw k at P in
          let z₁ : row_cell tb u at_context ≡ 0 = rw k at z in
          let i = E.known.0.is_line in
          let r = (B.rows.row i).context_is in
          rw (alone_is ls limit sc budget xs i (omega arith) (omega (arith, E.known.0.as_many))) (P₁.means B room i);
      spans = λ {ls} {sc} B room E y.
          let k : v ≡ u = omega (arith, at_first (const u xs) E.at) in
          let z₁ : row_cell tb u at_context ≡ 0 = rw k at z in
          let r = (B.rows.row E.known.0.is_line).context_is in
          let s = no_sizes xs (omega (arith, E.known.0.as_many)) in
          omega (arith, P.spans.is y);
    }

    pub by_alone : {v : ℕ} → 1 ≤ length e → get_or e 0 0 % cell_factor ≡ 3 → v ≡ get_or e 0 0 / cell_factor → row_cell tb v at_context ≡ 0 → StoredPost tb ts w limit budget level v w' code n extent rest
        → CategoryPost tb ts e scope w limit budget level w' code n extent rest
    by_alone {v} m h q z P = record { frame = P.frame; within = omega (arith, P.spans.within); means = by_const h (λ u xs. by_line_lem u xs v q z P) }

    -- with arguments: these, and then what is left to do
    by_arguments : {w₁ : List ℕ} {passed₁ extent₁ : ℕ} {starts : List ℕ} {rest₁ : ℕ} (u : ℕ) (xs : Exprs) (v : ℕ) → v ≡ get_or e 0 0 / cell_factor
        → ArgumentsPost tb ts (part e 1) scope w limit budget level v w₁ passed₁ extent₁ starts rest₁
        → ConstantPost tb ts w₁ limit passed₁ extent₁ starts rest₁ level v w' code n extent rest → Categorises tb ts e scope w limit budget level w' code n extent rest (const u xs)
    unfolding Scoped first_cell Expr.size
    by_arguments {w₁} {passed₁} {extent₁} {starts} {rest₁} u xs v q A C = record {
      finds = λ {ls} {sc} B room E.
          let k : v ≡ u = omega (arith, at_first (const u xs) E.at) in
          let A₁ : ArgumentsPost tb ts (part e 1) scope w limit budget level u w₁ passed₁ extent₁ starts rest₁ = rw k at A in
          let C₁ : ConstantPost tb ts w₁ limit passed₁ extent₁ starts rest₁ level u w' code n extent rest = rw k at C in
          let i = E.known.0.is_line in
          let c = E.known.0.as_many in
          constant_clause ls limit sc budget xs i
          (C₁.means B (omega (arith, (A.frame B.limit).long)) i c E.holds.few E.known.1 (A₁.means B room i c (arguments_in u xs E)));
      spans = λ {ls} {sc} B room E z.
          let k : v ≡ u = omega (arith, at_first (const u xs) E.at) in
          let A₁ : ArgumentsPost tb ts (part e 1) scope w limit budget level u w₁ passed₁ extent₁ starts rest₁ = rw k at A in
          let C₁ : ConstantPost tb ts w₁ limit passed₁ extent₁ starts rest₁ level u w' code n extent rest = rw k at C in
          let i = E.known.0.is_line in
          let c = E.known.0.as_many in
          let M = A₁.means B room i c (arguments_in u xs E) in
          let y = came _ z (C₁.means B (omega (arith, (A.frame B.limit).long)) i c E.holds.few E.known.1 M) M in
          omega (arith, C.spans.is z, (passed_holds y M).1);
    }

    pub by_constant_lem : {w₁ : List ℕ} {v passed₁ extent₁ : ℕ} {starts : List ℕ} {rest₁ : ℕ} → 1 ≤ length e → get_or e 0 0 % cell_factor ≡ 3 → v ≡ get_or e 0 0 / cell_factor
        → ArgumentsPost tb ts (part e 1) scope w limit budget level v w₁ passed₁ extent₁ starts rest₁
        → ConstantPost tb ts w₁ limit passed₁ extent₁ starts rest₁ level v w' code n extent rest → CategoryPost tb ts e scope w limit budget level w' code n extent rest
    by_constant_lem {v = v} m h q A C = record {
      frame = λ small. frames (omega arith) (A.frame small) (C.frame small);
      within = omega (arith, C.spans.within, A.within, part_length e 1);
      means = by_const h (λ u xs. by_arguments u xs v q A C);
    }

    -- no expression
    pub by_nothing : (get_or e 0 0 % cell_factor ≡ 1 → ⊥) → (get_or e 0 0 % cell_factor ≡ 2 → ⊥) → (get_or e 0 0 % cell_factor ≡ 3 → ⊥)
        → (get_or e 0 0 % cell_factor ≡ 4 → ⊥) → (get_or e 0 0 % cell_factor ≡ 5 → ⊥) → extent ≡ 0 → w' ≡ w
        → CategoryPost tb ts e scope w limit budget level w' code n extent rest
    unfolding first_cell
    by_nothing h₁ h₂ h₃ h₄ h₅ s q = record { frame = λ small. rw q outside_same; within = omega arith; means = go }
      where
        go : (x : Expr) → Categorises tb ts e scope w limit budget level w' code n extent rest x
        go type = no_sort a_type
        go prop = no_sort a_prop
        go (var v') = other_kind (var v') (λ z. h₁ (omega arith))
        go (bound i) = other_kind (bound i) (λ z. h₂ (omega arith))
        go (const u xs) = other_kind (const u xs) (λ z. h₃ (omega arith))
        go (app a b) = other_kind (app a b) (λ z. h₄ (omega arith))
        go (abs p t) = other_kind (abs p t) (λ z. h₅ (omega arith))
